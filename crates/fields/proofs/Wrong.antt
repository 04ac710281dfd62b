-- What the machines of a field line refuse with: the byte that is wrong, in its place, in a name or in a value.
-- Assumes nothing.
use Rattle.std.specs.Prelude.{ℕ, ◌≡◌, refl, Bool, ◌&&◌, eqb}
use Rattle.reader.specs.Machine.{Step}
use Rattle.reader.specs.Judged.{pass, judged}
use Rattle.reader.specs.Seq.{first}
use Rattle.reader.specs.Refusals.{Refusal, Refuses}
use Rattle.reader.proofs.Refusals.{passes, refuses_judged, refuses_seq, refuses_branch, refuses_loop}
use Rattle.reader.specs.Tests.{split}
use Rattle.octets.specs.Class.{is_blank, is_token, is_value}
use Rattle.rules.specs.Rules.{Rules}
use Rattle.parts.specs.declared.Error.{Error}
use Rattle.parts.specs.declared.Error.TheVariants.{HeaderValue}
use Rattle.parts.specs.Answers.{fault}
use Rattle.parts.specs.LineEnd.{begin, cr, line_end_step}
use Rattle.gaps.specs.Gap.{gap_step, behind_gap}
use Rattle.names.specs.Name.{token_step, is_colon, colon_step, before_colon, gap_colon, name_step}
use Rattle.names.specs.Name as names
use Rattle.values.specs.Value.{blanks, inside, value_step}
use Rattle.folds.specs.Folded.{value_line_step, joined, next_step, turn, folded_step, nothing_yet, lines_step}
use Rattle.folds.specs.Folded as folds
use Rattle.fields.specs.Wrong.{Wrong, blamed}

wrong : {e : Error} → blamed e ≡ e → (p : ℕ) → Wrong p (fault e p)
wrong o p = record { there = refl; error = o }

-- a line's end
end_refuses : (r : Rules) (x : Error) → blamed x ≡ x → Refuses Wrong (line_end_step r x)
end_refuses r x o begin p b = split (Refusal (Wrong p)) (eqb b 13) (λ _. tt) (λ _. split (Refusal (Wrong p)) (r.lf_alone && eqb b 10) (λ _. tt) (λ _. wrong o p))
end_refuses r x o cr p b = split (Refusal (Wrong p)) (eqb b 10) (λ _. tt) (λ _. wrong o p)

value_refuses : Refuses Wrong value_step
value_refuses blanks p b = split (Refusal (Wrong p)) (is_blank b) (λ _. tt) (λ _. split (Refusal (Wrong p)) (is_value b) (λ _. tt) (λ _. tt))
value_refuses (inside v e) p b = split (Refusal (Wrong p)) (is_value b) (λ _. tt) (λ _. tt)

-- a gap refuses nothing
gap_refuses : (class : ℕ → Bool) {S A F : Type 0} (P : ℕ → F → Type 0) (m : Step S A F) (s : S) → Refuses P m → Refuses P (behind_gap class m s)
gap_refuses class P m s M = refuses_seq P (gap_step class) (λ _. s) (λ _. m) (λ _ p b. split (Refusal (P p)) (class b) (λ _. tt) (λ _. tt)) (λ _. M)

token_refuses : Refuses Wrong token_step
token_refuses names.none p b = split (Refusal (Wrong p)) (is_token b) (λ _. tt) (λ _. wrong refl p)
token_refuses (names.some a) p b = split (Refusal (Wrong p)) (is_token b) (λ _. tt) (λ _. tt)

colon_refuses : Refuses Wrong colon_step
colon_refuses s p b = split (Refusal (Wrong p)) (is_colon b) (λ _. tt) (λ _. wrong refl p)

pub name_refuses : (r : Rules) → Refuses Wrong (name_step r)
name_refuses r =
    refuses_seq Wrong token_step (λ _. first tt) (λ n. judged (λ _. pass n) (λ e. e) (gap_colon r)) token_refuses (λ n.
    refuses_judged Wrong Wrong (λ _. pass n) (λ e. e) (gap_colon r) (passes Wrong (λ _. n)) (λ p e h. h) (gap_refuses (before_colon r) Wrong colon_step tt colon_refuses))

-- a value, over its lines
value_line_refuses : (r : Rules) → Refuses Wrong (value_line_step r)
value_line_refuses r =
    refuses_seq Wrong value_step (λ v. begin) (λ v. judged (λ _. pass v) (λ e. e) (line_end_step r HeaderValue)) value_refuses (λ v.
    refuses_judged Wrong Wrong (λ _. pass v) (λ e. e) (line_end_step r HeaderValue) (passes Wrong (λ _. v)) (λ p e h. h) (end_refuses r HeaderValue refl))

pub lines_refuses : (r : Rules) → Refuses Wrong (lines_step r)
lines_refuses r =
    refuses_branch Wrong (λ _. r.multiline_headers) (folded_step r) (nothing_yet, first (first blanks)) (value_line_step r) (first blanks)
    (refuses_loop (λ _. first (first blanks)) Wrong (folds.lap_step r) (λ a.
    refuses_seq Wrong (value_line_step r) (λ v. tt) (λ v. judged (λ t. pass (turn (joined a v) t)) (λ e. e) next_step) (value_line_refuses r) (λ v.
    refuses_judged Wrong Wrong (λ t. pass (turn (joined a v) t)) (λ e. e) next_step (passes Wrong (turn (joined a v))) (λ p e h. h) (λ _ p b. tt))))
    (value_line_refuses r)
