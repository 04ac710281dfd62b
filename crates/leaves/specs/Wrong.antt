-- Where a name and a value over its lines are wrong: exactly which bytes stand before the one that is refused.
-- Assumes nothing.
use Rattle.std.specs.Prelude.{ℕ, ◌+◌, ◌≡◌, refl, List, [], ◌∷◌, ◌++◌, Bool, false, ◌&&◌, eqb, length}
use Rattle.std.proofs.Common.{arith, sym, subst, eqb-true}
use Rattle.reader.specs.Machine.{refused, after, run}
use Rattle.reader.specs.Judged.{pass, judged}
use Rattle.reader.specs.Seq.{first}
use Rattle.reader.specs.Branch.{fresh}
use Rattle.reader.specs.Refusals.{Refusal, Refuses}
use Rattle.reader.specs.Tests.{split, never}
use Rattle.exact.specs.Exact.{Relation, Part}
use Rattle.exact.specs.Branch.{Forks}
use Rattle.exact.specs.Refusing.{Refusing, Never, Either, LapsTo}
use Rattle.exact.proofs.Refusing.{refusing_never, refusing_judged, refusing_seq, refusing_branch, refusing_loop}
use Rattle.octets.specs.Class.{is_blank, is_token, is_value}
use Rattle.rules.specs.Rules.{Rules}
use Rattle.parts.specs.declared.Error.{Error}
use Rattle.parts.specs.declared.Error.TheVariants.{HeaderName, HeaderValue}
use Rattle.parts.specs.declared.Fault.{Fault}
use Rattle.parts.specs.declared.Piece.{Piece}
use Rattle.parts.specs.Answers.{fault}
use Rattle.parts.specs.LineEnd.{begin, cr, line_end_step}
use Rattle.gaps.specs.Gap.{gap_step}
use Rattle.names.specs.Name.{none, some, token_step, is_colon, colon_step, before_colon, gap_colon, name_step}
use Rattle.values.specs.Value.{blanks, inside, value_step}
use Rattle.folds.specs.Folded.{value_line_step, joined, next_step, turn, lap_step, folded_step, nothing_yet, lines_step, folded_fresh}
use Rattle.leaves.specs.Gap.{Gapped, exact_gap}
use Rattle.leaves.specs.Name.{Tokened, exact_token}
use Rattle.leaves.specs.Value.{Valued, exact_value}
use Rattle.leaves.specs.Folded.{LineValued, LapValued, exact_value_line, exact_lap, lap_longer}

-- the first byte is not of a class
pub record FirstWrong (class : ℕ → Bool) (e : Error) (p : ℕ) (w : List ℕ) (x : Fault) (rest : List ℕ) : Type 0 where
  pub b : ℕ
  pub ys : List ℕ
  pub nothing : w ≡ []
  pub whole : rest ≡ b ∷ ys
  pub outside : class b ≡ false
  pub is : x ≡ fault e p

-- what is refused of the first byte of an input stands before nothing else
first_part : (class : ℕ → Bool) (e : Error) (p b : ℕ) (bs : List ℕ) {x : Fault} {q : ℕ} → class b ≡ false → fault e p ≡ x → p ≡ q → Part (FirstWrong class e) p (b ∷ bs) x q
first_part class e p b bs t i j = record { w = []; rest = b ∷ bs; whole = refl; place = omega (arith, j); holds = record { b = b; ys = bs; nothing = refl; whole = refl; outside = t; is = sym i } }

never_inside : (a : ℕ) (xs : List ℕ) (p : ℕ) (x : Fault) (q : ℕ) → run token_step (some a) p xs ≡ refused x q → ⊥
never_inside a [] p x q = λ e. never cc
never_inside a (b ∷ bs) p x q =
    let ih = never_inside a bs (p + 1) x q in
    split (λ u. after u p (λ s. run token_step s (p + 1) bs) ≡ refused x q → ⊥) (is_token b) (λ _ e. ih e) (λ _ e. never cc)

token_wrong : (p : ℕ) (xs : List ℕ) (x : Fault) (q : ℕ) → run token_step none p xs ≡ refused x q → Part (FirstWrong is_token HeaderName) p xs x q
token_wrong p [] x q = λ e. never cc
token_wrong p (b ∷ bs) x q =
    split (λ u. after u p (λ s. run token_step s (p + 1) bs) ≡ refused x q → Part (FirstWrong is_token HeaderName) p (b ∷ bs) x q) (is_token b)
    (λ _ e. absurd (never_inside p bs (p + 1) x q e))
    (λ t e. let i : fault HeaderName p ≡ x = cc in let j : p ≡ q = cc in first_part is_token HeaderName p b bs t i j)

refusing_token : Refusing token_step none (FirstWrong is_token HeaderName)
refusing_token = record { sound = token_wrong; complete = λ p w rest x K. let n : p + 0 ≡ p = omega arith in rw (K.nothing, K.whole, K.outside, K.is, n) }

colon_wrong : (p : ℕ) (xs : List ℕ) (x : Fault) (q : ℕ) → run colon_step tt p xs ≡ refused x q → Part (FirstWrong is_colon HeaderName) p xs x q
colon_wrong p [] x q = λ e. never cc
colon_wrong p (b ∷ bs) x q =
    split (λ u. after u p (λ s. run colon_step s (p + 1) bs) ≡ refused x q → Part (FirstWrong is_colon HeaderName) p (b ∷ bs) x q) (is_colon b)
    (λ _ e. never cc)
    (λ t e. let i : fault HeaderName p ≡ x = cc in let j : p ≡ q = cc in first_part is_colon HeaderName p b bs t i j)

refusing_colon : Refusing colon_step tt (FirstWrong is_colon HeaderName)
refusing_colon = record { sound = colon_wrong; complete = λ p w rest x K. let n : p + 0 ≡ p = omega arith in rw (K.nothing, K.whole, K.outside, K.is, n) }

never_gap : (class : ℕ → Bool) → Refuses (λ _ _. ⊥) (gap_step {F = Fault} class)
never_gap class s p b = split (Refusal (λ _. ⊥)) (class b) (λ _. tt) (λ _. tt)

never_value : Refuses (λ _ _. ⊥) value_step
never_value blanks p b = split (Refusal (λ _. ⊥)) (is_blank b) (λ _. tt) (λ _. split (Refusal (λ _. ⊥)) (is_value b) (λ _. tt) (λ _. tt))
never_value (inside v e) p b = split (Refusal (λ _. ⊥)) (is_value b) (λ _. tt) (λ _. tt)

-- a name: no byte of it, or no colon behind it and its blanks
abbrev pub ColonWrong : Rules → Relation Fault
ColonWrong r = Either Never (Gapped (before_colon r)) (λ _. FirstWrong is_colon HeaderName)

abbrev pub NameWrong : Rules → Relation Fault
NameWrong r = Either (FirstWrong is_token HeaderName) Tokened (λ n. ColonWrong r)

pub refusing_name : (r : Rules) → Refusing (name_step r) (first none) (NameWrong r)
refusing_name r =
    refusing_seq token_step (λ _. first tt) (λ n. judged (λ _. pass n) (λ e. e) (gap_colon r)) none exact_token refusing_token (λ n.
    refusing_judged (λ _. n) (gap_colon r) (refusing_seq (gap_step (before_colon r)) (λ _. tt) (λ _. colon_step) tt (exact_gap (before_colon r)) (refusing_never (gap_step (before_colon r)) tt (never_gap (before_colon r))) (λ _. refusing_colon)))

-- a line's end: no byte of one, or a CR and no LF
pub data EndWrong (r : Rules) (p : ℕ) (w : List ℕ) (x : Fault) (rest : List ℕ) : Type 0 where
  no_end : (b : ℕ) (ys : List ℕ) → w ≡ [] → rest ≡ b ∷ ys → eqb b 13 ≡ false → (r.lf_alone && eqb b 10) ≡ false → x ≡ fault HeaderValue p → EndWrong r p w x rest
  bare_cr : (b : ℕ) (ys : List ℕ) → w ≡ 13 ∷ [] → rest ≡ b ∷ ys → eqb b 10 ≡ false → x ≡ fault HeaderValue (p + 1) → EndWrong r p w x rest

module _ (r : Rules) where
  cr_wrong : (p : ℕ) (xs : List ℕ) (x : Fault) (q : ℕ) → run (line_end_step r HeaderValue) cr (p + 1) xs ≡ refused x q → Part (EndWrong r) p (13 ∷ xs) x q
  cr_wrong p [] x q = λ e. never cc
  cr_wrong p (b ∷ bs) x q =
      split (λ u. after u (p + 1) (λ s. run (line_end_step r HeaderValue) s (p + 1 + 1) bs) ≡ refused x q → Part (EndWrong r) p (13 ∷ b ∷ bs) x q) (eqb b 10)
      (λ _ e. never cc)
      (λ t e. let i : fault HeaderValue (p + 1) ≡ x = cc in let j : p + 1 ≡ q = cc in record { w = 13 ∷ []; rest = b ∷ bs; whole = refl; place = omega (arith, j); holds = bare_cr b bs refl refl t (sym i) })

  end_wrong : (p : ℕ) (xs : List ℕ) (x : Fault) (q : ℕ) → run (line_end_step r HeaderValue) begin p xs ≡ refused x q → Part (EndWrong r) p xs x q
  end_wrong p [] x q = λ e. never cc
  end_wrong p (b ∷ bs) x q =
      split (λ u. after u p (λ s. run (line_end_step r HeaderValue) s (p + 1) bs) ≡ refused x q → Part (EndWrong r) p (b ∷ bs) x q) (eqb b 13)
      (λ t e. subst (λ y. Part (EndWrong r) p (y ∷ bs) x q) (sym (eqb-true b 13 t)) (cr_wrong p bs x q e))
      (λ t. split (λ u. after u p (λ s. run (line_end_step r HeaderValue) s (p + 1) bs) ≡ refused x q → Part (EndWrong r) p (b ∷ bs) x q) (r.lf_alone && eqb b 10)
      (λ _ e. never cc)
      (λ l e. let i : fault HeaderValue p ≡ x = cc in let j : p ≡ q = cc in record { w = []; rest = b ∷ bs; whole = refl; place = omega (arith, j); holds = no_end b bs refl refl t l (sym i) }))

  end_refused : (p : ℕ) (w rest : List ℕ) (x : Fault) → EndWrong r p w x rest → run (line_end_step r HeaderValue) begin p (w ++ rest) ≡ refused x (p + length w)
  end_refused p w rest x (no_end b ys e i t l k) = let n : p + 0 ≡ p = omega arith in rw (e, i, t, l, k, n)
  end_refused p w rest x (bare_cr b ys e i t k) = rw (e, i, t, k)

  refusing_end : Refusing (line_end_step r HeaderValue) begin (EndWrong r)
  refusing_end = record { sound = end_wrong; complete = end_refused }

  -- a value's line, and several
  abbrev pub LineWrong : Relation Fault
  LineWrong = Either Never Valued (λ v. EndWrong r)

  refusing_line : Refusing (value_line_step r) (first blanks) LineWrong
  refusing_line = refusing_seq value_step (λ v. begin) (λ v. judged (λ _. pass v) (λ e. e) (line_end_step r HeaderValue)) blanks exact_value (refusing_never value_step blanks never_value) (λ v. refusing_judged (λ _. v) (line_end_step r HeaderValue) refusing_end)

  abbrev pub LapWrong : Relation Fault
  LapWrong = Either LineWrong (LineValued r) (λ v. Never)

  refusing_lap : (a : Piece) → Refusing (lap_step r a) (first (first blanks)) LapWrong
  refusing_lap a = refusing_seq (value_line_step r) (λ v. tt) (λ v. judged (λ t. pass (turn (joined a v) t)) (λ e. e) next_step) (first blanks) (exact_value_line r) refusing_line (λ v. refusing_judged (turn (joined a v)) next_step (refusing_never next_step tt (λ s p b. tt)))

  abbrev pub LinesWrong : Relation Fault
  LinesWrong = Forks (λ _. r.multiline_headers) (LapsTo (LapValued r) (λ a. LapWrong) nothing_yet) LineWrong

  pub refusing_lines : Refusing (lines_step r) fresh LinesWrong
  refusing_lines =
      refusing_branch (λ _. r.multiline_headers) (folded_step r) (nothing_yet, first (first blanks)) (value_line_step r) (first blanks)
      (refusing_loop (λ _. first (first blanks)) (lap_step r) (folded_fresh r) (exact_lap r) refusing_lap lap_longer nothing_yet) refusing_line
