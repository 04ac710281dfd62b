-- A value over its lines is read exactly: lines of a value and an end each, of which every one but the last has a blank behind it.
-- Assumes nothing.
use Rattle.std.specs.Prelude.{ℕ, ◌+◌, ◌≤◌, ◌≡◌, refl, List, [], ◌∷◌, ◌++◌, Bool, length}
use Rattle.std.proofs.Common.{arith, ap, ◌∙◌, length-append}
use Rattle.reader.specs.Machine.{gave, run}
use Rattle.reader.specs.Judged.{pass, judged}
use Rattle.reader.specs.Seq.{first}
use Rattle.reader.specs.Loop.{Turn, again}
use Rattle.reader.specs.Branch.{fresh}
use Rattle.reader.specs.Tests.{never}
use Rattle.exact.specs.Exact.{Relation, Part, Exact}
use Rattle.exact.specs.Judged.{Passes, exact_judged}
use Rattle.exact.specs.Seq.{Both}
use Rattle.exact.proofs.Seq.{exact_seq}
use Rattle.exact.specs.Loop.{Laps}
use Rattle.exact.proofs.Loop.{exact_loop}
use Rattle.exact.specs.Branch.{Forks, exact_branch}
use Rattle.octets.specs.Class.{is_blank}
use Rattle.rules.specs.Rules.{Rules}
use Rattle.grammar.specs.Message.{IsLineEnd, crlf, lf}
use Rattle.parts.specs.declared.Error.TheVariants.{HeaderValue}
use Rattle.parts.specs.declared.Fault.{Fault}
use Rattle.parts.specs.declared.Piece.{Piece}
use Rattle.parts.specs.LineEnd.{begin, line_end_step}
use Rattle.values.specs.Value.{blanks, value_step}
use Rattle.folds.specs.Folded.{value_line_step, joined, next_step, turn, lap_step, folded_step, nothing_yet, lines_step, folded_fresh}
use Rattle.leaves.specs.LineEnd.{EndsAt, exact_line_end}
use Rattle.leaves.specs.Value.{Valued, exact_value}

-- a value and its line's end
abbrev pub LineValued : Rules → Relation Piece
LineValued r = Both Valued (λ v. Passes {F = Fault} (λ _. pass v) (EndsAt r))

-- the byte behind a line, which is none of it
pub record Behind (p : ℕ) (w : List ℕ) (t : Bool) (rest : List ℕ) : Type 0 where
  pub b : ℕ
  pub ys : List ℕ
  pub nothing : w ≡ []
  pub whole : rest ≡ b ∷ ys
  pub tells : is_blank b ≡ t

-- one line more, with the value a so far
abbrev pub LapValued : Rules → Piece → Relation (Turn Piece Piece)
LapValued r a = Both (LineValued r) (λ v. Passes {F = Fault} (λ t. pass (turn (joined a v) t)) Behind)

-- one line or several, as the rules say
abbrev pub Lines : Rules → Relation Piece
Lines r = Forks (λ _. r.multiline_headers) (Laps (LapValued r) nothing_yet) (LineValued r)

sound_next : (p : ℕ) (xs : List ℕ) (t : Bool) (q : ℕ) → run next_step tt p xs ≡ gave t q → Part Behind p xs t q
sound_next p [] t q e = never cc
sound_next p (b ∷ bs) t q e = let i : is_blank b ≡ t = cc in let j : p ≡ q = cc in record { w = []; rest = b ∷ bs; whole = refl; place = omega arith; holds = record { b = b; ys = bs; nothing = refl; whole = refl; tells = i } }

complete_next : (p : ℕ) (w rest : List ℕ) (t : Bool) → Behind p w t rest → run next_step tt p (w ++ rest) ≡ gave t (p + length w)
complete_next p w rest t k = let n : p ≡ p + 0 = omega arith in rw (k.nothing, k.whole, k.tells) (ap (gave t) n)

exact_next : Exact next_step tt Behind
exact_next = record { sound = sound_next; complete = complete_next }

pub end_longer : {r : Rules} {e : List ℕ} → IsLineEnd r e → 1 ≤ length e
end_longer crlf = omega arith
end_longer (lf h) = omega arith

-- a line has a byte at least
pub line_longer : {r : Rules} {p : ℕ} {w : List ℕ} {v : Piece} {rest : List ℕ} → LineValued r p w v rest → 1 ≤ length w
line_longer {w = w} K = omega (arith, ap length K.whole ∙ length-append K.w₁ K.w₂, end_longer K.right.holds)

pub lap_longer : {r : Rules} (a : Piece) (p : ℕ) (w : List ℕ) (a' : Piece) (rest : List ℕ) → LapValued r a p w (again a') rest → 1 ≤ length w
lap_longer a p w a' rest K = omega (arith, ap length K.whole ∙ length-append K.w₁ K.w₂, line_longer K.left)

module _ (r : Rules) where
  pub exact_value_line : Exact (value_line_step r) (first blanks) (LineValued r)
  exact_value_line = exact_seq value_step (λ v. begin) (λ v. judged (λ _. pass v) (λ e. e) (line_end_step r HeaderValue)) blanks exact_value (λ v. exact_judged (λ _. pass v) (λ e. e) (line_end_step r HeaderValue) (exact_line_end r HeaderValue))

  pub exact_lap : (a : Piece) → Exact (lap_step r a) (first (first blanks)) (LapValued r a)
  exact_lap a = exact_seq (value_line_step r) (λ v. tt) (λ v. judged (λ t. pass (turn (joined a v) t)) (λ e. e) next_step) (first blanks) exact_value_line (λ v. exact_judged (λ t. pass (turn (joined a v) t)) (λ e. e) next_step exact_next)

  pub exact_lines : Exact (lines_step r) fresh (Lines r)
  exact_lines =
      exact_branch (λ _. r.multiline_headers) (folded_step r) (nothing_yet, first (first blanks)) (value_line_step r) (first blanks)
      (exact_loop (λ _. first (first blanks)) (lap_step r) (folded_fresh r) exact_lap lap_longer nothing_yet) exact_value_line
