-- The rest of a line that is passed over: bytes but NUL, CR and LF, and the line's end.
-- The theorems stand in proofs/RestOfLine.antt. Assumes nothing.
use Rattle.std.specs.Prelude.{ℕ, ◌-◌, ◌≤◌, ◌<◌, ◌≡◌, ◌⊎◌, List, Bool, ◌&&◌, ◌||◌, not, cond, eqb, ltb, length, get_or}
use Rattle.reader.specs.Machine.{Step}
use Rattle.reader.specs.Seq.{first, second}
use Rattle.reader.specs.Skip.{Skipped}
use Rattle.reader.specs.Answer.{Answer}
use Rattle.reader.specs.Chain.{reads}
use Rattle.rules.specs.Rules.{Rules, default}
use Rattle.parts.specs.declared.Error.{Error}
use Rattle.parts.specs.declared.Fault.{Fault}
use Rattle.parts.specs.LineEnd.{LineEnd, begin, cr, line_end_step}
use Rattle.gaps.specs.Gap.{Behind, behind_gap}

unfoldable pub is_ignorable : ℕ → Bool
is_ignorable b = not (eqb b 0 || eqb b 13 || eqb b 10)

abbrev pub rest_step : Rules → Error → Step (Behind LineEnd) (Unit {0}) Fault
rest_step r e = behind_gap is_ignorable (line_end_step r e) begin

-- whether a byte leaves the rest of its line behind a CR
abbrev pub behind_byte : Behind LineEnd → ℕ → Behind LineEnd
behind_byte t b = cond (eqb b 13) (second tt cr) (first tt)

-- the same where the line began at a position, and another is wrong
abbrev pub seen : List ℕ → ℕ → ℕ → Behind LineEnd
seen xs at p = cond (ltb at p && eqb (get_or xs (p - 1) 0) 13) (second tt cr) (first tt)

abbrev pub rest_of_line : Error → List ℕ → ℕ → ℕ → Answer (Unit {0}) (Unit {0}) Fault
rest_of_line e xs at p = reads (rest_step default e) (seen xs at p) xs p

-- where the end of the line begins that is passed over: at the CR before the wrong byte, or behind what is passed over
abbrev pub Starts : List ℕ → ℕ → ℕ → ℕ → Type 0
Starts xs at p q = ((at < p) × (get_or xs (p - 1) 0 ≡ 13) × (q ≡ p - 1)) ⊎ ((at < p → get_or xs (p - 1) 0 ≡ 13 → ⊥) × Skipped is_ignorable xs p q)

-- in an input that has the wrong byte
abbrev pub StartsIn : List ℕ → ℕ → ℕ → ℕ → Type 0
StartsIn xs at p q = p ≤ length xs → Starts xs at p q
