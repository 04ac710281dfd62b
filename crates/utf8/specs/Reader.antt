-- The reader of UTF-8: a state is the ranges that the rest of the character must be in, byte by byte.
-- Assumes nothing.
use Rattle.std.specs.Prelude.{ℕ, List, [], ◌∷◌, Bool, true, false, cond, eqb}
use Rattle.reader.specs.Machine.{Move, keep, refuse, Run, more, gave, refused, Step, run}
use Rattle.octets.specs.Class.{within}

abbrev pub State : Type 0
State = List (ℕ × ℕ)

-- the range of a byte that goes on with a character
abbrev pub tail : ℕ × ℕ
tail = (0x80, 0xBF)

-- what the first byte of a character makes of the rest; a machine of UTF-8 never answers, and has one refusal
unfoldable pub lead : ℕ → Move State ⊥ (Unit {0})
lead b =
    cond (within 0x00 0x7F b) (keep [])
    (cond (within 0xC2 0xDF b) (keep (tail ∷ []))
    (cond (eqb b 0xE0) (keep ((0xA0, 0xBF) ∷ tail ∷ []))
    (cond (within 0xE1 0xEC b) (keep (tail ∷ tail ∷ []))
    (cond (eqb b 0xED) (keep ((0x80, 0x9F) ∷ tail ∷ []))
    (cond (within 0xEE 0xEF b) (keep (tail ∷ tail ∷ []))
    (cond (eqb b 0xF0) (keep ((0x90, 0xBF) ∷ tail ∷ tail ∷ []))
    (cond (within 0xF1 0xF3 b) (keep (tail ∷ tail ∷ tail ∷ []))
    (cond (eqb b 0xF4) (keep ((0x80, 0x8F) ∷ tail ∷ tail ∷ []))
    (refuse tt)))))))))

abbrev pub step : State → ℕ → Move State ⊥ (Unit {0})
step [] b = lead b
step (r ∷ rs) b = cond (within r.0 r.1 b) (keep rs) (refuse tt)

abbrev pub machine : Step State ⊥ (Unit {0})
machine s p b = step s b

-- no byte was refused, and no character is left unfinished
abbrev pub whole : Run State ⊥ (Unit {0}) → Bool
whole (more []) = true
whole (more (r ∷ rs)) = false
whole (gave a q) = false
whole (refused e q) = false

-- the bytes are well-formed UTF-8
abbrev pub utf8 : List ℕ → Bool
utf8 xs = whole (run machine [] 0 xs)
