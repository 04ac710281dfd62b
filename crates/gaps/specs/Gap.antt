-- A gap: bytes of a class that are passed over before a part is read, as many as there are, which may be none.
-- The theorems stand in proofs/Gap.antt. Assumes nothing.
use Rattle.std.specs.Prelude.{ℕ, suc, ◌+◌, List, [], ◌∷◌, Bool, ◌&&◌, cond, eqb, drop}
use Rattle.reader.specs.Machine.{keep, before, Step}
use Rattle.reader.specs.Seq.{Then, seq}
use Rattle.reader.specs.Answer.{either}
use Rattle.octets.specs.Class.{is_blank}

-- passes over bytes of the class, and leaves the next
abbrev pub gap_step : {F : Type 0} → (ℕ → Bool) → Step (Unit {0}) (Unit {0}) F
gap_step class s p b = cond (class b) (keep tt) (before tt)

abbrev pub Behind : Type 0 → Type 0
Behind S = Then (Unit {0}) (Unit {0}) S

-- a machine behind a gap
abbrev pub behind_gap : {S A F : Type 0} → (ℕ → Bool) → Step S A F → S → Step (Behind S) A F
behind_gap class m s = seq (gap_step class) (λ _. s) (λ _. m)

-- in the gap no more is known than where the machine starts
abbrev pub gap_known : {S U : Type 0} → (S → U) → S → Behind S → U
gap_known known s = either (λ _. known s) (λ _. known)

-- where the gap ends that begins at a position
abbrev pub gap_length : (ℕ → Bool) → List ℕ → ℕ
gap_length class [] = 0
gap_length class (b ∷ bs) = cond (class b) (suc (gap_length class bs)) 0

abbrev pub gap_end : (ℕ → Bool) → List ℕ → ℕ → ℕ
gap_end class xs at = at + gap_length class (drop at xs)

-- the classes: spaces, or blanks, where a setting allows them, and nothing where it does not
abbrev pub is_space : ℕ → Bool
is_space b = eqb b 32

abbrev pub spaces_if : Bool → ℕ → Bool
spaces_if allowed b = allowed && is_space b

abbrev pub blanks_if : Bool → ℕ → Bool
blanks_if allowed b = allowed && is_blank b
