-- One exact machine after another is exact for one relation after the other.
-- The theorems stand in proofs/Seq.antt. Assumes nothing.
use Rattle.std.specs.Prelude.{ℕ, ◌+◌, ◌≡◌, List, ◌++◌, length}
use Rattle.exact.specs.Exact.{Relation}

-- the bytes of the second are part of what follows the first
pub record Both {A B : Type 0} (G : Relation A) (H : A → Relation B) (p : ℕ) (w : List ℕ) (b : B) (rest : List ℕ) : Type 0 where
  pub w₁ : List ℕ
  pub w₂ : List ℕ
  pub a : A
  pub left : G p w₁ a (w₂ ++ rest)
  pub right : H a (p + length w₁) w₂ b rest
  pub whole : w ≡ w₁ ++ w₂
