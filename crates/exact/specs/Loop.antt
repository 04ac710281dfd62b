-- An exact machine again and again is exact for its relation again and again.
-- The theorems stand in proofs/Loop.antt. Assumes nothing.
use Rattle.std.specs.Prelude.{ℕ, ◌+◌, List, ◌++◌, length}
use Rattle.reader.specs.Loop.{Turn, again, done}
use Rattle.exact.specs.Exact.{Relation}

-- laps that each begin with what the one before answered, up to one that answers the end
pub data Laps {A B : Type 0} (G : A → Relation (Turn A B)) : A → ℕ → List ℕ → B → List ℕ → Type 0 where
  last : {a : A} {p : ℕ} {w : List ℕ} {b : B} {rest : List ℕ} → G a p w (done b) rest → Laps G a p w b rest
  next : {a a' : A} {p : ℕ} {w₁ w₂ : List ℕ} {b : B} {rest : List ℕ} → G a p w₁ (again a') (w₂ ++ rest) → Laps G a' (p + length w₁) w₂ b rest → Laps G a p (w₁ ++ w₂) b rest
