-- A machine that refuses exactly where a relation holds: of the position, the bytes before the one that is refused, what it is refused with, and the bytes from that one on.
-- The theorems stand in proofs/Refusing.antt. Assumes nothing.
use Rattle.std.specs.Prelude.{ℕ, ◌+◌, ◌≡◌, List, ◌++◌, length}
use Rattle.reader.specs.Machine.{refused, Step, run}
use Rattle.reader.specs.Loop.{Turn, again}
use Rattle.exact.specs.Exact.{Relation, Part}

pub record Refusing {S A F : Type 0} (m : Step S A F) (s : S) (W : Relation F) : Type 0 where
  pub sound : (p : ℕ) (xs : List ℕ) (x : F) (q : ℕ) → run m s p xs ≡ refused x q → Part W p xs x q
  pub complete : (p : ℕ) (w rest : List ℕ) (x : F) → W p w x rest → run m s p (w ++ rest) ≡ refused x (p + length w)

-- a machine that refuses nothing
abbrev pub Never : {F : Type 0} → Relation F
Never p w x rest = ⊥

-- the first machine, or, where it answered, the second
pub data Either {A F : Type 0} (W : Relation F) (G : Relation A) (U : A → Relation F) (p : ℕ) (w : List ℕ) (x : F) (rest : List ℕ) : Type 0 where
  early : W p w x rest → Either W G U p w x rest
  late : (w₁ w₂ : List ℕ) (a : A) → w ≡ w₁ ++ w₂ → G p w₁ a (w₂ ++ rest) → U a (p + length w₁) w₂ x rest → Either W G U p w x rest

-- laps that each begin with what the one before answered, up to one that refuses
pub data LapsTo {A B F : Type 0} (G : A → Relation (Turn A B)) (W : A → Relation F) : A → ℕ → List ℕ → F → List ℕ → Type 0 where
  here : {a : A} {p : ℕ} {w : List ℕ} {x : F} {rest : List ℕ} → W a p w x rest → LapsTo G W a p w x rest
  next : {a a' : A} {p : ℕ} {w₁ w₂ : List ℕ} {x : F} {rest : List ℕ} → G a p w₁ (again a') (w₂ ++ rest) → LapsTo G W a' (p + length w₁) w₂ x rest → LapsTo G W a p (w₁ ++ w₂) x rest
