-- One of two machines, by the first byte.
-- The theorems stand in proofs/Branch.antt. Assumes nothing.
use Rattle.std.specs.Prelude.{Bool, cond, ℕ}
use Rattle.reader.specs.Machine.{Step}
use Rattle.reader.specs.Lifted.{lifted}

-- before the first byte, or in one of the two
pub data Branch (S T : Type 0) : Type 0 where
  fresh : Branch S T
  one : S → Branch S T
  other : T → Branch S T

module _ {S T A F : Type 0} (test : ℕ → Bool) (m : Step S A F) (s₀ : S) (n : Step T A F) (t₀ : T) where
  abbrev pub branch : Step (Branch S T) A F
  branch fresh p b = cond (test b) (lifted one (m s₀ p b)) (lifted other (n t₀ p b))
  branch (one s) p b = lifted one (m s p b)
  branch (other t) p b = lifted other (n t p b)
