-- Where a row of bytes of a class ends, and a machine that such bytes leave in its state.
-- The theorems stand in proofs/Skip.antt. Assumes nothing.
use Rattle.std.specs.Prelude.{◌≡◌, List, Bool, true, false, ℕ, ◌≤◌, ◌<◌, length, get_or}

-- the bytes from i up to r are of the class
pub record Passed (class : ℕ → Bool) (xs : List ℕ) (i r : ℕ) : Type 0 where
  pub from : i ≤ r
  pub inside : i ≤ length xs → r ≤ length xs
  pub past : length xs ≤ i → r ≡ i
  pub all : (k : ℕ) → i ≤ k → k < r → class (get_or xs k 0) ≡ true

-- and r is where they end: the input does, or the byte there is not of the class
pub record Skipped (class : ℕ → Bool) (xs : List ℕ) (i r : ℕ) : Type 0 where
  pub passed : Passed class xs i r
  pub stop : r < length xs → class (get_or xs r 0) ≡ false
