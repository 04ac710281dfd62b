-- Machines that read one byte at a time, and what a run of one comes to.
-- Assumes nothing.
use Rattle.std.specs.Prelude.{List, [], ◌∷◌, ℕ, ◌+◌, drop}

-- what a machine does with a byte: go on in a state; answer, with the byte taken; answer, with the byte left to what follows; refuse
pub data Move (S A F : Type 0) : Type 0 where
  keep : S → Move S A F
  give : A → Move S A F
  before : A → Move S A F
  refuse : F → Move S A F

-- what a run comes to: it wants more; it answered, and the next byte is at a position; it refused the byte at a position
pub data Run (S A F : Type 0) : Type 0 where
  more : S → Run S A F
  gave : A → ℕ → Run S A F
  refused : F → ℕ → Run S A F

-- a machine: what it does in a state, at a position, with a byte
abbrev pub Step : Type 0 → Type 0 → Type 0 → Type 0
Step S A F = S → ℕ → ℕ → Move S A F

module _ {S A F : Type 0} where
  -- what a move at position p makes of a run that would go on with k
  abbrev pub after : Move S A F → ℕ → (S → Run S A F) → Run S A F
  after (keep s) p k = k s
  after (give a) p k = gave a (p + 1)
  after (before a) p k = gave a p
  after (refuse e) p k = refused e p

  -- the run from a state over bytes of which the first is at position p
  abbrev pub run : Step S A F → S → ℕ → List ℕ → Run S A F
  run m s p [] = more s
  run m s p (b ∷ bs) = after (m s p b) p (λ s'. run m s' (p + 1) bs)

  -- the run over a whole input from a position of it
  abbrev pub run_at : Step S A F → S → List ℕ → ℕ → Run S A F
  run_at m s xs p = run m s p (drop p xs)
