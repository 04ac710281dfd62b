-- A machine again and again: each lap answers what the next one starts from, or the end.
-- The theorems stand in proofs/Loop.antt. Assumes nothing.
use Rattle.std.specs.Prelude.{◌≡◌, ℕ}
use Rattle.reader.specs.Machine.{Move, keep, give, before, refuse, Run, more, gave, refused, Step}

-- what a lap answers
pub data Turn (A B : Type 0) : Type 0 where
  again : A → Turn A B
  done : B → Turn A B

module _ {A S B F : Type 0} (start : A → S) where
  -- a move of a lap that began with a, as one of the loop: where it leaves its byte to a next lap, k is the move
  abbrev pub turned : A → Move S (Turn A B) F → (A → Move (A × S) B F) → Move (A × S) B F
  turned a (keep s) k = keep (a, s)
  turned a (give (again a')) k = keep (a', start a')
  turned a (give (done b)) k = give b
  turned a (before (again a')) k = k a'
  turned a (before (done b)) k = before b
  turned a (refuse e) k = refuse e

  -- a byte is read by two laps at most, since no lap leaves its first byte to another (`Fresh`)
  abbrev pub loop : (A → Step S (Turn A B) F) → Step (A × S) B F
  loop m c p b = turned c.0 (m c.0 c.1 p b) (λ a'. turned a' (m a' (start a') p b) (λ a''. keep (a'', start a'')))

  abbrev pub Fresh : (A → Step S (Turn A B) F) → Type 0
  Fresh m = (a : A) (p b : ℕ) (a' : A) → m a (start a) p b ≡ before (again a') → ⊥

  -- a run of a lap that began with a, and of the loop from where it answered
  abbrev pub round : A → Run S (Turn A B) F → (A → ℕ → Run (A × S) B F) → Run (A × S) B F
  round a (more s) k = more (a, s)
  round a (gave (again a') q) k = k a' q
  round a (gave (done b) q) k = gave b q
  round a (refused e q) k = refused e q
