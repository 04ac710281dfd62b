-- One machine after another: the second starts where the first answered, and knows its answer.
-- The theorems stand in proofs/Seq.antt. Assumes nothing.
use Rattle.std.specs.Prelude.{ℕ}
use Rattle.reader.specs.Machine.{Move, keep, give, before, refuse, Run, more, gave, refused, Step}
use Rattle.reader.specs.Lifted.{lifted, ran}

-- in the first machine, or in the second behind an answer of the first
pub data Then (S A T : Type 0) : Type 0 where
  first : S → Then S A T
  second : A → T → Then S A T

module _ {S A T B F : Type 0} where
  -- a move of the first machine, as one of both: a byte that it leaves is read by the second, whose move on it is k
  abbrev pub cross : Move S A F → (A → T) → (A → Move T B F) → Move (Then S A T) B F
  cross (keep s) start k = keep (first s)
  cross (give a) start k = keep (second a (start a))
  cross (before a) start k = lifted (second a) (k a)
  cross (refuse e) start k = refuse e

  abbrev pub seq : Step S A F → (A → T) → (A → Step T B F) → Step (Then S A T) B F
  seq m start n (first s) p b = cross (m s p b) start (λ a. n a (start a) p b)
  seq m start n (second a t) p b = lifted (second a) (n a t p b)

  -- a run of the first machine, and of the second from where the first answered
  abbrev pub bind : Run S A F → (A → ℕ → Run T B F) → Run (Then S A T) B F
  bind (more s) k = more (first s)
  bind (gave a q) k = ran (second a) (k a q)
  bind (refused e q) k = refused e q
