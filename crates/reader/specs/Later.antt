-- What a machine answers on the start of an input, and on all of it: the same, unless it was still waiting.
-- The theorems stand in proofs/Later.antt. Assumes nothing.
use Rattle.reader.specs.Answer.{Answer, short}

pub data Later {U A F : Type 0} : Answer U A F → Answer U A F → Type 0 where
  same : {a : Answer U A F} → Later a a
  waited : {u : U} {b : Answer U A F} → Later (short u) b
