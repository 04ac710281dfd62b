-- The bytes that the loop has passed are digits, and their number is what it keeps.
-- Assumes nothing.
use Rattle.chunks.specs.Chunk.{Counted}
use Rattle.chunks.proofs.chunk_size.Given as goal

abbrev pub invariant-loop-i : goal.invariant-loop-i
invariant-loop-i l = Counted l.s l.i l.size
