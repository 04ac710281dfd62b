-- A digit more than fifteen still fits 64 bits.
-- Assumes nothing.
use Rattle.std.proofs.Common.{rules}
use Rattle.chunks.specs.Chunk.{counts}
use Rattle.chunks.proofs.chunk_size.Goals as goal

pub overflow_mul-size : goal.overflow_mul-size
overflow_mul-size c = search (rules, counts)

pub overflow_add-size : goal.overflow_add-size
overflow_add-size c = search (rules, counts)
