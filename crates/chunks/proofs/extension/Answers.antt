-- The extension goes on to its CR, or to the end of the input.
-- Assumes nothing.
use Rattle.std.proofs.Common.{rules}
use Rattle.chunks.specs.Chunk.{behinds}
use Rattle.chunks.proofs.extension.Goals as goal

pub returns-then-s-end : goal.returns-then-s-end
returns-then-s-end c = search (rules, behinds)

pub returns : goal.returns
returns c = search (rules, behinds)
