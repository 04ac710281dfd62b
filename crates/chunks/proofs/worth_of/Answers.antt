-- Each range of digits is worth what the definition says.
-- Assumes nothing.
use Rattle.std.proofs.Common.{rules}
use Rattle.chunks.specs.Chunk.{worths}
use Rattle.chunks.proofs.worth_of.Goals as goal

pub overflow_sub-b : goal.overflow_sub-b
overflow_sub-b c = search (rules, worths)

pub returns-then-b-lt65 : goal.returns-then-b-lt65
returns-then-b-lt65 c = search (rules, worths)

pub returns-then-b-lt97 : goal.returns-then-b-lt97
returns-then-b-lt97 c = search (rules, worths)

pub returns : goal.returns
returns c = search (rules, worths)
