-- The byte behind the blanks decides which way of the machine it is.
-- Assumes nothing.
use Rattle.std.proofs.Common.{rules}
use Rattle.parts.specs.Ways.{read_stopped}
use Rattle.chunks.specs.Chunk.{behinds}
use Rattle.chunks.proofs.behind_digits.Goals as goal

pub returns-in_err-byte : goal.returns-in_err-byte
returns-in_err-byte c = read_stopped _ _ c.from_residual.ensures.1 (search (rules, behinds, c.in_err-byte.ensures))

pub returns-in-59 : goal.returns-in-59
returns-in-59 c = search (rules, behinds, c.in_ok-byte.ensures)

pub returns-in-13 : goal.returns-in-13
returns-in-13 c = search (rules, behinds, c.in_ok-byte.ensures)

pub returns-in_default : goal.returns-in_default
returns-in_default c = search (rules, behinds, c.in_ok-byte.ensures)
