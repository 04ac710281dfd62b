-- A reason, and then its line's end, is a way of the machine; what stops either stops the line.
-- Assumes nothing.
use Rattle.std.proofs.Common.{rules}
use Rattle.parts.specs.Ways.{ways, read_stopped}
use Rattle.statusline.proofs.reason_line.Goals as goal

pub returns-in_err-reason : goal.returns-in_err-reason
returns-in_err-reason c = read_stopped _ _ c.from_residual.ensures.1 (search (rules, ways, c.in_err-reason.ensures))

pub returns-in_err-behind : goal.returns-in_err-behind
returns-in_err-behind c = read_stopped _ _ c.from_residual-in_err-behind.ensures.1 (search (rules, ways, c.in_ok-reason.ensures, c.in_err-behind.ensures))

pub returns : goal.returns
returns c = search (rules, ways, c.in_ok-reason.ensures, c.in_ok-behind.ensures)
