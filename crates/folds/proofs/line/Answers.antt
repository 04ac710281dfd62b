-- A value, and then its line's end, is a way of the machine; what stops either stops the line.
-- Assumes nothing.
use Rattle.std.proofs.Common.{rules}
use Rattle.parts.specs.Ways.{ways, read_stopped}
use Rattle.folds.specs.Folded.{line_is}
use Rattle.folds.proofs.line.Goals as goal

pub returns-in_err-value : goal.returns-in_err-value
returns-in_err-value c = read_stopped _ _ c.from_residual.ensures.1 (search (rules, ways, line_is, c.in_err-value.ensures))

pub returns-in_err-behind : goal.returns-in_err-behind
returns-in_err-behind c = read_stopped _ _ c.from_residual-in_err-behind.ensures.1 (search (rules, ways, line_is, c.in_ok-value.ensures, c.in_err-behind.ensures))

pub returns : goal.returns
returns c = search (rules, ways, line_is, c.in_ok-value.ensures, c.in_ok-behind.ensures)
