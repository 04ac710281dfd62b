-- A name, and then its value, is a way of the machine; what stops either stops the line.
-- Assumes nothing.
use Rattle.std.proofs.Common.{rules}
use Rattle.parts.specs.Ways.{ways}
use Rattle.fields.proofs.LineRead.{line_stopped}
use Rattle.fields.proofs.field_line.Goals as goal

pub returns-in_err-name : goal.returns-in_err-name
returns-in_err-name c = line_stopped _ _ c.from_residual.ensures.1 (search (rules, ways, c.in_err-name.ensures))

pub returns-in_err-value : goal.returns-in_err-value
returns-in_err-value c = line_stopped _ _ c.from_residual-in_err-value.ensures.1 (search (rules, ways, c.in_ok-name.ensures, c.in_err-value.ensures))

pub returns : goal.returns
returns c = search (rules, ways, c.in_ok-name.ensures, c.in_ok-value.ensures)
