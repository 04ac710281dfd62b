-- The first byte says whether it is the empty line; what is wrong in another is passed over where that is asked for.
-- Assumes nothing.
use Rattle.std.proofs.Common.{rules}
use Rattle.parts.specs.Ways.{ways}
use Rattle.fields.proofs.LineRead.{fields, line_stopped}
use Rattle.fields.proofs.header_line.Goals as goal

pub returns-in_err-first : goal.returns-in_err-first
returns-in_err-first c = line_stopped _ _ c.from_residual.ensures.1 (search (rules, fields, c.in_err-first.ensures))

pub returns-in_err-next : goal.returns-in_err-next
returns-in_err-next c = line_stopped _ _ c.from_residual-in_err-next.ensures.1 (search (rules, ways, fields, c.in_ok-first.ensures, c.in_err-next.ensures))

pub returns-then-first : goal.returns-then-first
returns-then-first c = search (rules, ways, fields, c.in_ok-first.ensures, c.in_ok-next.ensures)

pub returns-then-not-settings : goal.returns-then-not-settings
returns-then-not-settings c = search (rules, fields, c.in_ok-first.ensures)

pub returns-in-Ok : goal.returns-in-Ok
returns-in-Ok c = search (rules, fields, c.in_ok-first.ensures)

pub returns-in-Err : goal.returns-in-Err
returns-in-Err c = search (rules, fields, c.in_ok-first.ensures)
