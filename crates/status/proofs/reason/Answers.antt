-- Where the skips end decides which way of the machine it is.
-- Assumes nothing.
use Rattle.std.proofs.Common.{rules}
use Rattle.status.specs.Reason.{reasons}
use Rattle.status.proofs.reason.Goals as goal

pub returns-then-s-end : goal.returns-then-s-end
returns-then-s-end c = search (rules, reasons)
