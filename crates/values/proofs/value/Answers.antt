-- Where the skips end decides which way of the machine it is.
-- Assumes nothing.
use Rattle.std.proofs.Common.{rules}
use Rattle.values.specs.Value.{values}
use Rattle.values.proofs.value.Goals as goal

pub returns-then-s-stop : goal.returns-then-s-stop
returns-then-s-stop c = search (rules, values)
