-- `flags::clear` meets its contract: there is no flag, or the bytes before the first are the zeros below it, eight to a byte.
-- Assumes nothing.
use Rattle.flags.specs.Lowest.{zeros_trailing}
use Rattle.flags.proofs.clear.Goals as goal

pub returns : goal.returns
returns c = zeros_trailing 8 c.args.flags
