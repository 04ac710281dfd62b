-- `eights::ahead` meets its contract: there are fewer than eight bytes, or the eight as one number tell how many are of the class.
-- Assumes nothing.
use Rattle.std.proofs.Common.{arith}
use Rattle.eights.specs.Ahead.{ahead_eight}
use Rattle.eights.proofs.ahead.Goals as goal

pub returns : goal.returns
returns g c = ahead_eight c.sure.ensures c.load.ensures (omega arith)
