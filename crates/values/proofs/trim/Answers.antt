-- Of the bytes of a value those up to the space are its blanks.
-- Assumes nothing.
use Rattle.std.proofs.Common.{rules}
use Rattle.values.specs.Trim.{trims}
use Rattle.values.proofs.trim.Goals as goal

pub returns-then-s-last-gt32 : goal.returns-then-s-last-gt32
returns-then-s-last-gt32 c = search (rules, trims)

pub loop-last-preserved : goal.loop-last-preserved
loop-last-preserved c = search (rules, trims)
