-- `skips::skip_each` meets its contract: every byte that the loop has passed is of the class, and it stops at the first that is not.
-- Assumes nothing.
use Rattle.reader.specs.Skip.{Passed}
use Rattle.skips.proofs.skip_each.Given as goal

abbrev pub invariant-loop-end : goal.invariant-loop-end
invariant-loop-end g l = Passed g.C.Class.holds l.s l.at l.end
