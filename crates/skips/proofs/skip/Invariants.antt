-- `skips::skip` meets its contract: every byte that the loop has passed is of the class, and it stops at the first that is not, or leaves the last few to `skip_each`.
-- Assumes nothing.
use Rattle.std.proofs.Common.{◌-◌, ◌≤◌, length}
use Rattle.reader.specs.Skip.{Passed}
use Rattle.skips.proofs.skip.Given as goal

abbrev pub invariant-loop-i : goal.invariant-loop-i
invariant-loop-i g l = record { passed : Passed g.C.Class.holds l.s l.at l.i; inside : l.i ≤ length l.s }

abbrev pub decreases-loop-i : goal.decreases-loop-i
decreases-loop-i g l = length l.s - l.i
