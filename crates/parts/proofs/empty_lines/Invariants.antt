-- Whatever the loop has passed is empty lines.
-- Assumes nothing.
use Rattle.std.proofs.Common.{◌-◌, length}
use Rattle.parts.specs.EmptyLines.{Empty}
use Rattle.parts.proofs.empty_lines.Given as goal

abbrev pub invariant-loop-b : goal.invariant-loop-b
invariant-loop-b l = Empty l.s l.fn.at l.i

abbrev pub decreases-loop-b : goal.decreases-loop-b
decreases-loop-b l = length l.s - l.i
