-- The headers so far are in the slots, and the lines from `i` on are the rest of the block.
-- Assumes nothing.
use Rattle.std.proofs.Common.{◌-◌, length}
use Rattle.blocks.specs.Block.{Kept}
use Rattle.blocks.proofs.lines.Given as goal

abbrev pub invariant-loop-line : goal.invariant-loop-line
invariant-loop-line l = Kept l.settings l.n l.s l.fn.slots l.slots l.fn.at l.i l.count

abbrev pub decreases-loop-line : goal.decreases-loop-line
decreases-loop-line l = length l.s - l.i
