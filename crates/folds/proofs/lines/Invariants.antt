-- The lines that the loop has passed are the machine's laps, and their value is what it keeps.
-- Assumes nothing.
use Rattle.std.proofs.Common.{◌-◌, length}
use Rattle.folds.specs.Folded.{Kept}
use Rattle.folds.proofs.lines.Given as goal

abbrev pub invariant-loop-piece : goal.invariant-loop-piece
invariant-loop-piece l = Kept l.multiline l.s l.fn.at l.i l.value

abbrev pub decreases-loop-piece : goal.decreases-loop-piece
decreases-loop-piece l = length l.s - l.i
