-- Each value that the loop has passed stands on one line.
-- Assumes nothing.
use Rattle.places.specs.Lines.{LinesSoFar}
use Rattle.places.proofs.one_line.Given as goal

abbrev pub invariant-loop-index : goal.invariant-loop-index
invariant-loop-index l = LinesSoFar l.s l.slots l.count l.index
