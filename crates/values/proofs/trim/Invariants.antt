-- `values::trim` meets its contract: all that the loop has passed is blank.
-- Assumes nothing.
use Rattle.values.specs.Trim.{Cut}
use Rattle.values.proofs.trim.Given as goal

abbrev pub invariant-loop-last : goal.invariant-loop-last
invariant-loop-last l = Cut l.s l.from l.end l.last
