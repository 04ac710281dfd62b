-- The slots before an index lie in the input, and each turn looks at one more.
-- Assumes nothing.
use Rattle.places.specs.Checks.{Checked}
use Rattle.places.proofs.slots.Given as goal

abbrev pub invariant-loop-index : goal.invariant-loop-index
invariant-loop-index l = Checked l.s l.slots l.count l.index
