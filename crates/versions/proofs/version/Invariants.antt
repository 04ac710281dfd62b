-- The loop has passed as many bytes of the name as it counted.
-- Assumes nothing.
use Rattle.versions.specs.Version.{Matched}
use Rattle.versions.proofs.version.Given as goal

abbrev pub invariant-loop-b : goal.invariant-loop-b
invariant-loop-b l = Matched l.s l.fn.at l.i l.b-index
