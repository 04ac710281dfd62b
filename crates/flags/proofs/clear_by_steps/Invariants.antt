-- `flags::clear_by_steps` meets its contract: every byte that it has counted is 0, and it stops at the first that is not.
-- Assumes nothing.
use Rattle.flags.specs.Steps.{Counted}
use Rattle.flags.proofs.clear_by_steps.Given as goal

abbrev pub invariant-loop-count : goal.invariant-loop-count
invariant-loop-count l = Counted l.flags l.rest l.count
