-- A header whose places do not lie in the input decides for all.
-- Assumes nothing.
use Rattle.std.proofs.Common.{rules}
use Rattle.places.specs.Checks.{checks}
use Rattle.places.proofs.slots.Goals as goal

pub returns-then-not-slot : goal.returns-then-not-slot
returns-then-not-slot c = search (rules, checks)
