-- Each kind has a call of its own, whose promise stands beside the writer's, over the same bytes and slots.
-- Assumes nothing.
use Rattle.std.proofs.Common.{rules}
use Rattle.restate.proofs.Restated.{restatements}
use Rattle.restate.proofs.restate.Goals as goal

pub returns-in-Request : goal.returns-in-Request
returns-in-Request c = search (rules, restatements)

pub returns-in-Response : goal.returns-in-Response
returns-in-Response c = search (rules, restatements)

pub returns-in-Headers : goal.returns-in-Headers
returns-in-Headers c = search (rules, restatements)
