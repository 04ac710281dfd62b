-- The call's promise, of what stands behind the position.
-- Assumes nothing.
use Rattle.std.proofs.Common.{rules}
use Rattle.rowread.proofs.Reading.{next_request}
use Rattle.rows.proofs.RequestLineInRow.next.Goals as goal

pub returns-clause-next : goal.returns-clause-next
returns-clause-next c = search (rules, next_request)
