-- Behind the blanks stands the colon, or a byte that is neither, or the input ends.
-- Assumes nothing.
use Rattle.std.proofs.Common.{rules}
use Rattle.names.proofs.ToColon.{behind, colon_stopped}
use Rattle.names.proofs.colon.Goals as goal

pub returns-in_err-byte : goal.returns-in_err-byte
returns-in_err-byte c = colon_stopped _ _ _ _ _ c.from_residual.ensures.1 (search (rules, behind, c.in_err-byte.ensures))

pub returns-then-branch-eq58 : goal.returns-then-branch-eq58
returns-then-branch-eq58 c = search (rules, behind, c.in_ok-byte.ensures)

pub returns-else-branch-eq58 : goal.returns-else-branch-eq58
returns-else-branch-eq58 c = search (rules, behind, c.in_ok-byte.ensures)
