-- Where the token ends, and what stands behind it, decides which way of the machine it is.
-- Assumes nothing.
use Rattle.std.proofs.Common.{rules}
use Rattle.parts.specs.Ways.{read_stopped}
use Rattle.names.proofs.ToColon.{names}
use Rattle.names.proofs.name.Goals as goal

pub returns-in_err-byte : goal.returns-in_err-byte
returns-in_err-byte c = read_stopped _ _ c.from_residual.ensures.1 (search (rules, names, c.in_err-byte.ensures))

pub returns-then-not-holds : goal.returns-then-not-holds
returns-then-not-holds c = search (rules, names, c.in_ok-byte.ensures)

pub returns-then-s-end : goal.returns-then-s-end
returns-then-s-end c = search (rules, names, c.in_ok-byte.ensures)

pub returns-in_err-next : goal.returns-in_err-next
returns-in_err-next c = read_stopped _ _ c.from_residual-in_err-next.ensures.1 (search (rules, names, c.in_ok-byte.ensures, c.in_err-next.ensures))

pub returns : goal.returns
returns c = search (rules, names, c.in_ok-byte.ensures, c.in_ok-next.ensures)
