-- Where the target ends, and whether it is UTF-8, decides which way of its machine it is.
-- Assumes nothing.
use Rattle.std.proofs.Common.{rules}
use Rattle.parts.specs.Ways.{read_stopped}
use Rattle.words.specs.Target.{targets}
use Rattle.words.proofs.target_of.Goals as goal

pub returns-in_err-byte-2 : goal.returns-in_err-byte-2
returns-in_err-byte-2 g c = read_stopped _ _ c.from_residual-in_err-byte-2.ensures.1 (search (rules, targets, c.in_ok-byte.ensures, c.in_err-byte-2.ensures))

pub returns-then-branch-ne32 : goal.returns-then-branch-ne32
returns-then-branch-ne32 g c = search (rules, targets, c.in_ok-byte.ensures, c.in_ok-byte-2.ensures)

pub returns-then-not-is_utf8 : goal.returns-then-not-is_utf8
returns-then-not-is_utf8 g c = search (rules, targets, c.in_ok-byte.ensures, c.in_ok-byte-2.ensures)

pub returns : goal.returns
returns g c = search (rules, targets, c.in_ok-byte.ensures, c.in_ok-byte-2.ensures)
