-- `utf8::is_utf8` meets its contract: the loop begins where the ASCII bytes end, which leave the reader at rest.
-- Assumes nothing.
use Rattle.std.proofs.Common.{rules, add-zero}
use Rattle.utf8.proofs.Come.{come_ascii}
use Rattle.utf8.proofs.is_utf8.Goals as goal

pub loop-b-init : goal.loop-b-init
loop-b-init c = rw add-zero (search (rules, come_ascii))
