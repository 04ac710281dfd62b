-- `utf8::is_utf8` meets its contract: at each turn the reader from the first byte is where the code is, and ASCII keeps it at rest.
-- Assumes nothing.
use Rattle.std.proofs.Common.{◌+◌}
use Rattle.utf8.proofs.Come.{Come}
use Rattle.utf8.proofs.is_utf8.Given as goal

abbrev pub invariant-loop-b : goal.invariant-loop-b
invariant-loop-b l = Come l.s l.awaited (l.start + l.b-index)
