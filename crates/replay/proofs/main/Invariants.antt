-- `replay::main` is safe: what is kept is within the buffer.
use Rattle.std.proofs.Common.{◌≤◌, length}
use Rattle.replay.proofs.main.Given as goal

abbrev pub invariant-loop : goal.invariant-loop
invariant-loop l = l.kept ≤ length l.buffer
