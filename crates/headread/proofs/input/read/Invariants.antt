-- `headread::input::read` is safe and ends: each turn reads a byte or more, and no more than the buffer has room for.
use Rattle.std.proofs.Common.{◌-◌, ◌≤◌, length}
use Rattle.headread.proofs.input.read.Given as goal

abbrev pub invariant-loop-n : goal.invariant-loop-n
invariant-loop-n l = l.n ≤ length l.buffer

abbrev pub decreases-loop-n : goal.decreases-loop-n
decreases-loop-n l = length l.buffer - l.n
