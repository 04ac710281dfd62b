-- The bytes before `at` are a row of heads, and each turn reads one more.
use Rattle.std.proofs.Common.{◌/◌, length}
use Rattle.rowread.specs.Reading.{Reading}
use Rattle.rows.proofs.read.Given as goal

abbrev pub invariant-loop-count : goal.invariant-loop-count
invariant-loop-count g l = Reading (g.L.InRow.is_head l.settings) (g.L.StartLine.head l.settings) (length l.initial.slots / 4) l.s l.initial.slots l.initial.ends l.slots l.ends l.at l.count
