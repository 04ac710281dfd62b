-- A head that was read ends within the input, and so does a byte that is wrong; an end that is not reached stays as it was.
-- Assumes nothing.
use Rattle.std.proofs.Common.{rules}
use Rattle.std.proofs.lemmas.List.{set-get_or}
use Rattle.rowread.proofs.Reading.{reading_within, reading_wrong_before, readings}
use Rattle.rows.proofs.read.Goals as goal

pub overflow_add-at : goal.overflow_add-at
overflow_add-at g c =
    let h = reading_within c.loop-count.invariant c.next.ensures.next c.in-Ok.is in
    search (rules, h)

pub stop-requires : goal.stop-requires
stop-requires g c = reading_wrong_before c.loop-count.invariant c.next.ensures.next c.in-Err.is (search rules)

pub returns-then-s-at : goal.returns-then-s-at
returns-then-s-at g c = rw (set-get_or c.loop-count.ends c.loop-count.count 0) (search (rules, readings))

pub returns-in-Err : goal.returns-in-Err
returns-in-Err g c = rw (set-get_or c.loop-count.ends c.loop-count.count 0) (search (rules, readings))
