-- The headers before an index are put, and each turn puts one more.
-- Assumes nothing.
use Rattle.formlines.specs.Lines.{Lined}
use Rattle.formlines.proofs.fields.Given as goal

abbrev pub invariant-loop-index : goal.invariant-loop-index
invariant-loop-index l = Lined l.s l.slots l.count l.at l.fn.out l.index l.next l.out
