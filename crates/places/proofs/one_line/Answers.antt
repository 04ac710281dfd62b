-- Each value lies in the input, and one that goes on over several lines decides for all.
-- Assumes nothing.
use Rattle.std.proofs.Common.{rules}
use Rattle.places.specs.Lines.{lines}
use Rattle.places.proofs.one_line.Goals as goal

pub value_on_one_line-requires : goal.value_on_one_line-requires
value_on_one_line-requires c = search (rules, lines)

pub returns-then-not-value_on_one_line : goal.returns-then-not-value_on_one_line
returns-then-not-value_on_one_line c = search (rules, lines)
