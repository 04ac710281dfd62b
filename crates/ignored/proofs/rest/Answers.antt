-- From where the line's end begins it is read as any line's end is.
-- Assumes nothing.
use Rattle.std.proofs.Common.{rules}
use Rattle.ignored.proofs.RestOfLine.{rests}
use Rattle.ignored.proofs.rest.Goals as goal

pub returns : goal.returns
returns c = search (rules, rests)
