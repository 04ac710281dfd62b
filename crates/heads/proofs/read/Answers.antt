-- A head is its start line, and behind it the block: where the line was not read, nothing stands in the slots.
-- Assumes nothing.
use Rattle.std.proofs.Common.{rules, ◌/◌, length}
use Rattle.heads.specs.Head.{heads}
use Rattle.heads.proofs.read.Goals as goal

pub returns-in-Err : goal.returns-in-Err
returns-in-Err g c = rw (g.met.L.StartLine.parts c.args.settings (length c.args.slots.now / 4) c.args.s.now) (search (rules, heads))
