-- `flags::Visible::sure` meets its contract: the bytes before the first flag have none, and so are of the class.
-- Assumes nothing.
use Rattle.std.proofs.Common.{rules}
use Rattle.flags.specs.Classes.{sure_visible}
use Rattle.flags.proofs.VisibleEights.sure.Goals as goal

pub returns : goal.returns
returns c = search (rules, sure_visible)
