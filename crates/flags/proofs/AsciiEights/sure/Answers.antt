-- `flags::Ascii::sure` meets its contract: the bytes before the first flag have none, and so are of the class.
-- Assumes nothing.
use Rattle.std.proofs.Common.{rules}
use Rattle.flags.specs.Classes.{sure_ascii}
use Rattle.flags.proofs.AsciiEights.sure.Goals as goal

pub returns : goal.returns
returns c = search (rules, sure_ascii)
