-- The headers are put behind the request line.
-- Assumes nothing.
use Rattle.std.proofs.Common.{rules}
use Rattle.output.specs.Put.{adds_then}
use Rattle.formlines.proofs.HeadRequestLinePlain.put.Goals as goal

pub returns : goal.returns
returns c = search (rules, adds_then)
