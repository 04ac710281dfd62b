-- The parts of a request line are put one behind another.
-- Assumes nothing.
use Rattle.std.proofs.Common.{rules}
use Rattle.output.specs.Put.{adds_then}
use Rattle.formlines.proofs.request_line.Goals as goal

pub returns : goal.returns
returns c = search (rules, adds_then) depth 12
