-- The next header lies in the input, as all that are to come.
-- Assumes nothing.
use Rattle.std.proofs.Common.{rules}
use Rattle.formlines.specs.Lines.{lined}
use Rattle.formlines.proofs.fields.Goals as goal

pub field-next-requires : goal.field-next-requires
field-next-requires c = search (rules, lined)
