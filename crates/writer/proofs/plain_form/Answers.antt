-- What does not lie in the input, is too long or has no room is refused before a byte is written. A slice lies in memory, so neither the
-- lent bytes nor twice the input are as many as no number can say.
-- Assumes nothing.
use Rattle.std.proofs.Common.{rules, arith, length, ◌*◌, ◌<◌}
use Rattle.output.specs.Put.{greatest}
use Rattle.writer.specs.Promise.{promises}
use Rattle.writer.proofs.plain_form.Goals as goal

pub returns-then-n : goal.returns-then-n
returns-then-n g c =
    let room : length c.args.out.now < greatest = omega (arith, c.well_formed) in
    let twice : length c.args.s.now * 2 < greatest = omega (arith, c.well_formed) in
    search (rules, promises, room, twice)

pub returns-then-out-n : goal.returns-then-out-n
returns-then-out-n g c = search (rules, promises)

pub returns : goal.returns
returns g c = search (rules, promises)
