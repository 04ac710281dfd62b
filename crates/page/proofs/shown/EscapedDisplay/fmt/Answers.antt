-- `page::shown::EscapedDisplay::fmt` writes each byte as it is shown: what is left in the room at the end completes what was handed over.
use Rattle.std.proofs.Common.{rules, arith, ap, take_all, flat_map}
use Rattle.page.specs.Shown.{shown}
use Rattle.page.proofs.Handed.{handed_all}
use Rattle.page.proofs.shown.EscapedDisplay.fmt.Goals as goal

pub returns-clause-writes : goal.returns-clause-writes
returns-clause-writes g c plain ok =
    handed_all (c.loop-b.invariant.1 plain) (c.write_str-2.ensures.writes (search rules) ok) (search rules) (ap (flat_map shown) (take_all c.loop-b.b-index c.args.self.now.0.now (search (rules, arith))))
