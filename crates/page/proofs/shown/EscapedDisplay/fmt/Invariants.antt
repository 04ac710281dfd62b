-- `page::shown::EscapedDisplay::fmt` writes each byte as it is shown: so far, those that the loop has passed, of which the last stand in the room.
use Rattle.std.proofs.Common.{◌≤◌, take, flat_map}
use Rattle.std.specs.Fmt.{IsPlainFormatter}
use Rattle.page.specs.Shown.{shown}
use Rattle.page.proofs.Handed.{Handed}
use Rattle.page.proofs.shown.EscapedDisplay.fmt.Given as goal

abbrev pub invariant-loop-b : goal.invariant-loop-b
invariant-loop-b g l =
    (l.filled ≤ 64) × (IsPlainFormatter l.initial.f → Handed g.W.Write.write_str_gives l.initial.f (take l.filled l.room) (flat_map shown (take l.b-index l.b-items)) l.f)
