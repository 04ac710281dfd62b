-- Each part that is read is one more link of the line's chain; the first that is not stops it, with what is known by then.
-- Assumes nothing.
use Rattle.std.proofs.Common.{rules}
use Rattle.parts.specs.Ways.{ways}
use Rattle.startline.specs.Answers.{tells, tell_stopped}
use Rattle.statusline.specs.StatusLine.{gapped, status_line_whole}
use Rattle.statusline.proofs.read.Goals as goal

pub returns-in_err-at : goal.returns-in_err-at
returns-in_err-at c = rw c.requires (tell_stopped _ _ _ c.from_residual.ensures.1 (search (rules, tells, ways, gapped, status_line_whole, c.in_err-at.ensures) depth 14))

pub returns-in_err-version : goal.returns-in_err-version
returns-in_err-version c = rw c.requires (tell_stopped _ _ _ c.from_residual-in_err-version.ensures.1 (search (rules, tells, ways, gapped, status_line_whole, c.in_ok-at.ensures, c.in_err-version.ensures) depth 14))

pub returns-in_err-at-2 : goal.returns-in_err-at-2
returns-in_err-at-2 c = rw c.requires (tell_stopped _ _ _ c.from_residual-in_err-at-2.ensures.1 (search (rules, tells, ways, gapped, status_line_whole, c.in_ok-at.ensures, c.in_ok-version.ensures, c.in_err-at-2.ensures) depth 14))

pub returns-in_err-code : goal.returns-in_err-code
returns-in_err-code c = rw c.requires (tell_stopped _ _ _ c.from_residual-in_err-code.ensures.1 (search (rules, tells, ways, gapped, status_line_whole, c.in_ok-at.ensures, c.in_ok-version.ensures, c.in_ok-at-2.ensures, c.in_err-code.ensures) depth 14))

pub returns-in_err-at-3 : goal.returns-in_err-at-3
returns-in_err-at-3 c = rw c.requires (tell_stopped _ _ _ c.from_residual-in_err-at-3.ensures.1 (search (rules, tells, ways, gapped, status_line_whole, c.in_ok-at.ensures, c.in_ok-version.ensures, c.in_ok-at-2.ensures, c.in_ok-code.ensures, c.in_err-at-3.ensures) depth 14))

pub returns-in_err-reason : goal.returns-in_err-reason
returns-in_err-reason c = rw c.requires (tell_stopped _ _ _ c.from_residual-in_err-reason.ensures.1 (search (rules, tells, ways, gapped, status_line_whole, c.in_ok-at.ensures, c.in_ok-version.ensures, c.in_ok-at-2.ensures, c.in_ok-code.ensures, c.in_ok-at-3.ensures, c.in_err-reason.ensures) depth 14))

pub returns : goal.returns
returns c = search (rules, tells, ways, gapped, status_line_whole, c.in_ok-at.ensures, c.in_ok-version.ensures, c.in_ok-at-2.ensures, c.in_ok-code.ensures, c.in_ok-at-3.ensures, c.in_ok-reason.ensures) depth 14
