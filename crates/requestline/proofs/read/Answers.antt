-- Each part that is read is one more link of the line's chain; the first that is not stops it, with what is known by then.
-- Assumes nothing.
use Rattle.std.proofs.Common.{rules}
use Rattle.parts.specs.Ways.{ways}
use Rattle.startline.specs.Answers.{tells, tell_stopped}
use Rattle.requestline.specs.RequestLine.{gapped, request_line_whole}
use Rattle.requestline.proofs.read.Goals as goal

pub returns-in_err-at : goal.returns-in_err-at
returns-in_err-at c = rw c.requires (tell_stopped _ _ _ c.from_residual.ensures.1 (search (rules, tells, ways, gapped, request_line_whole, c.in_err-at.ensures)))

pub returns-in_err-method : goal.returns-in_err-method
returns-in_err-method c = rw c.requires (tell_stopped _ _ _ c.from_residual-in_err-method.ensures.1 (search (rules, tells, ways, gapped, request_line_whole, c.in_ok-at.ensures, c.in_err-method.ensures)))

pub returns-in_err-target : goal.returns-in_err-target
returns-in_err-target c = rw c.requires (tell_stopped _ _ _ c.from_residual-in_err-target.ensures.1 (search (rules, tells, ways, gapped, request_line_whole, c.in_ok-at.ensures, c.in_ok-method.ensures, c.in_err-target.ensures) depth 12))

pub returns-in_err-version : goal.returns-in_err-version
returns-in_err-version c = rw c.requires (tell_stopped _ _ _ c.from_residual-in_err-version.ensures.1 (search (rules, tells, ways, gapped, request_line_whole, c.in_ok-at.ensures, c.in_ok-method.ensures, c.in_ok-target.ensures, c.in_err-version.ensures) depth 12))

pub returns : goal.returns
returns c = search (rules, tells, ways, gapped, request_line_whole, c.in_ok-at.ensures, c.in_ok-method.ensures, c.in_ok-target.ensures, c.in_ok-version.ensures) depth 12
