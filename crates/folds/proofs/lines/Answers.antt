-- A line that is read is one more lap; what stops it stops the whole, and so does the input's end behind it where a blank could follow.
-- Assumes nothing.
use Rattle.std.proofs.Common.{rules}
use Rattle.parts.specs.Ways.{read_stopped}
use Rattle.folds.specs.Folded.{folds}
use Rattle.folds.proofs.lines.Goals as goal

pub loop-piece-init : goal.loop-piece-init
loop-piece-init c = search (rules, folds)

pub returns-in_err-piece : goal.returns-in_err-piece
returns-in_err-piece c = read_stopped _ _ c.from_residual.ensures.1 (search (rules, folds, c.in_err-piece.ensures))

pub returns-in_err-behind : goal.returns-in_err-behind
returns-in_err-behind c = read_stopped _ _ c.from_residual-in_err-behind.ensures.1 (search (rules, folds, c.in_ok-piece.ensures, c.in_err-behind.ensures))

pub joined-value-requires : goal.joined-value-requires
joined-value-requires c = search (rules, folds, c.in_ok-piece.ensures)

pub returns-then-not-holds : goal.returns-then-not-holds
returns-then-not-holds c = search (rules, folds, c.in_ok-piece.ensures, c.in_ok-behind.ensures)

pub loop-piece-smaller : goal.loop-piece-smaller
loop-piece-smaller c = search (rules, folds, c.in_ok-piece.ensures)

pub loop-piece-preserved : goal.loop-piece-preserved
loop-piece-preserved c = search (rules, folds, c.in_ok-piece.ensures, c.in_ok-behind.ensures)
