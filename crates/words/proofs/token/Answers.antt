-- Where the word ends decides which way of its machine it is.
-- Assumes nothing.
use Rattle.std.proofs.Common.{rules}
use Rattle.parts.specs.Ways.{read_stopped}
use Rattle.words.specs.Word.{words}
use Rattle.words.proofs.token.Goals as goal

pub returns-in_err-byte-2 : goal.returns-in_err-byte-2
returns-in_err-byte-2 c = read_stopped _ _ c.from_residual-in_err-byte-2.ensures.1 (search (rules, words, c.in_ok-byte.ensures, c.in_err-byte-2.ensures))

pub returns-then-branch-end : goal.returns-then-branch-end
returns-then-branch-end c = search (rules, words, c.in_ok-byte.ensures, c.in_ok-byte-2.ensures)

pub returns : goal.returns
returns c = search (rules, words, c.in_ok-byte.ensures, c.in_ok-byte-2.ensures)
