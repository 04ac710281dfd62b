-- A machine whose answers and refusals are told in a larger one's words, and whose answer the larger one may refuse after all.
-- Assumes nothing.
use Rattle.reader.specs.Machine.{Move, keep, give, before, refuse, Step}

-- what the larger machine makes of an answer
pub data Verdict (B F : Type 0) : Type 0 where
  pass : B → Verdict B F
  fail : F → Verdict B F

module _ {S A B E F : Type 0} (f : A → Verdict B F) (g : E → F) where
  abbrev pub given : Verdict B F → Move S B F
  given (pass b) = give b
  given (fail x) = refuse x

  abbrev pub left : Verdict B F → Move S B F
  left (pass b) = before b
  left (fail x) = refuse x

  abbrev pub moved : Move S A E → Move S B F
  moved (keep s) = keep s
  moved (give a) = given (f a)
  moved (before a) = left (f a)
  moved (refuse e) = refuse (g e)

  abbrev pub judged : Step S A E → Step S B F
  judged m s p b = moved (m s p b)
