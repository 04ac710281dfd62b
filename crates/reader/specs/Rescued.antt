-- A machine whose refusals another takes over where that is wanted, from the byte on that was refused, and told what was seen of those before it.
-- The theorems stand in proofs/Rescued.antt. Assumes nothing.
use Rattle.std.specs.Prelude.{List, [], ◌∷◌, Bool, cond, ℕ}
use Rattle.reader.specs.Machine.{Move, keep, give, before, refuse, Step}
use Rattle.reader.specs.Lifted.{lifted}

pub data Rescued (S T F : Type 0) : Type 0 where
  trying : S → T → Rescued S T F
  rescuing : F → T → Rescued S T F

module _ {S T A F : Type 0} (on : Bool) (m : Step S A F) (watch : T → ℕ → T) (n : F → Step T A F) where
  abbrev pub caught : T → Move S A F → (F → Move T A F) → Move (Rescued S T F) A F
  caught t (keep s) k = keep (trying s t)
  caught t (give a) k = give a
  caught t (before a) k = before a
  caught t (refuse e) k = cond on (lifted (rescuing e) (k e)) (refuse e)

  abbrev pub rescue : Step (Rescued S T F) A F
  rescue (trying s t) p b = caught (watch t b) (m s p b) (λ e. n e t p b)
  rescue (rescuing e t) p b = lifted (rescuing e) (n e t p b)

  -- what is seen of some bytes
  abbrev pub watched : T → List ℕ → T
  watched t [] = t
  watched t (b ∷ bs) = watched (watch t b) bs
