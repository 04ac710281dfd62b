-- What a run answers, told without its states: what a function over the whole input can say of it.
-- The theorems stand in proofs/Answer.antt. Assumes nothing.
use Rattle.std.specs.Prelude.{ℕ}
use Rattle.reader.specs.Machine.{Run, more, gave, refused, Step}
use Rattle.reader.specs.Judged.{Verdict, pass, fail}
use Rattle.reader.specs.Seq.{Then, first, second}
use Rattle.reader.specs.Loop.{Turn, again, done}

-- an answer, and where the next byte is; the bytes ran out, and what is known by then; a refusal
pub data Answer (U A F : Type 0) : Type 0 where
  got : A → ℕ → Answer U A F
  short : U → Answer U A F
  bad : F → Answer U A F

-- what a run answers, where `known` tells what is known in a state
module _ {S U A F : Type 0} (known : S → U) where
  abbrev pub answer : Run S A F → Answer U A F
  answer (more s) = short (known s)
  answer (gave a q) = got a q
  answer (refused e q) = bad e

-- a part's answer in a larger machine's words
module _ {U W A B E F : Type 0} (h : U → W) (f : A → Verdict B F) (g : E → F) where
  abbrev pub verdict : Verdict B F → ℕ → Answer W B F
  verdict (pass b) q = got b q
  verdict (fail x) q = bad x

  abbrev pub retold : Answer U A E → Answer W B F
  retold (got a q) = verdict (f a) q
  retold (short u) = short (h u)
  retold (bad e) = bad (g e)

  module _ {S : Type 0} (known : S → U) (m : Step S A E) where
    abbrev pub known' : S → W
    known' s = h (known s)

-- one answer, and another from where it leaves the next byte
module _ {U A B F : Type 0} where
  abbrev pub and : Answer U A F → (A → ℕ → Answer U B F) → Answer U B F
  and (got a q) k = k a q
  and (short u) k = short u
  and (bad e) k = bad e

module _ {S A T U : Type 0} (known : S → U) (known' : A → T → U) where
  -- what is known in a state of one machine after another
  abbrev pub either : Then S A T → U
  either (first s) = known s
  either (second a t) = known' a t

-- a lap's answer, and the loop's from where it leaves the next byte
module _ {U A B F : Type 0} where
  abbrev pub rounds : Answer U (Turn A B) F → (A → ℕ → Answer U B F) → Answer U B F
  rounds (got (again a) q) k = k a q
  rounds (got (done b) q) k = got b q
  rounds (short u) k = short u
  rounds (bad e) k = bad e

-- what is known in a state of a loop
abbrev pub lapwise : {A S U : Type 0} → (A → S → U) → A × S → U
lapwise known c = known c.0 c.1
