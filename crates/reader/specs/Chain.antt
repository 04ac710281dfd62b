-- A part in a row of parts: what is known before it stands in its refusals and where the bytes run out, and its answer adds to it.
-- The theorems stand in proofs/Chain.antt. Assumes nothing.
use Rattle.std.specs.Prelude.{List, ℕ}
use Rattle.reader.specs.Machine.{Step, run_at}
use Rattle.reader.specs.Judged.{pass, judged}
use Rattle.reader.specs.Answer.{Answer, got, short, bad, answer}

-- nothing is known within a part that is not done
abbrev pub nothing : {S : Type 0} → S → Unit {0}
nothing s = tt

-- what reading a part at a position answers
abbrev pub reads : {S A E : Type 0} → Step S A E → S → List ℕ → ℕ → Answer (Unit {0}) A E
reads m s xs p = answer nothing (run_at m s xs p)

-- the last part of something that is known but for its end
abbrev pub ended : {A C E : Type 0} → C → Answer (Unit {0}) A E → Answer (Unit {0}) C E
ended c (got a q) = got c q
ended c (short u) = short u
ended c (bad e) = bad e

module _ {K A E : Type 0} (k : K) (f : A → K) where
  -- the part m, with k known before it and f of its answer behind it
  abbrev pub part : {S : Type 0} → Step S A E → Step S K (E × K)
  part m = judged (λ a. pass (f a)) (λ e. (e, k)) m

  -- what that answers alone, and where more parts follow
  abbrev pub last : Answer (Unit {0}) A E → Answer K K (E × K)
  last (got a q) = got (f a) q
  last (short u) = short k
  last (bad e) = bad (e, k)

  abbrev pub chain : {B : Type 0} → Answer (Unit {0}) A E → (K → ℕ → Answer K B (E × K)) → Answer K B (E × K)
  chain (got a q) next = next (f a) q
  chain (short u) next = short k
  chain (bad e) next = bad (e, k)
