-- What a machine refuses with, and where: what holds of each move's refusal and its position holds of each run's, and so for machines made of such machines.
-- The theorems stand in proofs/Refusals.antt. Assumes nothing.
use Rattle.std.specs.Prelude.{ℕ}
use Rattle.reader.specs.Machine.{Move, keep, give, before, refuse, Step}

-- what is refused satisfies P
abbrev pub Refusal : {S A F : Type 0} → (F → Type 0) → Move S A F → Type 0
Refusal P (keep s) = Unit {0}
Refusal P (give a) = Unit {0}
Refusal P (before a) = Unit {0}
Refusal P (refuse e) = P e

-- whatever is refused of the byte at a position p satisfies P p
abbrev pub Refuses : {S A F : Type 0} → (ℕ → F → Type 0) → Step S A F → Type 0
Refuses {S} P m = (s : S) (p b : ℕ) → Refusal (P p) (m s p b)
