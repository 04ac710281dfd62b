-- The byte that decides a run: before it the machine waits, and with it the answer or the refusal is there.
-- The theorems stand in proofs/Decided.antt. Assumes nothing.
use Rattle.std.specs.Prelude.{ℕ}
use Rattle.reader.specs.Machine.{Move, keep, give, before, refuse, Step}

-- a move that leaves no byte to what follows, and a machine that has no other
abbrev pub Taken : {S A F : Type 0} → Move S A F → Type 0
Taken (keep s) = Unit {0}
Taken (give a) = Unit {0}
Taken (before a) = ⊥
Taken (refuse e) = Unit {0}

abbrev pub Takes : {S A F : Type 0} → Step S A F → Type 0
Takes {S} m = (s : S) (p b : ℕ) → Taken (m s p b)
