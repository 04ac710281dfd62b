-- The check's values as the reader's: what is awaited, as a state, and what a byte makes of it, if anything, as a move.
-- Assumes nothing.
use Rattle.std.specs.Prelude.{ℕ, zero, suc, [], ◌∷◌, replicate, Option, Some, None}
use Rattle.reader.specs.Machine.{Move, keep, refuse}
use Rattle.utf8.specs.declared.Awaited.{Awaited}
use Rattle.utf8.specs.Reader.{State, tail}

-- n bytes to come, of which the first is from lo to hi
abbrev pub awaiting : ℕ → ℕ → ℕ → State
awaiting zero lo hi = []
awaiting (suc n) lo hi = (lo, hi) ∷ replicate n tail

abbrev pub state : Awaited → State
state a = awaiting a.left a.low a.high

abbrev pub moved : Option Awaited → Move State ⊥ (Unit {0})
moved (Some a) = keep (state a)
moved None = refuse tt
