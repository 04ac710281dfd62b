-- Between the name of each header that is given and its colon stand spaces and tabs where they are allowed, and nothing else.
-- The theorems stand in proofs/Colons.antt. Assumes nothing.
use Rattle.std.specs.Prelude.{ℕ, zero, suc, ◌+◌, ◌<◌, ◌≡◌, List, Bool, length, drop, get_or}
use Rattle.rules.specs.Rules.{Rules}
use Rattle.names.specs.Colon.{NameToColon}
use Rattle.fields.specs.declared.Header.{Header}

-- a header's name, up to its colon
abbrev pub HeaderToColon : List ℕ → Rules → Header → Type 0
HeaderToColon z r h = NameToColon r.spaces_after_name z h.name

-- the same of the names in the first count slots, four numbers each
abbrev pub SlotsToColon : Bool → List ℕ → ℕ → List ℕ → Type 0
SlotsToColon allowed z zero slots = Unit {0}
SlotsToColon allowed z (suc count) slots = NameToColon allowed z (record { offset = get_or slots 0 0; length = get_or slots 1 0 }) × SlotsToColon allowed z count (drop 4 slots)

-- each name's colon is the byte behind it
abbrev pub SlotsAtOnce : List ℕ → ℕ → List ℕ → Type 0
SlotsAtOnce z zero slots = Unit {0}
SlotsAtOnce z (suc count) slots = (get_or slots 0 0 + get_or slots 1 0 < length z) × (get_or z (get_or slots 0 0 + get_or slots 1 0) 0 ≡ 0x3A) × SlotsAtOnce z count (drop 4 slots)
