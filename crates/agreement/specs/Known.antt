-- What a call has told of a start line and put into the slots, in the grammar's words.
-- Assumes nothing.
use Rattle.std.specs.Prelude.{ℕ, zero, suc, ◌+◌, ◌≤◌, ◌≡◌, List, [], ◌∷◌, length, take, drop, get_or, None, Option, Some}
use Rattle.rules.specs.Rules.{Rules}
use Rattle.grammar.specs.Rows.{Many}
use Rattle.grammar.specs.Fields.{IsFieldName, Field}
use Rattle.grammar.specs.Message as grammar
use Rattle.parts.specs.declared.Piece.{Piece}
use Rattle.requestline.specs.declared.RequestLine.{RequestLine}
use Rattle.statusline.specs.declared.StatusLine.{StatusLine}
use Rattle.agreement.specs.Places.{held}

-- a piece is known, and its bytes are these
abbrev pub Holds : List ℕ → Option Piece → List ℕ → Type 0
Holds z (Some a) w = held z a ≡ w
Holds z None w = ⊥

-- a number is known, and is this
abbrev pub Counts : Option ℕ → ℕ → Type 0
Counts (Some a) n = a ≡ n
Counts None n = ⊥

-- of a version the minor number is told; the major one is 1
pub record RequestSays (z : List ℕ) (k : RequestLine) (g : grammar.RequestLine) : Type 0 where
  pub method : Holds z k.method g.method
  pub target : Holds z k.target g.target
  pub version : Counts k.version g.version.minor

pub record StatusSays (z : List ℕ) (k : StatusLine) (g : grammar.StatusLine) : Type 0 where
  pub version : Counts k.version g.version.minor
  pub code : Counts k.code g.code
  pub reason : Holds z k.reason g.reason

-- a known piece lies in the input, and its bytes are such
abbrev pub Inside : (List ℕ → Type 0) → List ℕ → Option Piece → Type 0
Inside Such z (Some a) = (a.offset + a.length ≤ length z) × Such (held z a)
Inside Such z None = Unit {0}

pub record RequestInside (r : Rules) (z : List ℕ) (k : RequestLine) : Type 0 where
  pub method : Inside grammar.IsMethod z k.method
  pub target : Inside (grammar.IsRequestTarget r) z k.target

-- no obs-text is ever given in a reason
pub record StatusInside (z : List ℕ) (k : StatusLine) : Type 0 where
  pub reason : Inside (Many grammar.IsAsciiText) z k.reason

-- names are names and values are values
abbrev pub AreFields : Rules → List Field → Type 0
AreFields r [] = Unit {0}
AreFields r (f ∷ fs) = IsFieldName f.name × grammar.IsValueLines r f.value × AreFields r fs

-- the fields in the first count slots, four numbers each: where the name is, its length, where the value is, its length
abbrev pub fields_in : List ℕ → ℕ → List ℕ → List Field
fields_in z zero slots = []
fields_in z (suc count) slots =
    record { name = take (get_or slots 1 0) (drop (get_or slots 0 0) z); value = take (get_or slots 3 0) (drop (get_or slots 2 0) z) } ∷ fields_in z count (drop 4 slots)

-- the places in the first count slots end within the first e bytes
abbrev pub SlotsInside : ℕ → ℕ → List ℕ → Type 0
SlotsInside e zero slots = Unit {0}
SlotsInside e (suc count) slots = (get_or slots 0 0 + get_or slots 1 0 ≤ e) × (get_or slots 2 0 + get_or slots 3 0 ≤ e) × SlotsInside e count (drop 4 slots)
