-- What the answers of a part of a head mean to the reader.
-- Assumes nothing.
use Rattle.std.specs.Prelude.{ℕ, ◌-◌, Result, Ok, Err}
use Rattle.reader.specs.Answer.{Answer, got, short, bad}
use Rattle.parts.specs.declared.Error.{Error}
use Rattle.parts.specs.declared.Fault.{Fault}
use Rattle.parts.specs.declared.Piece.{Piece}
use Rattle.parts.specs.declared.Unread.{Unread}
use Rattle.parts.specs.declared.Unread.TheVariants.{More, Bad}

-- an error, and where it lies
abbrev pub fault : Error → ℕ → Fault
fault e p = record { error = e; position = p }

-- the piece from a up to e
abbrev pub piece : ℕ → ℕ → Piece
piece a e = record { offset = a; length = e - a }

-- that the byte at p is wrong
abbrev pub refusal : Error → ℕ → Unread Fault
refusal e p = Bad (fault e p)

-- what reading a part comes to: the position behind it, and its value, if it has one
abbrev pub Passed : Type 0
Passed = Result ℕ (Unread Fault)

abbrev pub Read : Type 0 → Type 0
Read A = Result (A × ℕ) (Unread Fault)

-- why a part was not read
abbrev pub stopped : {A F : Type 0} → Unread F → Answer (Unit {0}) A F
stopped More = short tt
stopped (Bad e) = bad e

abbrev pub passed : Passed → Answer (Unit {0}) (Unit {0}) Fault
passed (Ok q) = got tt q
passed (Err e) = stopped e

abbrev pub read : {A F : Type 0} → Result (A × ℕ) (Unread F) → Answer (Unit {0}) A F
read (Ok r) = got r.0 r.1
read (Err e) = stopped e
