-- A single byte: whether the input has one at a position, and one that must stand in its place.
-- Assumes nothing.
use Rattle.std.specs.Prelude.{ℕ, ◌<◌, ◌≤◌, ◌≡◌, List, length, get_or, cond, eqb}
use Rattle.reader.specs.Machine.{give, refuse, Step}
use Rattle.parts.specs.declared.Error.{Error}
use Rattle.parts.specs.declared.Fault.{Fault}
use Rattle.parts.specs.declared.Unread.{Unread}
use Rattle.parts.specs.declared.Unread.TheVariants.{More}
use Rattle.parts.specs.Answers.{fault}

-- a machine of one byte has one state
abbrev pub byte_step : ℕ → Error → Step (Unit {0}) (Unit {0}) Fault
byte_step c e s p b = cond (eqb b c) (give tt) (refuse (fault e p))

-- the byte at a position
pub record Is (xs : List ℕ) (at b : ℕ) : Type 0 where
  pub inside : at < length xs
  pub there : b ≡ get_or xs at 0

-- there is none: the input ends before it
pub record IsPast {F : Type 0} (xs : List ℕ) (at : ℕ) (e : Unread F) : Type 0 where
  pub past : length xs ≤ at
  pub more : e ≡ More
