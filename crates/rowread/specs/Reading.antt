-- Reading a row: what the next head comes to, and what is kept from one to the next.
-- The theorems stand in proofs/Reading.antt. Assumes nothing.
use Rattle.std.specs.Prelude.{ℕ, ◌+◌, ◌/◌, ◌≤◌, ◌<◌, ◌≡◌, List, ◌++◌, length, drop, Err, Ok}
use Rattle.grammar.specs.Fields.{Field}
use Rattle.parts.specs.declared.Error.TheVariants.{TooManyHeaders}
use Rattle.parts.specs.declared.Fault.{Fault}
use Rattle.parts.specs.declared.Unread.TheVariants.{More, Bad}
use Rattle.parts.specs.declared.Unread.{Unread}
use Rattle.parts.specs.Answers.{Passed, fault}
use Rattle.heads.specs.Head.{Heads}
use Rattle.rowread.specs.declared.Stop.{Stop}
use Rattle.rowread.specs.declared.Stop.TheVariants as stops
use Rattle.rowread.specs.Row.{Row, Fitting, Ends, Used}

-- what a call comes to on the bytes z, with n slots
pub data Next {L K : Type 0} (Head : List ℕ → L → List Field → Type 0) (read : ℕ → List ℕ → Heads K) (n : ℕ) (z : List ℕ) : Passed → Type 0 where
  found : {w : List ℕ} (t : List ℕ) {l : L} {fs : List Field} {q : ℕ} → z ≡ w ++ t → q ≡ length w → 1 ≤ length w → Head w l fs → length fs ≤ n → Next Head read n z (Ok q)
  waits : Ends (read n z) (Err More) → ((w t : List ℕ) (l : L) (fs : List Field) → z ≡ w ++ t → Head w l fs → ⊥) → Next Head read n z (Err More)
  fails : {x : Fault} → Ends (read n z) (Err (Bad x)) → x.position < length z → ((u w t : List ℕ) (l : L) (fs : List Field) → z ++ u ≡ w ++ t → Head w l fs → length fs ≤ n → ⊥) → ((x.error ≡ TooManyHeaders → ⊥) → (u w t : List ℕ) (l : L) (fs : List Field) → z ++ u ≡ w ++ t → Head w l fs → ⊥) → Next Head read n z (Err (Bad x))

-- why the reading stops at a position behind which no whole head stands
abbrev pub stop_of : ℕ → Unread Fault → Stop
stop_of at More = stops.More
stop_of at (Bad x) = stops.Bad (fault x.error (at + x.position))

-- the byte that is wrong behind a position, if one is, lies before n
abbrev pub WrongBefore : ℕ → ℕ → Unread Fault → Type 0
WrongBefore n at More = Unit {0}
WrongBefore n at (Bad x) = at + x.position < n

-- the bytes before at are a row of heads that fit n slots, their ends are in their places, and the slots are as these heads left them
pub record Reading {L K : Type 0} (Head : List ℕ → L → List Field → Type 0) (read : ℕ → List ℕ → Heads K) (n : ℕ) (s slots old left new : List ℕ) (at count : ℕ) : Type 0 where
  pub bytes : List ℕ
  pub rest : List ℕ
  pub heads : List (L × List Field)
  pub ends : List ℕ
  pub whole : s ≡ bytes ++ rest
  pub row : Row Head 0 bytes heads ends
  pub fits : Fitting n heads
  pub place : at ≡ length bytes
  pub counted : count ≡ length ends
  pub kept : new ≡ ends ++ drop (length ends) old
  pub size : length new ≡ length old
  pub room : count ≤ length old
  pub uses : Used read n s slots ends at left
  pub many : length left ≡ length slots
  pub slots_are : n ≡ length slots / 4
