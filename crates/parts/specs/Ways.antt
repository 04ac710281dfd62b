-- What a match on a part's answer says of a row of parts that begins with it: it goes as the arm says.
-- Assumes nothing.
use Rattle.std.specs.Prelude.{ℕ, ◌≡◌, refl, Result, Ok, Err}
use Rattle.std.specs.Result.{IsErrAnd}
use Rattle.reader.specs.Answer.{Answer, got, and}
use Rattle.reader.specs.Chain.{ended, last, chain}
use Rattle.parts.specs.declared.Fault.{Fault}
use Rattle.parts.specs.declared.Unread.{Unread}
use Rattle.parts.specs.declared.Unread.TheVariants.{More, Bad}
use Rattle.parts.specs.declared.Piece.{Piece}
use Rattle.parts.specs.Answers.{Passed, Read, passed, read, stopped}

-- what a `?` hands on is why the part was not read
pub read_stopped : {A F : Type 0} (m : Result (A × ℕ) (Unread F)) (e : Unread F) {y : Answer (Unit {0}) A F} → IsErrAnd m (λ d. d ≡ e) → stopped e ≡ y → read m ≡ y
read_stopped (Ok r) e h g = absurd h
read_stopped (Err d) e h g = rw h g

pub passed_stopped : (m : Passed) (e : Unread Fault) {y : Answer (Unit {0}) (Unit {0}) Fault} → IsErrAnd m (λ d. d ≡ e) → stopped e ≡ y → passed m ≡ y
passed_stopped (Ok r) e h g = absurd h
passed_stopped (Err d) e h g = rw h g

-- a part was read, and the row of parts goes on behind it
module _ {A : Type 0} {a : A} {q : ℕ} {r : Answer (Unit {0}) A Fault} (e : got a q ≡ r) where
  pub ended_on : {B : Type 0} (b : B) {z : Answer (Unit {0}) B Fault} → z ≡ got b q → z ≡ ended b r
  ended_on b g = rw (← e) g

  pub and_on : {B : Type 0} (next : A → ℕ → Answer (Unit {0}) B Fault) {z : Answer (Unit {0}) B Fault} → z ≡ next a q → z ≡ and r next
  and_on next g = rw (← e) g

  module _ {K : Type 0} (k : K) (f : A → K) where
    pub last_on : {z : Answer K K (Fault × K)} → z ≡ got (f a) q → z ≡ last k f r
    last_on g = rw (← e) g

    pub chain_on : {B : Type 0} (next : K → ℕ → Answer K B (Fault × K)) {z : Answer K B (Fault × K)} → z ≡ next (f a) q → z ≡ chain k f r next
    chain_on next g = rw (← e) g

-- a part was not read, and the row stops there
module _ {A : Type 0} (x : Unread Fault) {r : Answer (Unit {0}) A Fault} (e : stopped x ≡ r) {B : Type 0} where
  pub ended_stops : (b : B) → stopped x ≡ ended b r
  ended_stops b = rw (← e) (by x)
    where
      by : (y : Unread Fault) → stopped y ≡ ended {A = A} b (stopped y)
      by More = refl
      by (Bad d) = refl

  pub and_stops : (next : A → ℕ → Answer (Unit {0}) B Fault) → stopped x ≡ and r next
  and_stops next = rw (← e) (by x)
    where
      by : (y : Unread Fault) → stopped y ≡ and (stopped y) next
      by More = refl
      by (Bad d) = refl

-- m is what the code found and c what the arm took it for
module _ {m c : Passed} {r : Answer (Unit {0}) (Unit {0}) Fault} (e : passed m ≡ r) (h : m ≡ c) where
  pub ended_passed : {B : Type 0} (b : B) {z : Answer (Unit {0}) B Fault} → z ≡ ended b (passed c) → z ≡ ended b r
  ended_passed b g = rw (← e, h) g

  pub chain_passed : {B K : Type 0} (k : K) (f : Unit {0} → K) (next : K → ℕ → Answer K B (Fault × K)) {z : Answer K B (Fault × K)} → z ≡ chain k f (passed c) next → z ≡ chain k f r next
  chain_passed k f next g = rw (← e, h) g

module _ {m c : Read Piece} {r : Answer (Unit {0}) Piece Fault} (e : read m ≡ r) (h : m ≡ c) where
  pub and_found : {B : Type 0} (next : Piece → ℕ → Answer (Unit {0}) B Fault) {z : Answer (Unit {0}) B Fault} → z ≡ and (read c) next → z ≡ and r next
  and_found next g = rw (← e, h) g

  pub last_found : {K : Type 0} (k : K) (f : Piece → K) {z : Answer K K (Fault × K)} → z ≡ last k f (read c) → z ≡ last k f r
  last_found k f g = rw (← e, h) g

  pub chain_found : {B K : Type 0} (k : K) (f : Piece → K) (next : K → ℕ → Answer K B (Fault × K)) {z : Answer K B (Fault × K)} → z ≡ chain k f (read c) next → z ≡ chain k f r next
  chain_found k f next g = rw (← e, h) g

pub chain_number : {m c : Read ℕ} {r : Answer (Unit {0}) ℕ Fault} → read m ≡ r → m ≡ c → {B K : Type 0} (k : K) (f : ℕ → K) (next : K → ℕ → Answer K B (Fault × K)) {z : Answer K B (Fault × K)} → z ≡ chain k f (read c) next → z ≡ chain k f r next
chain_number e h k f next g = rw (← e, h) g

pub ruleset ways = (ended_on, and_on, last_on, chain_on, ended_stops, and_stops)
