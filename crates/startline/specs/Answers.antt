-- What the answers of a start line mean to the reader: as far as it is known.
-- Assumes nothing.
use Rattle.std.specs.Prelude.{ℕ, ◌≡◌, refl, Err, None, Ok, Option, Some}
use Rattle.std.specs.Result.{IsErrAnd}
use Rattle.reader.specs.Answer.{Answer, got, short, bad}
use Rattle.reader.specs.Chain.{last, chain}
use Rattle.parts.specs.declared.Fault.{Fault}
use Rattle.parts.specs.declared.Unread.{Unread}
use Rattle.parts.specs.declared.Unread.TheVariants.{More, Bad}
use Rattle.parts.specs.Answers.{Passed, passed, stopped}

-- a number that is not known is 0
abbrev pub number_of : Option ℕ → ℕ
number_of (Some n) = n
number_of None = 0

-- an answer in which k is known
abbrev pub tell : {K : Type 0} → Passed → K → Answer K K (Fault × K)
tell (Ok q) k = got k q
tell (Err More) k = short k
tell (Err (Bad e)) k = bad (e, k)

told_last : {K : Type 0} (k : K) (p : Passed) → tell p k ≡ last k (λ _. k) (passed p)
told_last k (Ok q) = refl
told_last k (Err More) = refl
told_last k (Err (Bad e)) = refl

-- the last part, whose answer is the whole's
pub tell_last : {K : Type 0} (k : K) (p : Passed) {r : Answer (Unit {0}) (Unit {0}) Fault} → passed p ≡ r → tell p k ≡ last k (λ _. k) r
tell_last k p e = rw (← e) (told_last k p)

-- what a `?` hands on is why the part was not read, and k is known by then
pub tell_stopped : {K : Type 0} (m : Passed) (x : Unread Fault) (k : K) {y : Answer K K (Fault × K)} → IsErrAnd m (λ d. d ≡ x) → tell (Err x) k ≡ y → tell m k ≡ y
tell_stopped (Ok q) x k h g = absurd h
tell_stopped (Err d) x k h g = rw h g

-- a part that was not read stops the line
module _ {A K : Type 0} (x : Unread Fault) {r : Answer (Unit {0}) A Fault} (e : stopped x ≡ r) (k : K) (f : A → K) where
  pub last_stops : tell (Err x) k ≡ last k f r
  last_stops = rw (← e) (by x)
    where
      by : (y : Unread Fault) → tell (Err y) k ≡ last k f (stopped y)
      by More = refl
      by (Bad d) = refl

  pub chain_stops : (next : K → ℕ → Answer K K (Fault × K)) → tell (Err x) k ≡ chain k f r next
  chain_stops next = rw (← e) (by x)
    where
      by : (y : Unread Fault) → tell (Err y) k ≡ chain k f (stopped y) next
      by More = refl
      by (Bad d) = refl

pub ruleset tells = (tell_last, last_stops, chain_stops)
