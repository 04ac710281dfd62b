-- What is known in the end of a row of parts, whatever it answers: what held before a part still holds, or what the part adds does.
-- Assumes nothing.
use Rattle.std.specs.Prelude.{ℕ, ◌≡◌, refl}
use Rattle.reader.specs.Answer.{Answer, got, short, bad}
use Rattle.reader.specs.Chain.{last, chain}

-- what an answer knows
abbrev pub known_of : {K E : Type 0} → Answer K K (E × K) → K
known_of (got k q) = k
known_of (short k) = k
known_of (bad x) = x.1

-- what holds before a part and with what it adds holds of what is known in the end
module _ {K A E : Type 0} (P : K → Type 0) (k : K) (f : A → K) (h : P k) where
  pub last_holds : (a : Answer (Unit {0}) A E) → ((x : A) (q : ℕ) → a ≡ got x q → P (f x)) → P (known_of (last k f a))
  last_holds (got x q) g = g x q refl
  last_holds (short u) g = h
  last_holds (bad e) g = h

  pub chain_holds : (next : K → ℕ → Answer K K (E × K)) (a : Answer (Unit {0}) A E) → ((x : A) (q : ℕ) → a ≡ got x q → P (known_of (next (f x) q))) → P (known_of (chain k f a next))
  chain_holds next (got x q) g = g x q refl
  chain_holds next (short u) g = h
  chain_holds next (bad e) g = h
