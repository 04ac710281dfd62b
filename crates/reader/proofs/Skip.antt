-- Where a row of bytes of a class ends, and a machine that such bytes leave in its state.
-- Assumes nothing.
use Rattle.std.specs.Prelude.{◌≡◌, refl, List, Bool, true, false, not, ℕ, zero, suc, ◌+◌, ◌-◌, ◌≤◌, ◌<◌, length, get_or}
use Rattle.std.proofs.Common.{sym, ◌∙◌, arith, add-zero}
use Rattle.std.proofs.Math.Decide.{dec_lt}
use Rattle.std.proofs.lemmas.Bool.{not-true, not-false}
use Rattle.reader.specs.Machine.{keep, Step, run_at}
use Rattle.reader.proofs.Laws.{run_in}
use Rattle.reader.specs.Skip.{Passed, Skipped}

module _ {class : ℕ → Bool} {xs : List ℕ} {i : ℕ} where
  pub passed_none : Passed class xs i i
  passed_none = record { from = omega arith; inside = λ h. h; past = λ _. refl; all = λ k lo hi. absurd (omega arith) }

  pub passed_more : {r : ℕ} → Passed class xs i r → r < length xs → class (get_or xs r 0) ≡ true → Passed class xs i (r + 1)
  passed_more {r} h l e = record { from = omega (arith, h.from); inside = λ _. omega arith; past = λ p. absurd (omega (arith, h.from, l, p)); all = λ k lo hi. go k lo hi (dec_lt k r) }
    where
      go : (k : ℕ) → i ≤ k → k < r + 1 → Dec (k < r) → class (get_or xs k 0) ≡ true
      go k lo hi (yes p) = h.all k lo p
      go k lo hi (no n) = let q : k ≡ r = omega arith in rw q e

  pub skipped_at : {r : ℕ} → Passed class xs i r → class (get_or xs r 0) ≡ false → Skipped class xs i r
  skipped_at h e = record { passed = h; stop = λ _. e }

  pub skipped_end : {r : ℕ} → Passed class xs i r → length xs ≤ r → Skipped class xs i r
  skipped_end {r} h l = record { passed = h; stop = λ p. absurd (omega arith) }

-- a part of a row
pub passed_part : {class : ℕ → Bool} {xs : List ℕ} {i r : ℕ} (j k : ℕ) → Passed class xs i r → i ≤ j → j ≤ k → k ≤ r → Passed class xs j k
passed_part {xs = xs} {i = i} {r = r} j k h a b c = record {
  from = b;
  inside = λ l. let u : r ≤ length xs = h.inside (omega arith) in omega arith;
  past = λ p. behind p (dec_lt (length xs) i);
  all = λ n lo hi. h.all n (omega arith) (omega arith);
}
  where
    behind : length xs ≤ j → Dec (length xs < i) → k ≡ j
    behind p (yes q) = let e : r ≡ i = h.past (omega (arith, q)) in omega (arith, a, b, c, e)
    behind p (no q) = let u : r ≤ length xs = h.inside (omega (arith, q)) in omega (arith, b, c, u, p)

-- what a test `if !is_class(b)` says of the class
pub told_true : {t c : Bool} → t ≡ c → not t ≡ false → c ≡ true
told_true {t} e h = sym e ∙ not-false t h

pub told_false : {t c : Bool} → t ≡ c → not t ≡ true → c ≡ false
told_false {t} e h = sym e ∙ not-true t h

-- what proves a loop that skips a class
pub ruleset skips = (passed_none, passed_more, skipped_at, skipped_end, told_true, told_false)

-- bytes that leave a machine in its state are passed over
module _ {S A F : Type 0} (m : Step S A F) (class : ℕ → Bool) (s : S) (keeps : (q b : ℕ) → class b ≡ true → m s q b ≡ keep s) (xs : List ℕ) where
  skip_by : (d i : ℕ) → i + d ≤ length xs → ((k : ℕ) → i ≤ k → k < i + d → class (get_or xs k 0) ≡ true) → run_at m s xs i ≡ run_at m s xs (i + d)
  skip_by zero i h g = rw add-zero
  skip_by (suc d) i h g =
      let e : i + 1 + d ≡ i + suc d = omega arith in
      run_in m s xs i (omega arith)
      ∙ rw (keeps i (get_or xs i 0) (g i (omega arith) (omega arith)))
      (skip_by d (i + 1) (omega arith) (λ k lo hi. g k (omega arith) (omega arith)) ∙ rw e)

  pub skip : {i j : ℕ} → i ≤ length xs → Passed class xs i j → run_at m s xs i ≡ run_at m s xs j
  skip {i} {j} l h =
      let u : i ≤ j = h.from in
      let v : j ≤ length xs = h.inside l in
      let e : i + (j - i) ≡ j = omega arith in
      skip_by (j - i) i (omega arith) (λ k lo hi. h.all k lo (omega arith)) ∙ rw e
