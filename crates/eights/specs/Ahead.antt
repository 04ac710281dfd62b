-- Bytes of a class that stand next, several at once.
-- Assumes nothing.
use Rattle.std.specs.Prelude.{ℕ, ◌+◌, ◌-◌, ◌≤◌, ◌<◌, ◌≡◌, List, Bool, true, length, get_or}
use Rattle.std.proofs.Common.{arith, ap, subst, ◌∙◌}
use Rattle.std.proofs.Math.Decide.{dec_lt}
use Rattle.reader.specs.Skip.{Passed, Skipped}
use Rattle.reader.proofs.Skip.{skips}
use Rattle.flags.specs.Test.{word}
use Rattle.flags.specs.Sure.{Sure}

-- eight bytes from i on as one number
pub record Loaded (xs : List ℕ) (i x : ℕ) : Type 0 where
  pub number : x ≡ word (λ k. get_or xs (i + k) 0) 0 8
  pub bytes : (k : ℕ) → get_or xs (i + k) 0 < 256

-- the r bytes from i on are of the class; where they are fewer than eight, another stands behind them
pub record Ahead (class : ℕ → Bool) (xs : List ℕ) (i r : ℕ) : Type 0 where
  pub most : r ≤ 8
  pub inside : i + r ≤ length xs
  pub behind : r < 8 → i + r < length xs
  pub all : (k : ℕ) → k < r → class (get_or xs (i + k) 0) ≡ true

module _ {class : ℕ → Bool} {xs : List ℕ} {i : ℕ} where
  pub ahead_none : i < length xs → Ahead class xs i 0
  ahead_none h = record { most = omega arith; inside = omega (arith, h); behind = λ _. omega (arith, h); all = λ k l. absurd (omega (arith, l)) }

  pub ahead_eight : {x r : ℕ} → Sure class x r → Loaded xs i x → i + 8 ≤ length xs → Ahead class xs i r
  ahead_eight s l h = record { most = s.most; inside = omega (arith, h, s.most); behind = λ l. omega (arith, h, l); all = s.all (λ k. get_or xs (i + k) 0) l.bytes l.number }

  pub ahead_less : {n : ℕ} → Ahead class xs i n → (n ≡ 8 → ⊥) → i + n < length xs
  ahead_less a ne = a.behind (omega (arith, a.most, ne))

  -- and so they are passed over
  pub passed_ahead : {r n : ℕ} → Passed class xs i r → Ahead class xs r n → Passed class xs i (r + n)
  passed_ahead {r} {n} h a = record {
    from = omega (arith, h.from);
    inside = λ _. a.inside;
    past = λ p. omega (arith, p, h.from, a.inside);
    all = λ k lo hi. go k lo hi (dec_lt k r);
  }
    where
      go : (k : ℕ) → i ≤ k → k < r + n → Dec (k < r) → class (get_or xs k 0) ≡ true
      go k lo hi (yes p) = h.all k lo p
      go k lo hi (no p) = let e : k ≡ r + (k - r) = omega (arith, p) in ap (λ y. class (get_or xs y 0)) e ∙ a.all (k - r) (omega (arith, hi, p))

  pub passed_eight : {r n : ℕ} → n ≡ 8 → Passed class xs i r → Ahead class xs r n → Passed class xs i (r + 8)
  passed_eight {r} e h a = subst (λ y. Passed class xs i (r + y)) e (passed_ahead h a)

  -- a row whose end is looked for from within
  pub skipped_on : {r e : ℕ} → Passed class xs i r → Skipped class xs r e → Skipped class xs i e
  skipped_on {r} {e} h t = record {
    passed = record {
      from = omega (arith, h.from, t.passed.from);
      inside = λ l. t.passed.inside (h.inside l);
      past = λ l. let p = h.past l in omega (arith, p, t.passed.past (omega (arith, l, p)));
      all = λ k lo hi. go k lo hi (dec_lt k r);
    };
    stop = t.stop;
  }
    where
      go : (k : ℕ) → i ≤ k → k < e → Dec (k < r) → class (get_or xs k 0) ≡ true
      go k lo hi (yes p) = h.all k lo p
      go k lo hi (no p) = t.passed.all k (omega (arith, p)) hi

-- what proves a loop that passes over eight bytes, or one
pub ruleset aheads = (skips, ahead_less, passed_ahead, passed_eight)
