-- The bytes before the first flag, counted one by one.
-- Assumes nothing.
use Rattle.std.specs.Prelude.{ℕ, zero, suc, ◌+◌, ◌-◌, ◌/◌, ◌%◌, ◌≤◌, ◌<◌, ◌≡◌, refl}
use Rattle.std.proofs.Common.{arith, zero-add, sym, ap, ◌∙◌}
use Rattle.std.specs.Int.Count.{under}
use Rattle.flags.specs.Lowest.{zeros}
use Rattle.flags.specs.Sure.{clear}

-- so many bytes of f are 0, and what stands behind them is r
pub record Counted (f r count : ℕ) : Type 0 where
  pub most : count ≤ 8
  pub so_far : clear f ≡ count + zeros (8 - count) r

module _ {f : ℕ} where
  pub counted_none : Counted f f 0
  counted_none = record { most = omega arith; so_far = sym (zero-add (clear f)) }

  pub counted_all : f ≡ 0 → 8 ≡ clear f
  counted_all e = ap clear (sym e)

one_less : (r count : ℕ) → count < 8 → zeros (8 - count) r ≡ under (r % 256) (zeros (8 - (count + 1)) (r / 256))
one_less r count l = let e : 8 - count ≡ suc (8 - (count + 1)) = omega (arith, l) in ap (λ n. zeros n r) e

module _ {f r count : ℕ} where
  pub counted_more : Counted f r count → count < 8 → r % 256 ≡ 0 → Counted f (r / 256) (count + 1)
  counted_more c l e = record { most = omega (arith, l); so_far = omega (arith, c.so_far, one_less r count l ∙ ap (λ d. under d (zeros (8 - (count + 1)) (r / 256))) e) }

  pub counted_end : Counted f r count → 8 ≤ count → count ≡ clear f
  counted_end c l = let e : 8 - count ≡ 0 = omega (arith, l) in omega (arith, c.so_far, ap (λ n. zeros n r) e)

  pub counted_stop : Counted f r count → count < 8 → (r % 256 ≡ 0 → ⊥) → count ≡ clear f
  counted_stop c l ne = go (r % 256) refl
    where
      go : (d : ℕ) → r % 256 ≡ d → count ≡ clear f
      go zero e = absurd (ne e)
      go (suc d) e = omega (arith, c.so_far, one_less r count l ∙ ap (λ d. under d (zeros (8 - (count + 1)) (r / 256))) e)

-- what proves the count
pub ruleset counts = (counted_none, counted_all, counted_more, counted_end, counted_stop)
