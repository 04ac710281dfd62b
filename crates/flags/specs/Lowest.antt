-- How many bytes of a number are 0, from the first on: an eighth of the zeros below its lowest bit.
-- Assumes nothing.
use Rattle.std.specs.Prelude.{ℕ, zero, suc, ◌+◌, ◌*◌, ◌/◌, ◌%◌, ◌≤◌, ◌<◌, ◌≡◌, refl}
use Rattle.std.proofs.Common.{arith, add-zero, suc-add, add-suc, sym, ap, ◌∙◌}
use Rattle.std.proofs.Math.Decide.{dec_lt}
use Rattle.std.specs.Int.Count.{count_trailing_zeros, under}
use Rattle.flags.specs.Test.{word}

-- of n bytes
abbrev pub zeros : ℕ → ℕ → ℕ
zeros zero x = 0
zeros (suc n) x = under (x % 256) (zeros n (x / 256))

pub zeros_le : (n x : ℕ) → zeros n x ≤ n
zeros_le zero x = omega arith
zeros_le (suc n) x = go (x % 256) (zeros_le n (x / 256))
  where
    go : (r : ℕ) → zeros n (x / 256) ≤ n → under r (zeros n (x / 256)) ≤ suc n
    go zero l = omega (arith, l)
    go (suc r) l = omega arith

-- each of them is 0
pub zero_below : (g : ℕ → ℕ) → ((k : ℕ) → g k < 256) → (n k j : ℕ) → j < zeros n (word g k n) → g (k + j) ≡ 0
zero_below g h zero k j l = absurd (omega arith)
zero_below g h (suc n) k j l =
    let low : (word g (suc k) n * 256 + g k) % 256 ≡ g k = omega (arith, h k) in
    let rest : (word g (suc k) n * 256 + g k) / 256 ≡ word g (suc k) n = omega (arith, h k) in
    let e = ap (λ r. under r (zeros n ((word g (suc k) n * 256 + g k) / 256))) low ∙ ap (λ w. under (g k) (zeros n w)) rest in
    go (g k) j refl (omega (arith, l, e)) (zero_below g h n (suc k))
  where
    go : (r j : ℕ) → g k ≡ r → j < under r (zeros n (word g (suc k) n)) → ((i : ℕ) → i < zeros n (word g (suc k) n) → g (suc k + i) ≡ 0) → g (k + j) ≡ 0
    go zero zero e l f = ap g (add-zero k) ∙ e
    go zero (suc j) e l f = ap g (add-suc k j ∙ sym (suc-add k j)) ∙ f j (omega (arith, l))
    go (suc r) j e l f = absurd (omega (arith, l))

even : (d n : ℕ) → n % 2 ≡ 0 → count_trailing_zeros (suc d) n ≡ suc (count_trailing_zeros d (n / 2))
unfolding count_trailing_zeros
even d n e = ap (λ r. under r (count_trailing_zeros d (n / 2))) e

even_of_zero : (d n : ℕ) → 1 ≤ count_trailing_zeros (suc d) n → n % 2 ≡ 0
unfolding count_trailing_zeros
even_of_zero d n = go (n % 2) refl
  where
    go : (r : ℕ) → n % 2 ≡ r → 1 ≤ under r (count_trailing_zeros d (n / 2)) → n % 2 ≡ 0
    go zero e l = e
    go (suc r) e l = absurd (omega (arith, l))

abbrev eight_more : ℕ → ℕ
eight_more d = suc (suc (suc (suc (suc (suc (suc (suc d)))))))

-- a byte that is 0 is eight zeros
zero_byte : (d x : ℕ) → x % 256 ≡ 0 → count_trailing_zeros (eight_more d) x ≡ 8 + count_trailing_zeros d (x / 256)
zero_byte d x h =
    let e₁ = even (suc (suc (suc (suc (suc (suc (suc d))))))) x (omega (arith, h)) in
    let e₂ = even (suc (suc (suc (suc (suc (suc d)))))) (x / 2) (omega (arith, h)) in
    let e₃ = even (suc (suc (suc (suc (suc d))))) (x / 2 / 2) (omega (arith, h)) in
    let e₄ = even (suc (suc (suc (suc d)))) (x / 2 / 2 / 2) (omega (arith, h)) in
    let e₅ = even (suc (suc (suc d))) (x / 2 / 2 / 2 / 2) (omega (arith, h)) in
    let e₆ = even (suc (suc d)) (x / 2 / 2 / 2 / 2 / 2) (omega (arith, h)) in
    let e₇ = even (suc d) (x / 2 / 2 / 2 / 2 / 2 / 2) (omega (arith, h)) in
    let e₈ = even d (x / 2 / 2 / 2 / 2 / 2 / 2 / 2) (omega (arith, h)) in
    let e : x / 2 / 2 / 2 / 2 / 2 / 2 / 2 / 2 ≡ x / 256 = omega arith in
    omega (arith, e₁, e₂, e₃, e₄, e₅, e₆, e₇, e₈, ap (count_trailing_zeros d) e)

-- and eight zeros are such a byte
full_byte : (d x : ℕ) → 8 ≤ count_trailing_zeros (eight_more d) x → x % 256 ≡ 0
full_byte d x h =
    let z₁ = even_of_zero (suc (suc (suc (suc (suc (suc (suc d))))))) x (omega (arith, h)) in
    let e₁ = even (suc (suc (suc (suc (suc (suc (suc d))))))) x z₁ in
    let z₂ = even_of_zero (suc (suc (suc (suc (suc (suc d)))))) (x / 2) (omega (arith, h, e₁)) in
    let e₂ = even (suc (suc (suc (suc (suc (suc d)))))) (x / 2) z₂ in
    let z₃ = even_of_zero (suc (suc (suc (suc (suc d))))) (x / 2 / 2) (omega (arith, h, e₁, e₂)) in
    let e₃ = even (suc (suc (suc (suc (suc d))))) (x / 2 / 2) z₃ in
    let z₄ = even_of_zero (suc (suc (suc (suc d)))) (x / 2 / 2 / 2) (omega (arith, h, e₁, e₂, e₃)) in
    let e₄ = even (suc (suc (suc (suc d)))) (x / 2 / 2 / 2) z₄ in
    let z₅ = even_of_zero (suc (suc (suc d))) (x / 2 / 2 / 2 / 2) (omega (arith, h, e₁, e₂, e₃, e₄)) in
    let e₅ = even (suc (suc (suc d))) (x / 2 / 2 / 2 / 2) z₅ in
    let z₆ = even_of_zero (suc (suc d)) (x / 2 / 2 / 2 / 2 / 2) (omega (arith, h, e₁, e₂, e₃, e₄, e₅)) in
    let e₆ = even (suc (suc d)) (x / 2 / 2 / 2 / 2 / 2) z₆ in
    let z₇ = even_of_zero (suc d) (x / 2 / 2 / 2 / 2 / 2 / 2) (omega (arith, h, e₁, e₂, e₃, e₄, e₅, e₆)) in
    let e₇ = even (suc d) (x / 2 / 2 / 2 / 2 / 2 / 2) z₇ in
    let z₈ = even_of_zero d (x / 2 / 2 / 2 / 2 / 2 / 2 / 2) (omega (arith, h, e₁, e₂, e₃, e₄, e₅, e₆, e₇)) in
    omega (arith, z₁, z₂, z₃, z₄, z₅, z₆, z₇, z₈)

abbrev eights : ℕ → ℕ
eights zero = 0
eights (suc n) = eight_more (eights n)

pub zeros_trailing : (n x : ℕ) → count_trailing_zeros (eights n) x / 8 ≡ zeros n x
unfolding count_trailing_zeros
zeros_trailing zero x = refl
zeros_trailing (suc n) x = byte (x % 256) refl (dec_lt (count_trailing_zeros (eights (suc n)) x) 8) ∙ ap (under (x % 256)) (zeros_trailing n (x / 256))
  where
    byte : (r : ℕ) → x % 256 ≡ r → Dec (count_trailing_zeros (eights (suc n)) x < 8) → count_trailing_zeros (eights (suc n)) x / 8 ≡ under (x % 256) (count_trailing_zeros (eights n) (x / 256) / 8)
    byte zero e _ = let z = zero_byte (eights n) x e in let q : count_trailing_zeros (eights (suc n)) x / 8 ≡ suc (count_trailing_zeros (eights n) (x / 256) / 8) = omega (arith, z) in q ∙ ap (λ r. under r (count_trailing_zeros (eights n) (x / 256) / 8)) (sym e)
    byte (suc r) e (yes l) = let q : count_trailing_zeros (eights (suc n)) x / 8 ≡ 0 = omega (arith, l) in q ∙ ap (λ r. under r (count_trailing_zeros (eights n) (x / 256) / 8)) (sym e)
    byte (suc r) e (no l) = absurd (omega (arith, e, full_byte (eights n) x (omega (arith, l))))
