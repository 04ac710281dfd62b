-- How many of eight bytes, from the first on, are surely of a class: those before the first that has a flag.
-- Assumes nothing.
use Rattle.std.specs.Prelude.{ℕ, ◌≤◌, ◌<◌, ◌≡◌, Bool, true}
use Rattle.std.proofs.Common.{arith, zero-add, sym, ap, ◌∙◌}
use Rattle.flags.specs.Test.{word, Test, flag, both, at_word, at_byte, byte_lt, each_byte}
use Rattle.flags.specs.Lowest.{zeros, zeros_le, zero_below}

-- a flag in each byte of which the test holds
abbrev pub flags : Test → ℕ → ℕ
flags t x = at_word (both t flag) 8 x

-- the bytes before the first that has one
abbrev pub clear : ℕ → ℕ
clear m = zeros 8 m

-- a byte that has none is of the class
abbrev pub Shows : Test → (ℕ → Bool) → Type 0
Shows t class = (b : ℕ) → b < 256 → at_byte (both t flag) b ≡ 0 → class b ≡ true

pub record Sure (class : ℕ → Bool) (x r : ℕ) : Type 0 where
  pub most : r ≤ 8
  pub all : (g : ℕ → ℕ) → ((k : ℕ) → g k < 256) → x ≡ word g 0 8 → (k : ℕ) → k < r → class (g k) ≡ true

pub sure : (t : Test) {class : ℕ → Bool} → Shows t class → {x f r : ℕ} → f ≡ flags t x → r ≡ clear f → Sure class x r
sure t s {x} {f} {r} e c = record {
  most = omega (arith, c, zeros_le 8 f);
  all = λ g h w k l.
      let same : f ≡ word (λ j. at_byte (both t flag) (g j)) 0 8 = e ∙ ap (flags t) w ∙ each_byte (both t flag) g h 8 0 in
      let z = ap clear same in
      s (g k) (h k) (ap (λ y. at_byte (both t flag) (g y)) (sym (zero-add k)) ∙ zero_below (λ j. at_byte (both t flag) (g j)) (λ j. byte_lt (both t flag) (g j) (h j)) 8 0 k (omega (arith, l, c, z)));
}
