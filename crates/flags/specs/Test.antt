-- Tests of several bytes at once, as one number: each byte's flag depends on that byte alone, since no sum carries.
-- Assumes nothing.
use Rattle.std.specs.Prelude.{ℕ, zero, suc, ◌+◌, ◌-◌, ◌*◌, ◌<◌, ◌≡◌, refl}
use Rattle.std.proofs.Common.{arith, ap, ◌∙◌, lit<}
use Rattle.std.specs.Int.Bits.{bit_and, bit_or, bit_xor, and_lt}
use Rattle.std.proofs.lemmas.Nat.{and_block, or_block, xor_block, and_le_r, or_lt, xor_lt}

-- the bytes g k, g (k + 1), .., n of them, as one number, the first lowest
abbrev pub word : (ℕ → ℕ) → ℕ → ℕ → ℕ
word g k zero = 0
word g k (suc n) = word g (suc k) n * 256 + g k

-- the same byte in each of n places
abbrev pub rep : ℕ → ℕ → ℕ
rep c zero = 0
rep c (suc n) = rep c n * 256 + c

-- what a flag, the highest bit of a byte, is made of: the seven bits below it are c or more; the same without the bit of small letters;
-- the byte's own highest bit; a flag; and both, either or none of these
pub data Test : Type 0 where
  least : ℕ → Test
  capital_least : ℕ → Test
  high : Test
  flag : Test
  both : Test → Test → Test
  either : Test → Test → Test
  none : Test → Test

-- at n bytes as one number
abbrev pub at_word : Test → ℕ → ℕ → ℕ
at_word (least c) n x = bit_and x (rep 127 n) + rep (128 - c) n
at_word (capital_least c) n x = bit_and x (rep 95 n) + rep (128 - c) n
at_word high n x = x
at_word flag n x = rep 128 n
at_word (both s t) n x = bit_and (at_word s n x) (at_word t n x)
at_word (either s t) n x = bit_or (at_word s n x) (at_word t n x)
at_word (none t) n x = bit_xor (at_word t n x) (rep 128 n)

-- at one byte
abbrev pub at_byte : Test → ℕ → ℕ
at_byte (least c) b = bit_and b 127 + (128 - c)
at_byte (capital_least c) b = bit_and b 95 + (128 - c)
at_byte high b = b
at_byte flag b = 128
at_byte (both s t) b = bit_and (at_byte s b) (at_byte t b)
at_byte (either s t) b = bit_or (at_byte s b) (at_byte t b)
at_byte (none t) b = bit_xor (at_byte t b) 128

pub byte_lt : (t : Test) (b : ℕ) → b < 256 → at_byte t b < 256
byte_lt (least c) b h = omega (arith, and_le_r b 127)
byte_lt (capital_least c) b h = omega (arith, and_le_r b 95)
byte_lt high b h = h
byte_lt flag b h = lit< tt
byte_lt (both s t) b h = and_lt 8 (at_byte s b) (at_byte t b) (byte_lt s b h) (byte_lt t b h)
byte_lt (either s t) b h = or_lt 8 (at_byte s b) (at_byte t b) (byte_lt s b h) (byte_lt t b h)
byte_lt (none t) b h = xor_lt 8 (at_byte t b) 128 (byte_lt t b h) (lit< tt)

-- one byte more: it is tested by itself
step : (t : Test) (n x b : ℕ) → b < 256 → at_word t (suc n) (x * 256 + b) ≡ at_word t n x * 256 + at_byte t b
step (least c) n x b h = let e = and_block 8 x (rep 127 n) b 127 h (lit< tt) in omega (arith, e)
step (capital_least c) n x b h = let e = and_block 8 x (rep 95 n) b 95 h (lit< tt) in omega (arith, e)
step high n x b h = refl
step flag n x b h = refl
step (both s t) n x b h =
    ap (λ y. bit_and y (at_word t (suc n) (x * 256 + b))) (step s n x b h) ∙ ap (bit_and (at_word s n x * 256 + at_byte s b)) (step t n x b h)
    ∙ and_block 8 (at_word s n x) (at_word t n x) (at_byte s b) (at_byte t b) (byte_lt s b h) (byte_lt t b h)
step (either s t) n x b h =
    ap (λ y. bit_or y (at_word t (suc n) (x * 256 + b))) (step s n x b h) ∙ ap (bit_or (at_word s n x * 256 + at_byte s b)) (step t n x b h)
    ∙ or_block 8 (at_word s n x) (at_word t n x) (at_byte s b) (at_byte t b) (byte_lt s b h) (byte_lt t b h)
step (none t) n x b h =
    ap (λ y. bit_xor y (rep 128 n * 256 + 128)) (step t n x b h) ∙ xor_block 8 (at_word t n x) (rep 128 n) (at_byte t b) 128 (byte_lt t b h) (lit< tt)

-- a test of several bytes is the tests of each
pub each_byte : (t : Test) (g : ℕ → ℕ) → ((k : ℕ) → g k < 256) → (n k : ℕ) → at_word t n (word g k n) ≡ word (λ j. at_byte t (g j)) k n
each_byte t g h zero k = nothing t
  where
    nothing : (t : Test) → at_word t 0 0 ≡ 0
    nothing (least c) = refl
    nothing (capital_least c) = refl
    nothing high = refl
    nothing flag = refl
    nothing (both s t) = ap (λ y. bit_and y (at_word t 0 0)) (nothing s) ∙ ap (bit_and 0) (nothing t)
    nothing (either s t) = ap (λ y. bit_or y (at_word t 0 0)) (nothing s) ∙ ap (bit_or 0) (nothing t)
    nothing (none t) = ap (λ y. bit_xor y 0) (nothing t)
each_byte t g h (suc n) k = step t n (word g (suc k) n) (g k) (h k) ∙ ap (λ m. m * 256 + at_byte t (g k)) (each_byte t g h n (suc k))
