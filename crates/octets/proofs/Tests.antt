-- The code's tests and the classes agree at every byte, computed: one law for each way through a test.
-- Assumes nothing.
use Prim.Native.Nat.{ℕ, ◌/◌, ◌%◌, ◌^◌, ◌≤◌, ◌<◌}
use native.Mathlib.Omega.{arith}
use mathlib.Core.Path.{◌≡◌, refl, ap, ◌∙◌}
use mathlib.Core.Bool.{Bool, ◌&&◌, ◌||◌, not}
use lib.Dec.{eqb, leb, ltb}
use Rattle.octets.specs.Class.{among, within, is_ascii, is_blank, is_digit, is_hex_digit, is_target, is_token, is_value, is_visible}
use Rattle.octets.specs.Table.{same, same_from}

abbrev bits_test : ℕ → ℕ → Bool
bits_test half b = ltb b 128 && eqb ((half / 2 ^ (b % 64)) % 2) 1

module _ (b : ℕ) where
  pub token_low : {half : ℕ} → half ≡ 0x03ff_6cfa_0000_0000 → b < 64 → bits_test half b ≡ is_token b
  unfolding is_token is_digit within among
  token_low e h = ap (λ x. bits_test x b) e ∙ same_from (bits_test 0x03ff_6cfa_0000_0000) is_token 0 64 refl b (omega arith) h

  pub token_high : {half : ℕ} → half ≡ 0x57ff_ffff_c7ff_fffe → 64 ≤ b → b < 256 → bits_test half b ≡ is_token b
  unfolding is_token is_digit within among
  token_high e l h = ap (λ x. bits_test x b) e ∙ same_from (bits_test 0x57ff_ffff_c7ff_fffe) is_token 64 192 refl b l h

  pub visible_test : b < 256 → (ltb 32 b && ltb b 127) ≡ is_visible b
  unfolding is_visible within
  visible_test = same (λ k. ltb 32 k && ltb k 127) is_visible refl b

  pub target_test : b < 256 → (ltb 32 b && not (eqb b 127)) ≡ is_target b
  unfolding is_target within
  target_test = same (λ k. ltb 32 k && not (eqb k 127)) is_target refl b

  pub value_test : b < 256 → (leb 32 b && not (eqb b 127) || eqb b 9) ≡ is_value b
  unfolding is_value is_blank is_target within among
  value_test = same (λ k. leb 32 k && not (eqb k 127) || eqb k 9) is_value refl b

  pub blank_test : b < 256 → (eqb b 32 || eqb b 9) ≡ is_blank b
  unfolding is_blank among
  blank_test = same (λ k. eqb k 32 || eqb k 9) is_blank refl b

  pub digit_test : b < 256 → (leb 48 b && leb b 57) ≡ is_digit b
  unfolding is_digit within
  digit_test = same (λ k. leb 48 k && leb k 57) is_digit refl b

  pub hex_digit_test : b < 256 → (leb 48 b && leb b 57 || leb 65 b && leb b 70 || leb 97 b && leb b 102) ≡ is_hex_digit b
  unfolding is_hex_digit is_digit within
  hex_digit_test = same (λ k. leb 48 k && leb k 57 || leb 65 k && leb k 70 || leb 97 k && leb k 102) is_hex_digit refl b

  pub ascii_test : b < 256 → ltb b 128 ≡ is_ascii b
  unfolding is_ascii within
  ascii_test = same (λ k. ltb k 128) is_ascii refl b

-- what proves a test of a class
pub ruleset tests = (token_low, token_high, visible_test, target_test, value_test, blank_test, digit_test, hex_digit_test, ascii_test)
