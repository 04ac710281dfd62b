-- What the first byte of a character makes of the rest, row by row of the table: no two rows share a byte.
-- Assumes nothing.
use Rattle.std.specs.Prelude.{ℕ, ◌≤◌, ◌<◌, ◌≡◌, [], ◌∷◌, true, false}
use native.Mathlib.Omega.{arith}
use borrow.Author.Tests.{ne_eqb}
use Rattle.reader.specs.Machine.{keep, refuse}
use Rattle.octets.specs.Class.{within}
use Rattle.octets.proofs.Ties.{in_range, above_range, range_in}
use Rattle.utf8.specs.Reader.{tail, lead}

module _ (b : ℕ) where
  pub row_00_7F : b < 0x80 → keep [] ≡ lead b
  unfolding lead
  row_00_7F h = rw (range_in 0x00 0x7F b (record { low = omega arith; high = omega arith }))

  pub row_C2_DF : within 0xC2 0xDF b ≡ true → keep (tail ∷ []) ≡ lead b
  unfolding lead
  row_C2_DF e = let r = in_range 0xC2 0xDF b e in rw (above_range 0x00 0x7F b (omega arith), e)

  pub row_E0 : b ≡ 0xE0 → keep ((0xA0, 0xBF) ∷ tail ∷ []) ≡ lead b
  unfolding lead within
  row_E0 e = rw e

  pub row_E1_EC : within 0xE1 0xEC b ≡ true → keep (tail ∷ tail ∷ []) ≡ lead b
  unfolding lead
  row_E1_EC e =
      let r = in_range 0xE1 0xEC b e in
      rw (above_range 0x00 0x7F b (omega arith), above_range 0xC2 0xDF b (omega arith), ne_eqb b 0xE0 (omega arith), e)

  pub row_ED : b ≡ 0xED → keep ((0x80, 0x9F) ∷ tail ∷ []) ≡ lead b
  unfolding lead within
  row_ED e = rw e

  pub row_EE_EF : within 0xEE 0xEF b ≡ true → keep (tail ∷ tail ∷ []) ≡ lead b
  unfolding lead
  row_EE_EF e =
      let r = in_range 0xEE 0xEF b e in
      rw (above_range 0x00 0x7F b (omega arith), above_range 0xC2 0xDF b (omega arith), ne_eqb b 0xE0 (omega arith), above_range 0xE1 0xEC b (omega arith), ne_eqb b 0xED (omega arith), e)

  pub row_F0 : b ≡ 0xF0 → keep ((0x90, 0xBF) ∷ tail ∷ tail ∷ []) ≡ lead b
  unfolding lead within
  row_F0 e = rw e

  pub row_F1_F3 : within 0xF1 0xF3 b ≡ true → keep (tail ∷ tail ∷ tail ∷ []) ≡ lead b
  unfolding lead
  row_F1_F3 e =
      let r = in_range 0xF1 0xF3 b e in
      rw (above_range 0x00 0x7F b (omega arith), above_range 0xC2 0xDF b (omega arith), ne_eqb b 0xE0 (omega arith), above_range 0xE1 0xEC b (omega arith), ne_eqb b 0xED (omega arith), above_range 0xEE 0xEF b (omega arith), ne_eqb b 0xF0 (omega arith), e)

  pub row_F4 : b ≡ 0xF4 → keep ((0x80, 0x8F) ∷ tail ∷ tail ∷ []) ≡ lead b
  unfolding lead within
  row_F4 e = rw e

  -- a byte that is in no row
  pub row_none : 0x80 ≤ b → within 0xC2 0xDF b ≡ false → (b ≡ 0xE0 → ⊥) → within 0xE1 0xEC b ≡ false → (b ≡ 0xED → ⊥) → within 0xEE 0xEF b ≡ false → (b ≡ 0xF0 → ⊥) → within 0xF1 0xF3 b ≡ false → (b ≡ 0xF4 → ⊥) → refuse tt ≡ lead b
  unfolding lead
  row_none a c e f g h i j k =
      rw (above_range 0x00 0x7F b a, c, ne_eqb b 0xE0 e, f, ne_eqb b 0xED g, h, ne_eqb b 0xF0 i, j, ne_eqb b 0xF4 k)

pub ruleset rows = (row_00_7F, row_C2_DF, row_E0, row_E1_EC, row_ED, row_EE_EF, row_F0, row_F1_F3, row_F4, row_none)
