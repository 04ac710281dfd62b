-- The classes at the ends of every range: these bytes are of the class, and those next to them are not.
-- Assumes nothing.
use Prim.Native.Nat.{ℕ}
use mathlib.Core.Path.{◌≡◌, refl}
use mathlib.Core.List.{List, [], ◌∷◌}
use mathlib.Core.Bool.{Bool, true, ◌&&◌, not}
use Rattle.octets.specs.Class.{among, within, is_ascii, is_blank, is_digit, is_hex_digit, is_target, is_token, is_value, is_visible}

abbrev all : (ℕ → Bool) → List ℕ → Bool
all f [] = true
all f (b ∷ bs) = f b && all f bs

abbrev none : (ℕ → Bool) → List ℕ → Bool
none f = all (λ b. not (f b))

digits : all is_digit (0x30 ∷ 0x39 ∷ []) ≡ true
unfolding is_digit within
digits = refl

no_digits : none is_digit (0x00 ∷ 0x2F ∷ 0x3A ∷ 0xFF ∷ []) ≡ true
unfolding is_digit within
no_digits = refl

hex_digits : all is_hex_digit (0x30 ∷ 0x39 ∷ 0x41 ∷ 0x46 ∷ 0x61 ∷ 0x66 ∷ []) ≡ true
unfolding is_hex_digit is_digit within
hex_digits = refl

no_hex_digits : none is_hex_digit (0x2F ∷ 0x3A ∷ 0x40 ∷ 0x47 ∷ 0x60 ∷ 0x67 ∷ 0xFF ∷ []) ≡ true
unfolding is_hex_digit is_digit within
no_hex_digits = refl

blanks : all is_blank (0x09 ∷ 0x20 ∷ []) ≡ true
unfolding is_blank among
blanks = refl

no_blanks : none is_blank (0x00 ∷ 0x08 ∷ 0x0A ∷ 0x0B ∷ 0x0C ∷ 0x0D ∷ 0x1F ∷ 0x21 ∷ 0xA0 ∷ []) ≡ true
unfolding is_blank among
no_blanks = refl

tokens : all is_token (0x21 ∷ 0x23 ∷ 0x27 ∷ 0x2A ∷ 0x2B ∷ 0x2D ∷ 0x2E ∷ 0x30 ∷ 0x39 ∷ 0x41 ∷ 0x5A ∷ 0x5E ∷ 0x60 ∷ 0x61 ∷ 0x7A ∷ 0x7C ∷ 0x7E ∷ []) ≡ true
unfolding is_token is_digit within among
tokens = refl

no_tokens : none is_token (0x00 ∷ 0x09 ∷ 0x20 ∷ 0x22 ∷ 0x28 ∷ 0x29 ∷ 0x2C ∷ 0x2F ∷ 0x3A ∷ 0x40 ∷ 0x5B ∷ 0x5D ∷ 0x7B ∷ 0x7D ∷ 0x7F ∷ 0x80 ∷ 0xFF ∷ []) ≡ true
unfolding is_token is_digit within among
no_tokens = refl

visible : all is_visible (0x21 ∷ 0x7E ∷ []) ≡ true
unfolding is_visible within
visible = refl

not_visible_lem : none is_visible (0x00 ∷ 0x20 ∷ 0x7F ∷ 0x80 ∷ 0xFF ∷ []) ≡ true
unfolding is_visible within
not_visible_lem = refl

targets : all is_target (0x21 ∷ 0x7E ∷ 0x80 ∷ 0xFF ∷ []) ≡ true
unfolding is_target within
targets = refl

no_targets : none is_target (0x00 ∷ 0x09 ∷ 0x0A ∷ 0x0D ∷ 0x20 ∷ 0x7F ∷ 0x100 ∷ []) ≡ true
unfolding is_target within
no_targets = refl

values : all is_value (0x09 ∷ 0x20 ∷ 0x21 ∷ 0x7E ∷ 0x80 ∷ 0xFF ∷ []) ≡ true
unfolding is_value is_blank is_target within among
values = refl

no_values : none is_value (0x00 ∷ 0x08 ∷ 0x0A ∷ 0x0D ∷ 0x1F ∷ 0x7F ∷ 0x100 ∷ []) ≡ true
unfolding is_value is_blank is_target within among
no_values = refl

ascii : all is_ascii (0x00 ∷ 0x7F ∷ []) ≡ true
unfolding is_ascii within
ascii = refl

no_ascii : none is_ascii (0x80 ∷ 0xFF ∷ []) ≡ true
unfolding is_ascii within
no_ascii = refl
