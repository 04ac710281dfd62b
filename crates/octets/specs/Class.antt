-- The classes of bytes as the reader asks for them: each a test, with no table.
-- Assumes nothing.
use Rattle.std.specs.Prelude.{ℕ, List, [], ◌∷◌, Bool, false, ◌&&◌, ◌||◌, leb, eqb}

-- the byte stands in a list
unfoldable pub among : List ℕ → ℕ → Bool
among [] b = false
among (x ∷ xs) b = eqb x b || among xs b

-- the byte is from lo to hi
unfoldable pub within : ℕ → ℕ → ℕ → Bool
within lo hi b = leb lo b && leb b hi

-- 0 to 9
unfoldable pub is_digit : ℕ → Bool
is_digit b = within 0x30 0x39 b

-- 0 to 9, A to F, a to f
unfoldable pub is_hex_digit : ℕ → Bool
is_hex_digit b = is_digit b || within 0x41 0x46 b || within 0x61 0x66 b

-- the space or the tab
unfoldable pub is_blank : ℕ → Bool
is_blank b = among (0x20 ∷ 0x09 ∷ []) b

-- ! # $ % & ' * + - . ^ _ ` | ~
abbrev pub marks : List ℕ
marks = 0x21 ∷ 0x23 ∷ 0x24 ∷ 0x25 ∷ 0x26 ∷ 0x27 ∷ 0x2A ∷ 0x2B ∷ 0x2D ∷ 0x2E ∷ 0x5E ∷ 0x5F ∷ 0x60 ∷ 0x7C ∷ 0x7E ∷ []

-- a byte of a method or a header name: a digit, a letter or one of the marks
unfoldable pub is_token : ℕ → Bool
is_token b = is_digit b || within 0x41 0x5A b || within 0x61 0x7A b || among marks b

-- visible ASCII
unfoldable pub is_visible : ℕ → Bool
is_visible b = within 0x21 0x7E b

-- a byte of a request target: visible ASCII, or from 0x80 on
unfoldable pub is_target : ℕ → Bool
is_target b = within 0x21 0x7E b || within 0x80 0xFF b

-- a byte of a header value or a reason: a target byte, or white space
unfoldable pub is_value : ℕ → Bool
is_value b = is_blank b || is_target b

-- US-ASCII
unfoldable pub is_ascii : ℕ → Bool
is_ascii b = within 0x00 0x7F b
