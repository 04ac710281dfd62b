-- The syntax of UTF-8 byte strings, from RFC 3629, section 4: one constructor for each of its alternatives.
-- Assumes nothing.
use Rattle.std.specs.Prelude.{ℕ, List, [], ◌∷◌, ◌++◌}
use Rattle.octets.specs.Grammar.{Range}

-- UTF8-tail: a byte that goes on with a character
abbrev pub UTF8_tail : ℕ → Type 0
UTF8_tail = Range 0x80 0xBF

-- UTF8-1: a character of one byte
pub data UTF8_1 : List ℕ → Type 0 where
  «00-7F» : {a : ℕ} → Range 0x00 0x7F a → UTF8_1 (a ∷ [])

-- UTF8-2: of two
pub data UTF8_2 : List ℕ → Type 0 where
  C2_DF : {a b : ℕ} → Range 0xC2 0xDF a → UTF8_tail b → UTF8_2 (a ∷ b ∷ [])

-- UTF8-3: of three, none of them written longer than it needs, and none a surrogate
pub data UTF8_3 : List ℕ → Type 0 where
  E0 : {b c : ℕ} → Range 0xA0 0xBF b → UTF8_tail c → UTF8_3 (0xE0 ∷ b ∷ c ∷ [])
  E1_EC : {a b c : ℕ} → Range 0xE1 0xEC a → UTF8_tail b → UTF8_tail c → UTF8_3 (a ∷ b ∷ c ∷ [])
  ED : {b c : ℕ} → Range 0x80 0x9F b → UTF8_tail c → UTF8_3 (0xED ∷ b ∷ c ∷ [])
  EE_EF : {a b c : ℕ} → Range 0xEE 0xEF a → UTF8_tail b → UTF8_tail c → UTF8_3 (a ∷ b ∷ c ∷ [])

-- UTF8-4: of four, none of them written longer than it needs, and none past the last character
pub data UTF8_4 : List ℕ → Type 0 where
  F0 : {b c d : ℕ} → Range 0x90 0xBF b → UTF8_tail c → UTF8_tail d → UTF8_4 (0xF0 ∷ b ∷ c ∷ d ∷ [])
  F1_F3 : {a b c d : ℕ} → Range 0xF1 0xF3 a → UTF8_tail b → UTF8_tail c → UTF8_tail d → UTF8_4 (a ∷ b ∷ c ∷ d ∷ [])
  F4 : {b c d : ℕ} → Range 0x80 0x8F b → UTF8_tail c → UTF8_tail d → UTF8_4 (0xF4 ∷ b ∷ c ∷ d ∷ [])

-- UTF8-char: one character
pub data UTF8_char : List ℕ → Type 0 where
  one : {w : List ℕ} → UTF8_1 w → UTF8_char w
  two : {w : List ℕ} → UTF8_2 w → UTF8_char w
  three : {w : List ℕ} → UTF8_3 w → UTF8_char w
  four : {w : List ℕ} → UTF8_4 w → UTF8_char w

-- UTF8-octets: any number of characters
pub data UTF8_octets : List ℕ → Type 0 where
  none : UTF8_octets []
  char : {w v : List ℕ} → UTF8_char w → UTF8_octets v → UTF8_octets (w ++ v)
