-- The RFCs' rules for a single byte, one constructor for each alternative.
-- Assumes nothing.
use Rattle.std.specs.Prelude.{ℕ, ◌≤◌, ◌≡◌}

-- RFC 5234, 3.4: a value range
pub record Range (lo hi b : ℕ) : Type 0 where
  pub low : lo ≤ b
  pub high : b ≤ hi

-- RFC 5234, B.1: a letter
pub data ALPHA (b : ℕ) : Type 0 where
  capital : Range 0x41 0x5A b → ALPHA b
  small : Range 0x61 0x7A b → ALPHA b

-- RFC 5234, B.1: 0 to 9
abbrev pub DIGIT : ℕ → Type 0
DIGIT = Range 0x30 0x39

-- RFC 5234, B.1: a digit or A to F; since literal text ignores case (2.3), a to f too
pub data HEXDIG (b : ℕ) : Type 0 where
  digit : DIGIT b → HEXDIG b
  capital : Range 0x41 0x46 b → HEXDIG b
  small : Range 0x61 0x66 b → HEXDIG b

-- RFC 5234, B.1: the tab
abbrev pub HTAB : ℕ → Type 0
HTAB b = b ≡ 0x09

-- RFC 5234, B.1: the space
abbrev pub SP : ℕ → Type 0
SP b = b ≡ 0x20

-- RFC 5234, B.1: a visible character
abbrev pub VCHAR : ℕ → Type 0
VCHAR = Range 0x21 0x7E

-- RFC 9110, 5.5: a byte that has no meaning in US-ASCII
abbrev pub IsObsText : ℕ → Type 0
IsObsText = Range 0x80 0xFF

-- RFC 9110, 5.5: a byte of a field value that is no white space
pub data IsFieldVchar (b : ℕ) : Type 0 where
  visible : VCHAR b → IsFieldVchar b
  obsolete : IsObsText b → IsFieldVchar b

-- RFC 9110, 5.6.2: a byte of a token, which is a visible character that delimits nothing
pub data IsTchar : ℕ → Type 0 where
  exclamation_mark : IsTchar 0x21
  number_sign : IsTchar 0x23
  dollar : IsTchar 0x24
  percent : IsTchar 0x25
  ampersand : IsTchar 0x26
  apostrophe : IsTchar 0x27
  asterisk : IsTchar 0x2A
  plus : IsTchar 0x2B
  hyphen : IsTchar 0x2D
  full_stop : IsTchar 0x2E
  circumflex : IsTchar 0x5E
  underscore : IsTchar 0x5F
  grave_accent : IsTchar 0x60
  vertical_line : IsTchar 0x7C
  tilde : IsTchar 0x7E
  digit : {b : ℕ} → DIGIT b → IsTchar b
  letter : {b : ℕ} → ALPHA b → IsTchar b

-- RFC 9110, 5.6.3: a byte of optional or required white space
pub data IsBlank (b : ℕ) : Type 0 where
  space : SP b → IsBlank b
  tab : HTAB b → IsBlank b

-- RFC 9110, 5.5 and 5.6.4: a byte within a field value or a quoted pair; RFC 9112, 4: a byte of a reason phrase
pub data IsText (b : ℕ) : Type 0 where
  white : IsBlank b → IsText b
  field : IsFieldVchar b → IsText b
