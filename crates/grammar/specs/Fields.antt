-- Names and values of fields: RFC 9110, sections 5.1, 5.5 and 5.6, over its bytes in octets/specs/Grammar.antt. RWS is left out,
-- since of obs-fold, which has it, the lines of a value need the first blank alone (Message).
-- Assumes nothing.
use Rattle.std.specs.Prelude.{ℕ, List, [], ◌∷◌, ◌++◌}
use Rattle.octets.specs.Grammar.{Range, HTAB, SP, IsObsText, IsFieldVchar, IsTchar, IsBlank, IsText}
use Rattle.grammar.specs.Rows.{Many, Some}

-- 5.6.2: token = 1*tchar
abbrev pub IsToken : List ℕ → Type 0
IsToken = Some IsTchar

-- 5.6.3: OWS = *( SP / HTAB )
abbrev pub OWS : List ℕ → Type 0
OWS = Many IsBlank

-- 5.6.3: BWS = OWS, where a sender should have put none
abbrev pub BWS : List ℕ → Type 0
BWS = OWS

-- 5.6.4: a byte that stands for itself between quotation marks: any text byte but the quotation mark and the backslash
pub data IsQdtext (b : ℕ) : Type 0 where
  tab : HTAB b → IsQdtext b
  space : SP b → IsQdtext b
  exclamation_mark : Range 0x21 0x21 b → IsQdtext b
  before_backslash : Range 0x23 0x5B b → IsQdtext b
  behind_backslash : Range 0x5D 0x7E b → IsQdtext b
  obsolete : IsObsText b → IsQdtext b

-- 5.6.4: a backslash and any text byte, which then stands for itself
pub data IsQuotedPair : List ℕ → Type 0 where
  pair : {b : ℕ} → IsText b → IsQuotedPair (0x5C ∷ b ∷ [])

-- 5.6.4: *( qdtext / quoted-pair )
pub data IsQuoted : List ℕ → Type 0 where
  none : IsQuoted []
  unescaped : {b : ℕ} {w : List ℕ} → IsQdtext b → IsQuoted w → IsQuoted (b ∷ w)
  escaped : {p w : List ℕ} → IsQuotedPair p → IsQuoted w → IsQuoted (p ++ w)

-- 5.6.4: DQUOTE *( qdtext / quoted-pair ) DQUOTE
pub data IsQuotedString : List ℕ → Type 0 where
  marks : {w : List ℕ} → IsQuoted w → IsQuotedString ((0x22 ∷ w) ++ (0x22 ∷ []))

-- 5.1: field-name = token
abbrev pub IsFieldName : List ℕ → Type 0
IsFieldName = IsToken

-- 5.5: field-vchar [ 1*( SP / HTAB / field-vchar ) field-vchar ]
pub data IsFieldContent : List ℕ → Type 0 where
  one : {b : ℕ} → IsFieldVchar b → IsFieldContent (b ∷ [])
  more : {b c : ℕ} {m : List ℕ} → IsFieldVchar b → Some IsText m → IsFieldVchar c → IsFieldContent ((b ∷ m) ++ (c ∷ []))

-- 5.5: field-value = *field-content; so white space stands inside a value and never at its ends
pub data IsFieldValue : List ℕ → Type 0 where
  none : IsFieldValue []
  more : {v w : List ℕ} → IsFieldContent v → IsFieldValue w → IsFieldValue (v ++ w)

-- a field: what a line of a head says
pub record Field : Type 0 where
  pub name : List ℕ
  pub value : List ℕ
