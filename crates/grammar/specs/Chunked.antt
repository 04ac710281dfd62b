-- The line before a chunk of a body: RFC 9112, section 7.1. The RFC's rules keep their names, with Is before one in small letters; a definition
-- with another name is a part of the rule whose section it cites. Left out are the bytes of a chunk and the trailer section.
-- Assumes nothing.
use Rattle.std.specs.Prelude.{ℕ, ◌+◌, ◌-◌, ◌*◌, ◌≤◌, ◌≡◌, List, [], ◌∷◌, ◌++◌, true, length}
use Rattle.octets.specs.Grammar.{HEXDIG}
use Rattle.octets.specs.Grammar as bytes
use Rattle.rules.specs.Rules.{Rules}
use Rattle.grammar.specs.Rows.{Many}
use Rattle.grammar.specs.Fields.{IsToken, OWS, BWS, IsQuotedString}
use Rattle.grammar.specs.Message.{CRLF}

abbrev pub semicolon : List ℕ
semicolon = 0x3B ∷ []

abbrev pub equals : List ℕ
equals = 0x3D ∷ []

-- RFC 5234, B.1: what a hexadecimal digit is worth
abbrev pub worth : {b : ℕ} → HEXDIG b → ℕ
worth {b} (bytes.digit h) = b - 0x30
worth {b} (bytes.capital h) = b - 0x37
worth {b} (bytes.small h) = b - 0x57

-- 7.1: *HEXDIG, and the number that they write
pub data IsHexadecimal : List ℕ → ℕ → Type 0 where
  none : IsHexadecimal [] 0
  more : {w : List ℕ} {n b : ℕ} → IsHexadecimal w n → (d : HEXDIG b) → IsHexadecimal (w ++ (b ∷ [])) (n * 16 + worth d)

-- 7.1: chunk-size = 1*HEXDIG
pub data IsChunkSize (r : Rules) : List ℕ → ℕ → Type 0 where
  digits : {w : List ℕ} {n : ℕ} → IsHexadecimal w n → 1 ≤ length w → (r.sixteen_digits ≡ true → length w ≤ 16) → IsChunkSize r w n
  no_digit : r.no_digit ≡ true → IsChunkSize r [] 0

-- 7.1.1: chunk-ext-name = token
abbrev pub IsChunkExtName : List ℕ → Type 0
IsChunkExtName = IsToken

-- 7.1.1: chunk-ext-val = token / quoted-string
pub data IsChunkExtVal (w : List ℕ) : Type 0 where
  word : IsToken w → IsChunkExtVal w
  string : IsQuotedString w → IsChunkExtVal w

-- 7.1.1: *( BWS ";" BWS chunk-ext-name [ BWS "=" BWS chunk-ext-val ] )
pub data IsChunkExt : List ℕ → Type 0 where
  none : IsChunkExt []
  name : {a b n x : List ℕ} → BWS a → BWS b → IsChunkExtName n → IsChunkExt x → IsChunkExt (a ++ semicolon ++ b ++ n ++ x)
  value : {a b n c d v x : List ℕ} → BWS a → BWS b → IsChunkExtName n → BWS c → BWS d → IsChunkExtVal v → IsChunkExt x → IsChunkExt (a ++ semicolon ++ b ++ n ++ c ++ equals ++ d ++ v ++ x)

-- 7.1 and 7.1.1: what stands between a size and its line's end
pub data IsBehindSize (r : Rules) : List ℕ → Type 0 where
  extension : {w : List ℕ} → IsChunkExt w → IsBehindSize r w
  blanks : {w : List ℕ} → r.blank_behind_size ≡ true → OWS w → IsBehindSize r w
  any : {o w : List ℕ} → r.any_extension ≡ true → OWS o → Many (λ b. b ≡ 0x0D → ⊥) w → IsBehindSize r (o ++ semicolon ++ w)

-- 7.1: chunk-size [ chunk-ext ] CRLF, the line before a chunk's bytes, and the last chunk's line; and the size
pub data IsChunkLine (r : Rules) : List ℕ → ℕ → Type 0 where
  line : {s x : List ℕ} {n : ℕ} → IsChunkSize r s n → IsBehindSize r x → IsChunkLine r (s ++ x ++ CRLF) n
