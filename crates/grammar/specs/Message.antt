-- The head of a message: RFC 9112, sections 2 to 5, over the rules of a reading. The RFC's rules keep their names, with Is before one in small
-- letters; a definition with another name is a part of the rule whose section it cites. Left out are the body, with the fields that say how long
-- it is, and what a Host field must be.
-- Assumes nothing.
use Rattle.std.specs.Prelude.{ℕ, ◌+◌, ◌-◌, ◌*◌, ◌≡◌, List, [], ◌∷◌, ◌++◌, Bool, true, false}
use Rattle.octets.specs.Grammar.{Range, DIGIT, VCHAR, IsObsText, IsFieldVchar, IsTchar, IsBlank, IsText}
use Rattle.utf8.specs.Grammar.{UTF8_octets}
use Rattle.rules.specs.Rules.{Rules}
use Rattle.grammar.specs.Rows.{Many, Some}
use Rattle.grammar.specs.Fields.{IsToken, IsFieldName, IsFieldValue, Field}

-- single bytes between the parts
abbrev pub space : List ℕ
space = 0x20 ∷ []

abbrev pub colon : List ℕ
colon = 0x3A ∷ []

-- RFC 5234, B.1: CR LF
abbrev pub CRLF : List ℕ
CRLF = 0x0D ∷ 0x0A ∷ []

-- 2.1 and 2.2: a line ends in CR LF, or in LF alone
pub data IsLineEnd (r : Rules) : List ℕ → Type 0 where
  crlf : IsLineEnd r CRLF
  lf : r.lf_alone ≡ true → IsLineEnd r (0x0A ∷ [])

-- 2.2: lines with nothing in them, before a head
pub data IsEmptyLines (r : Rules) : List ℕ → Type 0 where
  none : IsEmptyLines r []
  more : {e w : List ℕ} → r.empty_lines ≡ true → IsLineEnd r e → IsEmptyLines r w → IsEmptyLines r (e ++ w)

pub record Version : Type 0 where
  pub major : ℕ
  pub minor : ℕ

-- 2.3: HTTP-name = HTTP, in capitals
abbrev pub HTTP_name : List ℕ
HTTP_name = 0x48 ∷ 0x54 ∷ 0x54 ∷ 0x50 ∷ []

-- 2.3: HTTP-name "/" DIGIT "." DIGIT
pub data HTTP_version (r : Rules) : List ℕ → Version → Type 0 where
  one_zero : HTTP_version r (HTTP_name ++ (0x2F ∷ 0x31 ∷ 0x2E ∷ 0x30 ∷ [])) (record { major = 1; minor = 0 })
  one_one : HTTP_version r (HTTP_name ++ (0x2F ∷ 0x31 ∷ 0x2E ∷ 0x31 ∷ [])) (record { major = 1; minor = 1 })
  other : {a b : ℕ} → r.known_versions ≡ false → DIGIT a → DIGIT b → HTTP_version r (HTTP_name ++ (0x2F ∷ a ∷ 0x2E ∷ b ∷ [])) (record { major = a - 0x30; minor = b - 0x30 })

-- 3 and 4: SP, or, where a setting lets several stand there, one or more of them
pub data IsDelimiter (several : Bool) : List ℕ → Type 0 where
  one : IsDelimiter several space
  more : {w : List ℕ} → several ≡ true → IsDelimiter several w → IsDelimiter several (0x20 ∷ w)

-- 3.1: method = token
abbrev pub IsMethod : List ℕ → Type 0
IsMethod = IsToken

-- 3.2: one of four forms, all of which are rows of visible characters: no more than that is asked of them here
pub data IsRequestTarget (r : Rules) : List ℕ → Type 0 where
  visible : {w : List ℕ} → Some VCHAR w → IsRequestTarget r w
  any : {w : List ℕ} → r.any_target ≡ true → Some IsFieldVchar w → UTF8_octets w → IsRequestTarget r w

pub record RequestLine : Type 0 where
  pub method : List ℕ
  pub target : List ℕ
  pub version : Version

-- 3: the SP between the parts of a request line; a recipient may take other white space for it
abbrev pub IsRequestSpace : Rules → List ℕ → Type 0
IsRequestSpace r = IsDelimiter r.spaces_in_request_line

-- 3: request-line = method SP request-target SP HTTP-version
pub data IsRequestLine (r : Rules) : List ℕ → RequestLine → Type 0 where
  line : {m d t e v : List ℕ} {n : Version} → IsMethod m → IsRequestSpace r d → IsRequestTarget r t → IsRequestSpace r e → HTTP_version r v n → IsRequestLine r (m ++ d ++ t ++ e ++ v) (record { method = m; target = t; version = n })

-- 4: status-code = 3DIGIT, of which the first is the class, 1 to 5 (RFC 9110, 15)
pub data IsStatusCode (r : Rules) : List ℕ → ℕ → Type 0 where
  class : {a b c : ℕ} → Range 0x31 0x35 a → DIGIT b → DIGIT c → IsStatusCode r (a ∷ b ∷ c ∷ []) ((a - 0x30) * 100 + (b - 0x30) * 10 + (c - 0x30))
  any : {a b c : ℕ} → r.any_code ≡ true → DIGIT a → DIGIT b → DIGIT c → IsStatusCode r (a ∷ b ∷ c ∷ []) ((a - 0x30) * 100 + (b - 0x30) * 10 + (c - 0x30))

-- 4: HTAB / SP / VCHAR, which is text but for obs-text
pub data IsAsciiText (b : ℕ) : Type 0 where
  white : IsBlank b → IsAsciiText b
  visible : VCHAR b → IsAsciiText b

-- 4: reason-phrase = 1*( HTAB / SP / VCHAR / obs-text ), and the reason that is given
pub data IsReasonPhrase (r : Rules) : List ℕ → List ℕ → Type 0 where
  ascii : {w : List ℕ} → Some IsAsciiText w → IsReasonPhrase r w w
  whole : {w : List ℕ} → r.obs_reason ≡ false → Some IsText w → IsReasonPhrase r w w
  emptied : {u v : List ℕ} {c : ℕ} → r.obs_reason ≡ true → Many IsText u → IsObsText c → Many IsText v → IsReasonPhrase r (u ++ (c ∷ v)) []

pub record StatusLine : Type 0 where
  pub version : Version
  pub code : ℕ
  pub reason : List ℕ

-- 4: the SP between the parts of a status line; a recipient may take other white space for it, as in 3
abbrev pub IsStatusSpace : Rules → List ℕ → Type 0
IsStatusSpace r = IsDelimiter r.spaces_in_status_line

-- 4: where several spaces part a code from a reason, all of them do, and none is of the reason
abbrev pub NoSpaceLeft : Rules → List ℕ → Type 0
NoSpaceLeft r w = r.spaces_in_status_line ≡ true → (u : List ℕ) → w ≡ 0x20 ∷ u → ⊥

-- 4: status-line = HTTP-version SP status-code SP [ reason-phrase ]
pub data IsStatusLine (r : Rules) : List ℕ → StatusLine → Type 0 where
  reason : {v d c e w g : List ℕ} {n : Version} {k : ℕ} → HTTP_version r v n → IsStatusSpace r d → IsStatusCode r c k → IsStatusSpace r e → IsReasonPhrase r w g → NoSpaceLeft r w → IsStatusLine r (v ++ d ++ c ++ e ++ w) (record { version = n; code = k; reason = g })
  no_reason : {v d c e : List ℕ} {n : Version} {k : ℕ} → HTTP_version r v n → IsStatusSpace r d → IsStatusCode r c k → IsStatusSpace r e → IsStatusLine r (v ++ d ++ c ++ e) (record { version = n; code = k; reason = [] })
  code_ends : {v d c : List ℕ} {n : Version} {k : ℕ} → r.code_ends_line ≡ true → HTTP_version r v n → IsStatusSpace r d → IsStatusCode r c k → IsStatusLine r (v ++ d ++ c) (record { version = n; code = k; reason = [] })

-- 5.1: nothing between a name and its colon; blanks there, which a server refuses in a request and a proxy takes out of a response
pub data IsBehindName (r : Rules) : List ℕ → Type 0 where
  nothing : IsBehindName r []
  blanks : {w : List ℕ} → r.spaces_after_name ≡ true → Some IsBlank w → IsBehindName r w

-- 5.2: obs-fold = OWS CRLF RWS; here its line end and the first blank behind that, since its other blanks are among those around or within a
-- value. A server refuses it, or puts spaces in its place, and so does a proxy; a user agent puts spaces in its place
pub data IsObsFold (r : Rules) : List ℕ → Type 0 where
  fold : {e : List ℕ} {b : ℕ} → r.multiline_headers ≡ true → IsLineEnd r e → IsBlank b → IsObsFold r (e ++ (b ∷ []))

-- 5 and 5.2: OWS around a value, with folds among its blanks
pub data IsAroundValue (r : Rules) : List ℕ → Type 0 where
  none : IsAroundValue r []
  more : {b : ℕ} {w : List ℕ} → IsBlank b → IsAroundValue r w → IsAroundValue r (b ∷ w)
  folded : {f w : List ℕ} → IsObsFold r f → IsAroundValue r w → IsAroundValue r (f ++ w)

-- 5.2: what stands within a value that is folded
pub data IsWithinValue (r : Rules) : List ℕ → Type 0 where
  none : IsWithinValue r []
  more : {b : ℕ} {w : List ℕ} → IsText b → IsWithinValue r w → IsWithinValue r (b ∷ w)
  folded : {f w : List ℕ} → IsObsFold r f → IsWithinValue r w → IsWithinValue r (f ++ w)

-- 5 and 5.2: field-value, perhaps with folds in it. Then what is given is its bytes as they stand, line ends included, trimmed at both ends of
-- spaces, tabs, CR and LF; RFC 9110, 5.5, has a recipient put a space in the place of each CR and LF, which is left to the caller
pub data IsValueLines (r : Rules) : List ℕ → Type 0 where
  one : {v : List ℕ} → IsFieldValue v → IsValueLines r v
  several : {b c : ℕ} {m : List ℕ} → r.multiline_headers ≡ true → IsFieldVchar b → IsWithinValue r m → IsFieldVchar c → IsValueLines r ((b ∷ m) ++ (c ∷ []))

-- 5: field-line = field-name ":" OWS field-value OWS
pub data IsFieldLine (r : Rules) : List ℕ → Field → Type 0 where
  line : {n s o v t : List ℕ} → IsFieldName n → IsBehindName r s → IsAroundValue r o → IsValueLines r v → IsAroundValue r t → IsFieldLine r (n ++ s ++ colon ++ o ++ v ++ t) (record { name = n; value = v })

-- 2.2: nothing before the first field, or before what ends a head without fields; blanks there, for which a recipient refuses the message or
-- passes over the line. Behind a field nothing stands before a line
pub data IsBeforeFirstName (r : Rules) : (first : Bool) → List ℕ → Type 0 where
  nothing : {first : Bool} → IsBeforeFirstName r first []
  blanks : {w : List ℕ} → r.space_before_first_name ≡ true → Some IsBlank w → IsBeforeFirstName r true w

-- any byte but CR, LF and NUL, which RFC 9110, 5.5, calls dangerous in a value: no line with one of them inside is passed over
pub record IsIgnorable (b : ℕ) : Type 0 where
  pub no_nul : b ≡ 0x00 → ⊥
  pub no_cr : b ≡ 0x0D → ⊥
  pub no_lf : b ≡ 0x0A → ⊥

-- 5.1: where a name ends, and the blanks s behind it, the next byte is no colon, and neither goes on with the name nor with the blanks
abbrev pub NoColonNext : Rules → (s u : List ℕ) → Type 0
NoColonNext r s u = (c : ℕ) (v : List ℕ) → u ≡ c ∷ v → (c ≡ 0x3A → ⊥) × (s ≡ [] → IsTchar c → ⊥) × (r.spaces_after_name ≡ true → IsBlank c → ⊥)

-- 5: each line up to the empty one is a field-line; no rule of the RFC lets a recipient pass over another, but a setting does, to that line's end: its
-- first byte begins no name; behind its name stands no colon; or a byte of it, on its first line or on one that goes on with it, can't stand
-- in a value
pub data IsIgnoredLine (r : Rules) : List ℕ → Type 0 where
  no_name : {c : ℕ} {u e : List ℕ} → (IsTchar c → ⊥) → IsIgnorable c → Many IsIgnorable u → IsLineEnd r e → IsIgnoredLine r ((c ∷ u) ++ e)
  no_colon : {n s u e : List ℕ} → IsFieldName n → IsBehindName r s → NoColonNext r s u → Many IsIgnorable u → IsLineEnd r e → IsIgnoredLine r (n ++ s ++ (u ++ e))
  no_value : {n s m u e : List ℕ} {c : ℕ} → IsFieldName n → IsBehindName r s → IsWithinValue r m → (IsText c → ⊥) → IsIgnorable c → Many IsIgnorable u → IsLineEnd r e → IsIgnoredLine r (n ++ s ++ colon ++ m ++ ((c ∷ u) ++ e))

-- 2.2: where blanks may stand before a line, all of those before it do, and none is of the line
abbrev pub NoBlankLeft : Rules → Bool → List ℕ → Type 0
NoBlankLeft r first w = r.space_before_first_name ≡ true → first ≡ true → (c : ℕ) (u : List ℕ) → w ≡ c ∷ u → IsBlank c → ⊥

-- 5.2: where folds are allowed a line that begins with a blank goes on with the field before it, if that is not passed over: behind a line that is, it is
-- a line of its own
abbrev pub NoFoldLeft : Rules → List ℕ → Type 0
NoFoldLeft r w = r.multiline_headers ≡ true → (c : ℕ) (u : List ℕ) → w ≡ c ∷ u → IsBlank c → ⊥

-- 2.1: *( field-line CRLF ) CRLF, and among them the lines that are passed over; it is the first as long as no field was given, however many lines
-- were passed over
pub data IsHeaderBlock (r : Rules) : (first : Bool) → List ℕ → List Field → Type 0 where
  end : {first : Bool} {s e : List ℕ} → IsBeforeFirstName r first s → IsLineEnd r e → IsHeaderBlock r first (s ++ e) []
  field : {first : Bool} {s w e b : List ℕ} {f : Field} {fs : List Field} → IsBeforeFirstName r first s → IsFieldLine r w f → IsLineEnd r e → NoFoldLeft r b → IsHeaderBlock r false b fs → IsHeaderBlock r first (s ++ (w ++ e ++ b)) (f ∷ fs)
  ignored : {first : Bool} {s w b : List ℕ} {fs : List Field} → r.ignore_invalid_headers ≡ true → IsBeforeFirstName r first s → IsIgnoredLine r w → NoBlankLeft r first w → IsHeaderBlock r first b fs → IsHeaderBlock r first (s ++ (w ++ b)) fs

-- 2.1: HTTP-message without its body: start-line CRLF *( field-line CRLF ) CRLF, whatever the start line is
pub data head (r : Rules) {L : Type 0} (start_line : List ℕ → L → Type 0) : List ℕ → L → List Field → Type 0 where
  message : {e w c b : List ℕ} {l : L} {fs : List Field} → IsEmptyLines r e → start_line w l → IsLineEnd r c → IsHeaderBlock r true b fs → head r start_line (e ++ w ++ c ++ b) l fs

-- 2.1: the head of a request, what its start line says, and its fields
abbrev pub IsRequestHead : Rules → List ℕ → RequestLine → List Field → Type 0
IsRequestHead r = head r (IsRequestLine r)

-- 2.1: the head of a response
abbrev pub IsResponseHead : Rules → List ℕ → StatusLine → List Field → Type 0
IsResponseHead r = head r (IsStatusLine r)
