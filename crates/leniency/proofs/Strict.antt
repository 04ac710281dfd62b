-- What is derived under `strict` is derived under `default` with the same fields, where the restrictions known_versions, obs_reason
-- and sixteen_digits take nothing away.
-- Assumes nothing.
use Rattle.std.specs.Prelude.{ℕ, ◌+◌, ◌-◌, ◌≤◌, ◌≡◌, refl, List, [], ◌∷◌, ◌++◌, Bool, true, false, length}
use Rattle.std.proofs.Common.{arith, sym, ap, subst, inl, inr, append_assoc}
use Rattle.std.proofs.lemmas.Bool.{false≢true}
use Rattle.octets.specs.Grammar.{DIGIT, HEXDIG, IsText}
use Rattle.octets.specs.Grammar as bytes
use Rattle.rules.specs.Rules.{Rules, strict, default}
use Rattle.grammar.specs.Rows.{Many, none, more, Some, some}
use Rattle.grammar.specs.Fields.{Field}
use Rattle.grammar.specs.Message.{Version, HTTP_version, one_zero, one_one, other, IsRequestTarget, RequestLine, IsRequestLine, IsStatusCode, IsAsciiText, IsReasonPhrase, StatusLine, IsStatusLine, IsHeaderBlock, IsRequestHead, IsResponseHead}
use Rattle.grammar.specs.Message as grammar
use Rattle.agreement.specs.Rows.{some_as, many_append}
use Rattle.grammar.specs.Chunked.{IsHexadecimal, IsChunkSize, IsBehindSize, IsChunkLine}
use Rattle.grammar.specs.Chunked as chunked
use Rattle.leniency.specs.Allows.{LinesAllowed, KeptIgnored}
use Rattle.leniency.proofs.Allows.{block_as, head_as}
use Rattle.leniency.specs.Strict.{Few, Known, Obsolete, unreasoned}

never : {A : Type 0} → false ≡ true → A
never e = absurd (false≢true e)

-- the lines around a start line
lines : LinesAllowed strict default
lines = record { lf_alone = never; empty_lines = never; space_before_first_name = never; spaces_after_name = never; multiline_headers = never; ignore_invalid_headers = never }

none_ignored : KeptIgnored strict default
none_ignored = never

digits_of : {a b : ℕ} (m n : ℕ) → DIGIT a → DIGIT b → a - 0x30 ≡ m → b - 0x30 ≡ n → (a ≡ 0x30 + m) × (b ≡ 0x30 + n)
digits_of m n h k i j = (omega (arith, h.low, i), omega (arith, k.low, j))

version_known_lem : {w : List ℕ} {v : Version} → Known v → HTTP_version strict w v → HTTP_version default w v
version_known_lem k one_zero = one_zero
version_known_lem k one_one = one_one
version_known_lem (inl e) (other {a = a} {b = b} t x y) =
    let d = digits_of 1 0 x y (ap (λ v. v.major) e) (ap (λ v. v.minor) e) in
    rw (d.0, d.1) one_zero
version_known_lem (inr e) (other {a = a} {b = b} t x y) =
    let d = digits_of 1 1 x y (ap (λ v. v.major) e) (ap (λ v. v.minor) e) in
    rw (d.0, d.1) one_one

target_too : {w : List ℕ} → IsRequestTarget strict w → IsRequestTarget default w
target_too (grammar.IsRequestTarget.visible k) = grammar.IsRequestTarget.visible k
target_too (grammar.IsRequestTarget.any t k u) = never t

code_too : {w : List ℕ} {n : ℕ} → IsStatusCode strict w n → IsStatusCode default w n
code_too (grammar.IsStatusCode.class a b c) = grammar.IsStatusCode.class a b c
code_too (grammar.IsStatusCode.any t a b c) = never t

request_line_too : {l : RequestLine} → Known l.version → {w : List ℕ} → IsRequestLine strict w l → IsRequestLine default w l
request_line_too k (grammar.IsRequestLine.line m d t e v) = grammar.IsRequestLine.line m d (target_too t) e (version_known_lem k v)

pub strict_request : {w : List ℕ} {l : RequestLine} {fs : List Field} → IsRequestHead strict w l fs → Known l.version → IsRequestHead default w l fs
strict_request h k = head_as lines none_ignored (λ v. request_line_too k) h

-- obs_reason: a reason that is plain text
some_ascii : {w : List ℕ} → Some IsText w → Many IsAsciiText w → Some IsAsciiText w
some_ascii (some x k) (more y l) = some y l

reason_too : {w g : List ℕ} → Many IsAsciiText g → IsReasonPhrase strict w g → IsReasonPhrase default w g
reason_too p (grammar.IsReasonPhrase.ascii k) = grammar.IsReasonPhrase.ascii k
reason_too p (grammar.IsReasonPhrase.whole t k) = grammar.IsReasonPhrase.ascii (some_ascii k p)
reason_too p (grammar.IsReasonPhrase.emptied t k o l) = never t

status_line_too : {l : StatusLine} → Known l.version → Many IsAsciiText l.reason → {w : List ℕ} → IsStatusLine strict w l → IsStatusLine default w l
status_line_too k p (grammar.IsStatusLine.reason v d c e x n) = grammar.IsStatusLine.reason (version_known_lem k v) d (code_too c) e (reason_too p x) never
status_line_too k p (grammar.IsStatusLine.no_reason v d c e) = grammar.IsStatusLine.no_reason (version_known_lem k v) d (code_too c) e
status_line_too k p (grammar.IsStatusLine.code_ends t v d c) = never t

pub strict_response : {w : List ℕ} {l : StatusLine} {fs : List Field} → IsResponseHead strict w l fs → Known l.version → Many IsAsciiText l.reason → IsResponseHead default w l fs
strict_response h k p = head_as lines none_ignored (λ v. status_line_too k p) h

text_parts : (u v : List ℕ) (c : ℕ) → Many IsText (u ++ (c ∷ v)) → Many IsText u × Many IsText v
text_parts [] v c (more x k) = (none, k)
text_parts (b ∷ u) v c (more x k) = let m = text_parts u v c k in (more x m.0, m.1)

pub ascii_is_text : (b : ℕ) → IsAsciiText b → IsText b
ascii_is_text b (grammar.IsAsciiText.white h) = bytes.IsText.white h
ascii_is_text b (grammar.IsAsciiText.visible h) = bytes.IsText.field (bytes.visible h)

emptied : {w : List ℕ} → Some IsText w → Obsolete w → IsReasonPhrase default w []
emptied (some x k) o =
    let m = text_parts o.before o.behind o.byte (subst (Many IsText) o.whole (more x k)) in
    subst (λ y. IsReasonPhrase default y []) (sym o.whole) (grammar.IsReasonPhrase.emptied refl m.0 o.here m.1)

reason_emptied : {w g : List ℕ} → Obsolete g → IsReasonPhrase strict w g → IsReasonPhrase default w []
reason_emptied o (grammar.IsReasonPhrase.ascii k) = emptied (some_as ascii_is_text k) o
reason_emptied o (grammar.IsReasonPhrase.whole t k) = emptied k o
reason_emptied o (grammar.IsReasonPhrase.emptied t k p l) = never t

status_line_emptied : {l : StatusLine} → Known l.version → Obsolete l.reason → {w : List ℕ} → IsStatusLine strict w l → IsStatusLine default w (unreasoned l)
status_line_emptied k o (grammar.IsStatusLine.reason n d c e x l) = grammar.IsStatusLine.reason (version_known_lem k n) d (code_too c) e (reason_emptied o x) never
status_line_emptied k o (grammar.IsStatusLine.no_reason n d c e) = grammar.IsStatusLine.no_reason (version_known_lem k n) d (code_too c) e
status_line_emptied k o (grammar.IsStatusLine.code_ends t n d c) = never t

pub strict_response_emptied : {w : List ℕ} {l : StatusLine} {fs : List Field} → IsResponseHead strict w l fs → Known l.version → Obsolete l.reason → IsResponseHead default w (unreasoned l) fs
strict_response_emptied h k o = head_as lines none_ignored (λ v. status_line_emptied k o) h

pub strict_headers : {first : Bool} {w : List ℕ} {fs : List Field} → IsHeaderBlock strict first w fs → IsHeaderBlock default first w fs
strict_headers = block_as lines none_ignored

pub hexadecimal_row : {w : List ℕ} {n : ℕ} → IsHexadecimal w n → Many HEXDIG w
hexadecimal_row chunked.IsHexadecimal.none = none
hexadecimal_row (chunked.IsHexadecimal.more h d) = many_append (hexadecimal_row h) (more d none)

size_too : {s : List ℕ} {n : ℕ} → length s ≤ 16 → IsChunkSize strict s n → IsChunkSize default s n
size_too f (chunked.IsChunkSize.digits h l g) = chunked.IsChunkSize.digits h l (λ _. f)
size_too f (chunked.IsChunkSize.no_digit t) = never t

pub size_row : {r : Rules} {s : List ℕ} {n : ℕ} → IsChunkSize r s n → Many HEXDIG s
size_row (chunked.IsChunkSize.digits h l g) = hexadecimal_row h
size_row (chunked.IsChunkSize.no_digit t) = none

behind_too : {w : List ℕ} → IsBehindSize strict w → IsBehindSize default w
behind_too (chunked.IsBehindSize.extension x) = chunked.IsBehindSize.extension x
behind_too (chunked.IsBehindSize.blanks t o) = never t
behind_too (chunked.IsBehindSize.any t o w) = never t

pub strict_chunk : {w : List ℕ} {n : ℕ} → IsChunkLine strict w n → Few w → IsChunkLine default w n
strict_chunk (chunked.IsChunkLine.line {s = s} {x = x} k b) f = chunked.IsChunkLine.line (size_too (f s (x ++ (0x0D ∷ 0x0A ∷ [])) (append_assoc s x (0x0D ∷ 0x0A ∷ [])) (size_row k)) k) (behind_too b)
