-- Two heads at the start of the same bytes are one head, with the same fields; so no head is the start of another.
-- Assumes nothing.
use Rattle.std.specs.Prelude.{ℕ, ◌+◌, ◌≤◌, ◌≡◌, refl, List, ◌++◌, length, take, drop, None, Option, Some}
use Rattle.std.proofs.Common.{arith, sym, ap, subst, ◌∙◌, take_at, drop_at}
use Rattle.reader.specs.Tests.{clash}
use Rattle.reader.specs.Machine.{gave, run}
use Rattle.reader.specs.Answer.{got}
use Rattle.rules.specs.Rules.{Rules, default}
use Rattle.grammar.specs.Fields.{Field}
use Rattle.grammar.specs.Message.{Version, HTTP_version, one_zero, one_one, RequestLine, IsRequestHead, IsStatusCode, StatusLine, IsStatusLine, IsResponseHead}
use Rattle.grammar.specs.Message as grammar
use Rattle.parts.specs.declared.Piece.{Piece}
use Rattle.fields.specs.declared.Header.{Header}
use Rattle.requestline.specs.declared.RequestLine as told
use Rattle.statusline.specs.declared.StatusLine as told_status
use Rattle.heads.specs.Head.{Heads, Known}
use Rattle.heads.specs.Calls.{request, response}
use Rattle.chunks.specs.Chunk.{digits, chunk_step}
use Rattle.agreement.specs.Fields.{fields_of}
use Rattle.agreement.specs.Known.{Holds, Counts, RequestSays, StatusSays}
use Rattle.agreement.specs.Promises.{BlockAlone}
use Rattle.agreement.specs.Exactly.{Exactly}
use Rattle.agreement.specs.Starts.{Fixed}
use Rattle.agreement.specs.Calls.{headers_of}
use Rattle.agreement.proofs.Calls.{request_exactly, response_exactly, headers_exactly}
use Rattle.agreement.specs.ChunkRead.{chunk_read}
use Rattle.onereading.specs.Statements.{OneHead, OneChunk}

-- what an answer was given for is the same on either side
same_got : {K : Type 0} {k k' : K} {hs hs' : List Header} {q q' : ℕ} → ◌≡◌ {A = Heads K} (got (k, hs) q) (got (k', hs') q') → (k ≡ k') × (hs ≡ hs') × (q ≡ q')
same_got {K} {k} {k'} {hs} {hs'} e = let u : ◌≡◌ {A = Known K} (k, hs) (k', hs') = cc in (ap (λ y. y.0) u, ap (λ y. y.1) u, cc)

-- starts of the same bytes that are as long as each other
same_start : (v s w t : List ℕ) → v ++ s ≡ w ++ t → length v ≡ length w → v ≡ w
same_start v s w t e l = sym (take_at v s (length v) refl) ∙ ap (take (length v)) e ∙ take_at w t (length v) (sym l)

-- and what is behind them
pub same_rest : (v s w t : List ℕ) → v ++ s ≡ w ++ t → v ≡ w → s ≡ t
same_rest v s w t e h = sym (drop_at v s (length v) refl) ∙ ap (drop (length v)) e ∙ drop_at w t (length v) (ap length (sym h))

module _ {L K : Type 0} {Head : List ℕ → L → List Field → Type 0} {Says : List ℕ → K → L → Type 0} (read : ℕ → List ℕ → Heads K) (X : (n : ℕ) → Exactly Head Says n (read n))
    (one_line : (v w : List ℕ) (l m : L) (fs gs : List Field) → Head v l fs → Head w m gs → (z : List ℕ) (k : K) → Says z k l → Says z k m → l ≡ m) where
  one_head : OneHead Head
  one_head v s w t l m fs gs e h i =
      let n : ℕ = length fs + length gs in
      let A = (X n).complete v s l fs h (omega arith) in
      let B = (X n).complete w t m gs i (omega arith) in
      let u = same_got (sym A.answers ∙ ap (read n) e ∙ B.answers) in
      let says : Says (v ++ s) A.k m = subst (λ y. Says y A.k m) (sym e) (subst (λ y. Says (w ++ t) y m) (sym u.0) B.says) in
      (same_start v s w t e u.2, one_line v w l m fs gs h i (v ++ s) A.k A.says says, sym A.holds ∙ ap (λ y. fields_of y A.hs) e ∙ ap (fields_of (w ++ t)) u.1 ∙ B.holds)

holds_same : (z : List ℕ) (a : Option Piece) {v w : List ℕ} → Holds z a v → Holds z a w → v ≡ w
holds_same z (Some a) h i = sym h ∙ i
holds_same z None h i = absurd h

counts_same : (a : Option ℕ) {m n : ℕ} → Counts a m → Counts a n → m ≡ n
counts_same (Some a) h i = sym h ∙ i
counts_same None h i = absurd h

-- where versions are known the major number is 1, the minor one a digit, and a code has three digits
version_one : {r : Rules} {w : List ℕ} {v : Version} → Fixed r → HTTP_version r w v → (v.major ≡ 1) × (v.minor ≤ 9)
version_one fixed one_zero = (refl, omega arith)
version_one fixed one_one = (refl, omega arith)
version_one fixed (grammar.HTTP_version.other t a b) = absurd (clash fixed.known_versions t)

three_digits : {r : Rules} {w : List ℕ} {n : ℕ} → IsStatusCode r w n → n ≤ 999
three_digits (grammar.IsStatusCode.class x y z) = omega (arith, x.high, y.high, z.high)
three_digits (grammar.IsStatusCode.any t x y z) = omega (arith, x.high, y.high, z.high)

pub request_one : {r : Rules} {w : List ℕ} {l : RequestLine} {fs : List Field} → Fixed r → IsRequestHead r w l fs → (l.version.major ≡ 1) × (l.version.minor ≤ 9)
request_one fixed (grammar.head.message e (grammar.IsRequestLine.line m x t y v) c b) = version_one fixed v

status_one : {r : Rules} {w : List ℕ} {l : StatusLine} → Fixed r → IsStatusLine r w l → (l.version.major ≡ 1) × (l.version.minor ≤ 9) × (l.code ≤ 999)
status_one fixed (grammar.IsStatusLine.reason v d c e x n) = let u = version_one fixed v in (u.0, u.1, three_digits c)
status_one fixed (grammar.IsStatusLine.no_reason v d c e) = let u = version_one fixed v in (u.0, u.1, three_digits c)
status_one fixed (grammar.IsStatusLine.code_ends t v d c) = let u = version_one fixed v in (u.0, u.1, three_digits c)

pub response_one : {r : Rules} {w : List ℕ} {l : StatusLine} {fs : List Field} → Fixed r → IsResponseHead r w l fs → (l.version.major ≡ 1) × (l.version.minor ≤ 9) × (l.code ≤ 999)
response_one fixed (grammar.head.message e k c b) = status_one fixed k

version_same : (u v : Version) → u.major ≡ 1 → v.major ≡ 1 → u.minor ≡ v.minor → u ≡ v
version_same u v h i e = ap (λ y. record { major = y; minor = u.minor }) (h ∙ sym i) ∙ ap (λ y. record { major = v.major; minor = y }) e

-- the heads of two requests that begin the same bytes
pub one_request : {r : Rules} → Fixed r → OneHead (IsRequestHead r)
one_request {r} fixed = one_head (request r) (request_exactly fixed) one_line
  where
    one_line : (v w : List ℕ) (l m : RequestLine) (fs gs : List Field) → IsRequestHead r v l fs → IsRequestHead r w m gs → (z : List ℕ) (k : told.RequestLine) → RequestSays z k l → RequestSays z k m → l ≡ m
    one_line v w l m fs gs h i z k a b =
        ap (λ y. record { method = y; target = l.target; version = l.version }) (holds_same z k.method a.method b.method)
        ∙ ap (λ y. record { method = m.method; target = y; version = l.version }) (holds_same z k.target a.target b.target)
        ∙ ap (λ y. record { method = m.method; target = m.target; version = y }) (version_same l.version m.version (request_one fixed h).0 (request_one fixed i).0 (counts_same k.version a.version b.version))

-- of two responses
pub one_response : {r : Rules} → Fixed r → OneHead (IsResponseHead r)
one_response {r} fixed = one_head (response r) (response_exactly fixed) one_line
  where
    one_line : (v w : List ℕ) (l m : StatusLine) (fs gs : List Field) → IsResponseHead r v l fs → IsResponseHead r w m gs → (z : List ℕ) (k : told_status.StatusLine) → StatusSays z k l → StatusSays z k m → l ≡ m
    one_line v w l m fs gs h i z k a b =
        ap (λ y. record { version = y; code = l.code; reason = l.reason }) (version_same l.version m.version (response_one fixed h).0 (response_one fixed i).0 (counts_same k.version a.version b.version))
        ∙ ap (λ y. record { version = m.version; code = y; reason = l.reason }) (counts_same k.code a.code b.code)
        ∙ ap (λ y. record { version = m.version; code = m.code; reason = y }) (holds_same z k.reason a.reason b.reason)

-- of two blocks
pub one_block : OneHead BlockAlone
one_block = one_head headers_of headers_exactly (λ v w l m fs gs h i z k a b. refl)

-- of two chunk size lines
pub one_chunk : OneChunk
one_chunk v s w t m n e h i =
    let u : gave m (length v) ≡ gave n (length w) = sym (chunk_read h s) ∙ ap (run (chunk_step default) (digits 0 0) 0) e ∙ chunk_read i t in
    let l : length v ≡ length w = cc in
    (same_start v s w t e l, cc)
