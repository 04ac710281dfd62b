-- Each rule of a head makes a difference: the byte string is one of its entry in docs/DIFFERENCES.md. obs_reason changes what is given.
-- Assumes nothing.
use Rattle.std.specs.Prelude.{ℕ, ◌≡◌, refl, List, [], ◌∷◌, ◌++◌, Bool, true, false, eqb}
use Rattle.std.proofs.Common.{arith, sym, ap, ◌∙◌, append_assoc}
use Rattle.std.proofs.lemmas.Bool.{eqb-false}
use Rattle.reader.specs.Tests.{clash, never}
use Rattle.octets.specs.Grammar.{DIGIT}
use Rattle.octets.specs.Grammar as bytes
use Rattle.octets.specs.Class.{within, is_blank, is_token}
use Rattle.octets.proofs.Ties.{in_range, blank_is_blank, token_is_tchar}
use Rattle.octets.specs.Outside.{differs, cr_no_blank, space_no_token}
use Rattle.utf8.specs.Grammar as characters
use Rattle.rules.specs.Rules.{Rules}
use Rattle.grammar.specs.Rows.{none, more, some}
use Rattle.grammar.specs.Fields.{Field}
use Rattle.grammar.specs.Message.{IsLineEnd, crlf, lf, IsEmptyLines, IsDelimiter, one_zero, other, IsRequestTarget, RequestLine, IsRequestLine, IsStatusCode, IsReasonPhrase, StatusLine, NoFoldLeft, IsHeaderBlock, IsRequestHead, IsResponseHead}
use Rattle.grammar.specs.Message as grammar
use Rattle.agreement.specs.Tail.{Tail}
use Rattle.agreement.specs.Tail as tails
use Rattle.leniency.specs.Text.{ascii}
use Rattle.leniency.specs.Real.{Real, Restricts, Request, Response, Headers}
use Rattle.leniency.specs.Shapes.{same_head, same_tail, shape, answer, behind_code_lem}
use Rattle.leniency.specs.Lines.{at_lf}

-- lf_alone
no_lf : {r : Rules} {w : List ℕ} → r.lf_alone ≡ false → IsLineEnd r w → w ≡ ascii "\n" → ⊥
no_lf f crlf e = let q : ◌≡◌ {A = ℕ} 13 10 = cc in omega (arith, q)
no_lf f (lf t) e = clash t f

pub lf_alone_real : Real (λ r. r.lf_alone) (Headers (ascii "\n"))
lf_alone_real = (λ r t. ([], grammar.IsHeaderBlock.end grammar.IsBeforeFirstName.nothing (lf t)), λ r f d. no_lf f (at_lf [] d.1 refl).0 refl)

-- digits, the code 200, and an empty block, which is no fold
a_digit : (b : ℕ) → within 0x30 0x39 b ≡ true → DIGIT b
a_digit b h = in_range 0x30 0x39 b h

pub two_hundred : {r : Rules} → IsStatusCode r (ascii "200") 200
unfolding within
two_hundred = grammar.IsStatusCode.class {a = 0x32} {b = 0x30} {c = 0x30} (in_range 0x31 0x35 0x32 refl) (a_digit 0x30 refl) (a_digit 0x30 refl)

pub no_fields : {r : Rules} {first : Bool} → IsHeaderBlock r first (ascii "\r\n") []
no_fields = grammar.IsHeaderBlock.end grammar.IsBeforeFirstName.nothing crlf

pub before_end : (r : Rules) → NoFoldLeft r (ascii "\r\n")
before_end r t c u e h = differs is_blank cr_no_blank ((blank_is_blank c).1 h) (sym (same_head e))

abbrev pub said : ℕ → ℕ → StatusLine
said major code = record { version = record { major = major; minor = 0 }; code = code; reason = [] }

-- empty_lines
no_empty : {r : Rules} {w : List ℕ} {l : StatusLine} {fs : List Field} (ys : List ℕ) → r.empty_lines ≡ false → IsResponseHead r w l fs → w ≡ 13 ∷ ys → ⊥
no_empty ys f (grammar.head.message {c = c} {b = b} grammar.IsEmptyLines.none d k x) e = let q : ◌≡◌ {A = ℕ} 72 13 = same_head (ap (λ y. y ++ c ++ b) (sym (shape d).whole) ∙ e) in omega (arith, q)
no_empty ys f (grammar.head.message (grammar.IsEmptyLines.more t i j) d k x) e = clash t f

pub empty_lines_real : Real (λ r. r.empty_lines) (Response (ascii "\r\nHTTP/1.0 200 \r\n\r\n"))
empty_lines_real = (
  λ r t. (said 1 200, [], grammar.head.message (grammar.IsEmptyLines.more t crlf grammar.IsEmptyLines.none) (grammar.IsStatusLine.no_reason one_zero grammar.IsDelimiter.one two_hundred grammar.IsDelimiter.one) crlf no_fields),
  λ r f d. no_empty (ascii "\nHTTP/1.0 200 \r\n\r\n") f d.2 refl,
)

-- known_versions
pub known_versions_real : Restricts (λ r. r.known_versions) (Response (ascii "HTTP/0.0 200 \r\n\r\n"))
unfolding within
known_versions_real = (
  λ r f. (said 0 200, [], grammar.head.message grammar.IsEmptyLines.none (grammar.IsStatusLine.no_reason (other {a = 0x30} {b = 0x30} f (a_digit 0x30 refl) (a_digit 0x30 refl)) grammar.IsDelimiter.one two_hundred grammar.IsDelimiter.one) crlf no_fields),
  λ r t d.
      let A = answer (ascii "TTP/0.0 200 \r\n\r\n") d.2 refl in
      let q : A.line.a ≡ 48 = same_head (same_tail (same_tail (same_tail (same_tail (same_tail A.whole))))) in
      omega (arith, A.line.version t, q),
)

-- any_code
pub any_code_real : Real (λ r. r.any_code) (Response (ascii "HTTP/1.0 000 \r\n\r\n"))
unfolding within
any_code_real = (
  λ r t. (said 1 0, [], grammar.head.message grammar.IsEmptyLines.none (grammar.IsStatusLine.no_reason one_zero grammar.IsDelimiter.one (grammar.IsStatusCode.any {a = 0x30} {b = 0x30} {c = 0x30} t (a_digit 0x30 refl) (a_digit 0x30 refl) (a_digit 0x30 refl)) grammar.IsDelimiter.one) crlf no_fields),
  λ r f d.
      let A = answer (ascii "TTP/1.0 000 \r\n\r\n") d.2 refl in
      omega (arith, A.line.code f, (behind_code_lem A (ascii " \r\n\r\n") refl refl).0),
)

-- a delimiter begins with a space
pub begins_space : {several : Bool} {d : List ℕ} → IsDelimiter several d → (zs : List ℕ) (b : ℕ) (ys : List ℕ) → d ++ zs ≡ b ∷ ys → b ≡ 32
begins_space grammar.IsDelimiter.one zs b ys e = cc
begins_space (grammar.IsDelimiter.more t k) zs b ys e = cc

-- code_ends_line
no_short : {r : Rules} {t g : List ℕ} → r.code_ends_line ≡ false → Tail r t g → (zs ys : List ℕ) → t ++ zs ≡ 13 ∷ ys → ⊥
no_short f (tails.reason {d = d} {u = u} s x n) zs ys e = omega (arith, begins_space s (u ++ zs) 13 ys (sym (append_assoc d u zs) ∙ e))
no_short f (tails.nothing s) zs ys e = omega (arith, begins_space s zs 13 ys e)
no_short f (tails.short t) zs ys e = clash t f

pub code_ends_line_real : Real (λ r. r.code_ends_line) (Response (ascii "HTTP/1.0 200\r\n\r\n"))
code_ends_line_real = (
  λ r t. (said 1 200, [], grammar.head.message grammar.IsEmptyLines.none (grammar.IsStatusLine.code_ends t one_zero grammar.IsDelimiter.one two_hundred) crlf no_fields),
  λ r f d.
      let A = answer (ascii "TTP/1.0 200\r\n\r\n") d.2 refl in
      no_short f A.line.tail (A.c ++ A.b) (ascii "\n\r\n") (behind_code_lem A (ascii "\r\n\r\n") refl refl).1,
)

-- obs_reason: what is given, and not what is read
pub no_end : {r : Rules} {c : List ℕ} (b : ℕ) → eqb 13 b ≡ false → eqb 10 b ≡ false → IsLineEnd r c → (zs ys : List ℕ) → c ++ zs ≡ b ∷ ys → ⊥
no_end b f g crlf zs ys e = eqb-false 13 b f (same_head e)
no_end b f g (lf t) zs ys e = eqb-false 10 b g (same_head e)

no_given : {r : Rules} {w g : List ℕ} → r.obs_reason ≡ false → IsReasonPhrase r w g → g ≡ [] → ⊥
no_given f (grammar.IsReasonPhrase.ascii (some x k)) e = never cc
no_given f (grammar.IsReasonPhrase.whole t (some x k)) e = never cc
no_given f (grammar.IsReasonPhrase.emptied t k o l) e = clash t f

no_emptied : {r : Rules} {t g c : List ℕ} → r.obs_reason ≡ false → Tail r t g → g ≡ [] → IsLineEnd r c → (zs ys : List ℕ) → t ++ (c ++ zs) ≡ 32 ∷ 0x80 ∷ ys → ⊥
no_emptied f (tails.reason s x n) g k zs ys e = no_given f x g
no_emptied f (tails.nothing grammar.IsDelimiter.one) g k zs ys e = no_end 0x80 refl refl k zs ys (same_tail e)
no_emptied {c = c} f (tails.nothing (grammar.IsDelimiter.more t s)) g k zs ys e = omega (arith, begins_space s (c ++ zs) 0x80 ys (same_tail e))
no_emptied f (tails.short t) g k zs ys e = no_end 32 refl refl k zs (0x80 ∷ ys) e

pub obs_reason_real : Real (λ r. r.obs_reason) (λ r. IsResponseHead r (ascii "HTTP/1.0 200 " ++ (0x80 ∷ []) ++ ascii "\r\n\r\n") (said 1 200) [])
unfolding within
obs_reason_real = (
  λ r t. grammar.head.message grammar.IsEmptyLines.none (grammar.IsStatusLine.reason one_zero grammar.IsDelimiter.one two_hundred grammar.IsDelimiter.one (grammar.IsReasonPhrase.emptied {u = []} {v = []} {c = 0x80} t none (in_range 0x80 0xFF 0x80 refl) none) (λ t u e. let q : ◌≡◌ {A = ℕ} 0x80 0x20 = same_head e in omega (arith, q))) crlf no_fields,
  λ r f d.
      let A = answer (ascii "TTP/1.0 200 " ++ (0x80 ∷ []) ++ ascii "\r\n\r\n") d refl in
      no_emptied f A.line.tail refl A.ends A.b (ascii "\r\n\r\n") (behind_code_lem A (32 ∷ 0x80 ∷ ascii "\r\n\r\n") refl refl).1,
)

-- any_target
abbrev pub accent : List ℕ
accent = 0xC2 ∷ 0x80 ∷ []

pub no_empty_lines : {r : Rules} {e : List ℕ} (b : ℕ) → eqb 13 b ≡ false → eqb 10 b ≡ false → IsEmptyLines r e → (zs ys : List ℕ) → e ++ zs ≡ b ∷ ys → e ≡ []
no_empty_lines b f g grammar.IsEmptyLines.none zs ys e = refl
no_empty_lines b f g (grammar.IsEmptyLines.more {e = c} {w = w} t k l) zs ys e = absurd (no_end b f g k (w ++ zs) ys (sym (append_assoc c w zs) ∙ e))

no_visible : {r : Rules} {t : List ℕ} → r.any_target ≡ false → IsRequestTarget r t → (zs ys : List ℕ) → t ++ zs ≡ 0xC2 ∷ ys → ⊥
no_visible f (grammar.IsRequestTarget.visible (some {b = b} h k)) zs ys e = omega (arith, h.high, same_head e)
no_visible f (grammar.IsRequestTarget.any t k u) zs ys e = clash t f

no_line : {r : Rules} {w : List ℕ} {l : RequestLine} → r.any_target ≡ false → IsRequestLine r w l → (zs ys : List ℕ) → w ++ zs ≡ 65 ∷ 32 ∷ 0xC2 ∷ ys → ⊥
no_line f (grammar.IsRequestLine.line {t = t} {e = d} {v = v} (some h none) grammar.IsDelimiter.one k s n) zs ys e = let q : t ++ d ++ v ++ zs ≡ 0xC2 ∷ ys = same_tail (same_tail e) in no_visible f k (d ++ (v ++ zs)) ys (simp append_assoc at q)
no_line f (grammar.IsRequestLine.line {t = t} {e = d} {v = v} (some h none) (grammar.IsDelimiter.more {w = w} o i) k s n) zs ys e = let q : w ++ t ++ d ++ v ++ zs ≡ 0xC2 ∷ ys = same_tail (same_tail e) in omega (arith, begins_space i (t ++ (d ++ (v ++ zs))) 0xC2 ys (simp append_assoc at q))
no_line f (grammar.IsRequestLine.line (some h (more {b = b} x l)) i k s n) zs ys e = differs is_token space_no_token ((token_is_tchar b).1 x) (same_head (same_tail e))

-- a request that begins with the letter A, up to its line, and what is behind that
pub record Asked (r : Rules) (w : List ℕ) (l : RequestLine) (fs : List Field) : Type 0 where
  pub v : List ℕ
  pub c : List ℕ
  pub b : List ℕ
  pub line : IsRequestLine r v l
  pub ends : IsLineEnd r c
  pub block : IsHeaderBlock r true b fs
  pub whole : v ++ (c ++ b) ≡ w

pub asked : {r : Rules} {w : List ℕ} {l : RequestLine} {fs : List Field} (ys : List ℕ) → IsRequestHead r w l fs → w ≡ 65 ∷ ys → Asked r w l fs
asked ys (grammar.head.message {e = e} {w = v} {c = c} {b = b} empty d k x) q =
    let p : e ++ (v ++ (c ++ b)) ≡ e ++ v ++ c ++ b = simp append_assoc in
    let n : e ≡ [] = no_empty_lines 65 refl refl empty (v ++ (c ++ b)) ys (p ∙ q) in
    record { v = v; c = c; b = b; line = d; ends = k; block = x; whole = ap (λ y. y ++ (v ++ (c ++ b))) (sym n) ∙ p }

pub any_target_real : Real (λ r. r.any_target) (Request (ascii "A " ++ accent ++ ascii " HTTP/1.0\r\n\r\n"))
unfolding within
any_target_real = (
  λ r t. (
    record { method = ascii "A"; target = accent; version = record { major = 1; minor = 0 } },
    [],
    grammar.head.message grammar.IsEmptyLines.none
        (grammar.IsRequestLine.line (some (bytes.letter (bytes.capital (in_range 0x41 0x5A 0x41 refl))) none) grammar.IsDelimiter.one
        (grammar.IsRequestTarget.any t (some (bytes.obsolete (in_range 0x80 0xFF 0xC2 refl)) (more (bytes.obsolete (in_range 0x80 0xFF 0x80 refl)) none)) (characters.char (characters.two (characters.C2_DF (in_range 0xC2 0xDF 0xC2 refl) (in_range 0x80 0xBF 0x80 refl))) characters.none))
        grammar.IsDelimiter.one one_zero) crlf no_fields,
  ),
  λ r f d. let A = asked (32 ∷ accent ++ ascii " HTTP/1.0\r\n\r\n") d.2 refl in no_line f A.line (A.c ++ A.b) (0x80 ∷ ascii " HTTP/1.0\r\n\r\n") A.whole,
)
