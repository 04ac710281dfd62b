-- The plain form of a head whose values stand on one line each is a head under the same rules, under default, and under strict where its
-- parts are, with the same fields.
-- Assumes nothing.
use Rattle.std.specs.Prelude.{ℕ, ◌+◌, ◌-◌, ◌*◌, ◌/◌, ◌%◌, ◌≡◌, refl, List, [], ◌∷◌, ◌++◌, Bool, true, false}
use Rattle.std.proofs.Common.{arith, sym, ap, subst, ◌∙◌, append-nil}
use Rattle.std.proofs.lemmas.Bool.{false≢true}
use Rattle.octets.specs.Grammar.{Range, DIGIT, IsBlank, IsText}
use Rattle.octets.specs.Grammar as bytes
use Rattle.octets.specs.Class.{is_blank}
use Rattle.octets.proofs.Ties.{blank_is_blank, token_is_tchar}
use Rattle.octets.specs.Outside.{differs, cr_no_blank, token_no_blank}
use Rattle.rules.specs.Rules.{Rules, strict, default}
use Rattle.grammar.specs.Rows.{Some, some}
use Rattle.grammar.specs.Fields.{Field}
use Rattle.grammar.specs.Message.{space, colon, CRLF, crlf, Version, HTTP_name, HTTP_version, one_zero, one_one, IsRequestTarget, RequestLine, IsStatusCode, IsReasonPhrase, StatusLine, NoSpaceLeft, IsStatusLine, IsHeaderBlock, IsRequestHead, IsResponseHead}
use Rattle.grammar.specs.Message as grammar
use Rattle.plain.specs.Plain.{OneLine, plain_version, plain_code, plain_fields, plain_request, plain_response}
use Rattle.plain.proofs.OneLine.{one_line_value}

-- plain fields begin with a name or with CR, and so with no blank
plain_no_blank : {r : Rules} {first : Bool} {w : List ℕ} {fs : List Field} → IsHeaderBlock r first w fs → (b : ℕ) (u : List ℕ) → plain_fields fs ≡ b ∷ u → IsBlank b → ⊥
plain_no_blank (grammar.IsHeaderBlock.end c d) b u e x = differs is_blank cr_no_blank ((blank_is_blank b).1 x) (cc)
plain_no_blank (grammar.IsHeaderBlock.field c (grammar.IsFieldLine.line (some {b = a} h m) g o v t) d i k) b u e x = differs is_blank (token_no_blank a ((token_is_tchar a).1 h)) ((blank_is_blank b).1 x) (cc)
plain_no_blank (grammar.IsHeaderBlock.ignored t c l o k) b u e x = plain_no_blank k b u e x

-- a block whose values stand on one line each, whatever its line ends, blanks and ignored lines were
pub plain_block : {r s : Rules} {first again : Bool} {w : List ℕ} {fs : List Field} → IsHeaderBlock r first w fs → OneLine fs → IsHeaderBlock s again (plain_fields fs) fs
plain_block (grammar.IsHeaderBlock.end c d) u = grammar.IsHeaderBlock.end grammar.IsBeforeFirstName.nothing crlf
plain_block {s = s} {again = again} (grammar.IsHeaderBlock.field {fs = fs} c (grammar.IsFieldLine.line {n = n} {v = v} h g o k t) d i b) u =
    subst (λ y. IsHeaderBlock s again (y ++ CRLF ++ plain_fields fs) (record { name = n; value = v } ∷ fs)) (append-nil (n ++ [] ++ colon ++ space ++ v) ∙ ap (λ y. y ++ colon ++ space ++ v) (append-nil n))
    (grammar.IsHeaderBlock.field grammar.IsBeforeFirstName.nothing (grammar.IsFieldLine.line h grammar.IsBehindName.nothing (grammar.IsAroundValue.more (bytes.IsBlank.space refl) grammar.IsAroundValue.none) (grammar.IsValueLines.one (one_line_value k u.0)) grammar.IsAroundValue.none) crlf (λ _. plain_no_blank b) (plain_block b u.1))
plain_block (grammar.IsHeaderBlock.ignored t c l o k) u = plain_block k u

digit_again : {a : ℕ} → DIGIT a → 0x30 + (a - 0x30) ≡ a
digit_again h = omega (arith, h.low)

-- a version as it stands
version_plain : {r : Rules} {w : List ℕ} {v : Version} → HTTP_version r w v → HTTP_version r (plain_version v) v
version_plain one_zero = one_zero
version_plain one_one = one_one
version_plain {r} (grammar.HTTP_version.other {a = a} {b = b} t x y) =
    subst (λ z. HTTP_version r z (record { major = a - 0x30; minor = b - 0x30 }))
    (ap (λ z. HTTP_name ++ (0x2F ∷ z ∷ 0x2E ∷ b ∷ [])) (sym (digit_again x)) ∙ ap (λ z. HTTP_name ++ (0x2F ∷ (0x30 + (a - 0x30)) ∷ 0x2E ∷ z ∷ [])) (sym (digit_again y)))
    (grammar.HTTP_version.other t x y)

-- 1.0 and 1.1 are versions under all rules
version_known_lem : {r s : Rules} {w : List ℕ} {v : Version} → r.known_versions ≡ true → HTTP_version r w v → HTTP_version s (plain_version v) v
version_known_lem k one_zero = one_zero
version_known_lem k one_one = one_one
version_known_lem k (grammar.HTTP_version.other t x y) = absurd (false≢true (sym t ∙ k))

-- and under strict all are
version_strict : {r : Rules} {w : List ℕ} {v : Version} → HTTP_version r w v → HTTP_version strict (plain_version v) v
version_strict one_zero = one_zero
version_strict one_one = one_one
version_strict (grammar.HTTP_version.other t x y) = version_plain (grammar.HTTP_version.other refl x y)

pub target_default : {r : Rules} {t : List ℕ} → IsRequestTarget r t → IsRequestTarget default t
target_default (grammar.IsRequestTarget.visible h) = grammar.IsRequestTarget.visible h
target_default (grammar.IsRequestTarget.any t h u) = grammar.IsRequestTarget.any refl h u

-- from any rules to any others that take the target and the version
request_under : {r s : Rules} {w : List ℕ} {l : RequestLine} {fs : List Field} → IsRequestHead r w l fs → OneLine fs → (IsRequestTarget r l.target → IsRequestTarget s l.target) → ((v : List ℕ) → HTTP_version r v l.version → HTTP_version s (plain_version l.version) l.version) → IsRequestHead s (plain_request l fs) l fs
request_under (grammar.head.message e (grammar.IsRequestLine.line {v = w} m x t y v) c b) u f g = grammar.head.message grammar.IsEmptyLines.none (grammar.IsRequestLine.line m grammar.IsDelimiter.one (f t) grammar.IsDelimiter.one (g w v)) crlf (plain_block b u)

module _ {r : Rules} {w : List ℕ} {l : RequestLine} {fs : List Field} (u : OneLine fs) where
  -- under the rules of the head itself, whatever they are
  pub plain_request_own : IsRequestHead r w l fs → IsRequestHead r (plain_request l fs) l fs
  plain_request_own h = request_under h u (λ t. t) (λ v. version_plain)

  -- under any that take its target, if the version is 1.0 or 1.1
  pub plain_request_under : {s : Rules} → r.known_versions ≡ true → (IsRequestTarget r l.target → IsRequestTarget s l.target) → IsRequestHead r w l fs → IsRequestHead s (plain_request l fs) l fs
  plain_request_under k f h = request_under h u f (λ v. version_known_lem k)

  -- under default, if the version is 1.0 or 1.1
  pub plain_request_derived : r.known_versions ≡ true → IsRequestHead r w l fs → IsRequestHead default (plain_request l fs) l fs
  plain_request_derived k h = plain_request_under k target_default h

  -- under strict, if the target is
  pub plain_request_strict : IsRequestHead r w l fs → IsRequestTarget strict l.target → IsRequestHead strict (plain_request l fs) l fs
  plain_request_strict h t = request_under h u (λ _. t) (λ v. version_strict)

-- three digits are those of their number
module _ {a b c : ℕ} (x : DIGIT a) (y : DIGIT b) (z : DIGIT c) where
  abbrev number : ℕ
  number = (a - 0x30) * 100 + (b - 0x30) * 10 + (c - 0x30)

  code_digits : a ∷ b ∷ c ∷ [] ≡ plain_code number
  code_digits =
      let h : a ≡ 0x30 + number / 100 = omega (arith, x.low, x.high, y.low, y.high, z.low, z.high) in
      let q : number / 10 ≡ (a - 0x30) * 10 + (b - 0x30) = omega (arith, x.low, x.high, y.low, y.high, z.low, z.high) in
      let p : b ≡ 0x30 + ((a - 0x30) * 10 + (b - 0x30)) % 10 = omega (arith, x.low, x.high, y.low, y.high) in
      let t : b ≡ 0x30 + number / 10 % 10 = p ∙ ap (λ v. 0x30 + v % 10) (sym q) in
      let u : c ≡ 0x30 + number % 10 = omega (arith, x.low, x.high, y.low, y.high, z.low, z.high) in
      ap (λ v. v ∷ b ∷ c ∷ []) h ∙ ap (λ v. (0x30 + number / 100) ∷ v ∷ c ∷ []) t ∙ ap (λ v. (0x30 + number / 100) ∷ (0x30 + number / 10 % 10) ∷ v ∷ []) u

wide : {a : ℕ} → Range 0x31 0x35 a → DIGIT a
wide h = record { low = omega (arith, h.low); high = omega (arith, h.high) }

-- a code as it stands
code_plain : {r : Rules} {c : List ℕ} {n : ℕ} → IsStatusCode r c n → IsStatusCode r (plain_code n) n
code_plain {r} (grammar.IsStatusCode.class {a = a} {b = b} {c = c} x y z) = subst (λ w. IsStatusCode r w (number (wide x) y z)) (code_digits (wide x) y z) (grammar.IsStatusCode.class x y z)
code_plain {r} (grammar.IsStatusCode.any {a = a} {b = b} {c = c} t x y z) = subst (λ w. IsStatusCode r w (number x y z)) (code_digits x y z) (grammar.IsStatusCode.any t x y z)

code_default : {r : Rules} {w : List ℕ} {n : ℕ} → IsStatusCode r w n → IsStatusCode default (plain_code n) n
code_default (grammar.IsStatusCode.class x y z) = code_plain (grammar.IsStatusCode.class x y z)
code_default (grammar.IsStatusCode.any t x y z) = code_plain (grammar.IsStatusCode.any refl x y z)

-- no reason, and the space before it
nothing : {n : Version} {k : ℕ} {s : Rules} → HTTP_version s (plain_version n) n → IsStatusCode s (plain_code k) k → IsStatusLine s (plain_version n ++ space ++ plain_code k ++ space ++ []) (record { version = n; code = k; reason = [] })
nothing {n} {k} {s} v d = subst (λ w. IsStatusLine s w (record { version = n; code = k; reason = [] })) (sym (append-nil (plain_version n ++ space ++ plain_code k ++ space))) (grammar.IsStatusLine.no_reason v grammar.IsDelimiter.one d grammar.IsDelimiter.one)

-- the parts of a status line, under rules that take them, and in which what is left of the reason stays a reason
status_plain : {r s : Rules} {w : List ℕ} {l : StatusLine} → IsStatusLine r w l → ((v : List ℕ) → HTTP_version r v l.version → HTTP_version s (plain_version l.version) l.version) → ((c : List ℕ) → IsStatusCode r c l.code → IsStatusCode s (plain_code l.code) l.code) →
    (r.obs_reason ≡ false → Some IsText l.reason → IsReasonPhrase s l.reason l.reason) → (NoSpaceLeft r l.reason → NoSpaceLeft s l.reason) → IsStatusLine s (plain_version l.version ++ space ++ plain_code l.code ++ space ++ l.reason) l
status_plain (grammar.IsStatusLine.reason {v = a} {c = b} v x c y (grammar.IsReasonPhrase.ascii k) n) f g i j = grammar.IsStatusLine.reason (f a v) grammar.IsDelimiter.one (g b c) grammar.IsDelimiter.one (grammar.IsReasonPhrase.ascii k) (j n)
status_plain (grammar.IsStatusLine.reason {v = a} {c = b} v x c y (grammar.IsReasonPhrase.whole t k) n) f g i j = grammar.IsStatusLine.reason (f a v) grammar.IsDelimiter.one (g b c) grammar.IsDelimiter.one (i t k) (j n)
status_plain (grammar.IsStatusLine.reason {v = a} {c = b} v x c y (grammar.IsReasonPhrase.emptied t k o u) n) f g i j = nothing (f a v) (g b c)
status_plain (grammar.IsStatusLine.no_reason {v = a} {c = b} v x c y) f g i j = nothing (f a v) (g b c)
status_plain (grammar.IsStatusLine.code_ends {v = a} {c = b} t v x c) f g i j = nothing (f a v) (g b c)

-- from any rules to any others that take the line's parts
response_under : {r s : Rules} {w : List ℕ} {l : StatusLine} {fs : List Field} → IsResponseHead r w l fs → OneLine fs → ((v : List ℕ) → HTTP_version r v l.version → HTTP_version s (plain_version l.version) l.version) →
    ((c : List ℕ) → IsStatusCode r c l.code → IsStatusCode s (plain_code l.code) l.code) → (r.obs_reason ≡ false → Some IsText l.reason → IsReasonPhrase s l.reason l.reason) → (NoSpaceLeft r l.reason → NoSpaceLeft s l.reason) → IsResponseHead s (plain_response l fs) l fs
response_under (grammar.head.message e h c b) u f g i j = grammar.head.message grammar.IsEmptyLines.none (status_plain h f g i j) crlf (plain_block b u)

-- where one space alone is a delimiter, a reason may begin with any
one_space : (s : Rules) {w : List ℕ} → s.spaces_in_status_line ≡ false → NoSpaceLeft s w
one_space s off t u e = absurd (false≢true (sym off ∙ t))

module _ {r : Rules} {w : List ℕ} {l : StatusLine} {fs : List Field} (u : OneLine fs) where
  -- under the rules of the head itself, whatever they are
  pub plain_response_own : IsResponseHead r w l fs → IsResponseHead r (plain_response l fs) l fs
  plain_response_own h = response_under h u (λ v. version_plain) (λ c. code_plain) grammar.IsReasonPhrase.whole (λ n. n)

  -- under default, if the version is 1.0 or 1.1, and a reason with obs-text was given as empty
  pub plain_response_derived : r.known_versions ≡ true → r.obs_reason ≡ true → IsResponseHead r w l fs → IsResponseHead default (plain_response l fs) l fs
  plain_response_derived k o h = response_under h u (λ v. version_known_lem k) (λ c. code_default) (λ t x. absurd (false≢true (sym t ∙ o))) (λ _. one_space default refl)

  -- under strict, if the code is
  pub plain_response_strict : IsResponseHead r w l fs → IsStatusCode strict (plain_code l.code) l.code → IsResponseHead strict (plain_response l fs) l fs
  plain_response_strict h d = response_under h u (λ v. version_strict) (λ _ _. d) (λ t x. grammar.IsReasonPhrase.whole refl x) (λ _. one_space strict refl)
