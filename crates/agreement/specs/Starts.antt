-- The parts of a start line are read exactly where the grammar has them: target, version, code, reason.
-- Assumes nothing.
use Rattle.std.specs.Prelude.{ℕ, ◌+◌, ◌-◌, ◌*◌, ◌≡◌, refl, ◌⊎◌, List, [], ◌∷◌, ◌++◌, Bool, true, false}
use Rattle.std.proofs.Common.{arith, sym, ap, subst, inl, inr}
use Rattle.reader.specs.Tests.{clash, never}
use Rattle.octets.specs.Grammar.{Range, DIGIT, VCHAR, IsObsText, IsFieldVchar, IsBlank, IsText}
use Rattle.octets.specs.Grammar as bytes
use Rattle.octets.specs.Class.{is_value, is_ascii}
use Rattle.octets.proofs.Ties.{in_range, range_in, above_range, digit_is_DIGIT, value_is_text}
use Rattle.utf8.specs.Grammar.{UTF8_octets}
use Rattle.utf8.specs.Grammar as characters
use Rattle.utf8.specs.Reader.{utf8}
use Rattle.utf8.proofs.Exact.{utf8_exact}
use Rattle.rules.specs.declared.Settings.{Settings}
use Rattle.rules.specs.Rules.{Rules, default}
use Rattle.rules.specs.Settings.{request_rules, response_rules}
use Rattle.grammar.specs.Rows.{Many, none, more, Some, some}
use Rattle.grammar.specs.Message.{Version, HTTP_version, one_zero, one_one, IsRequestTarget, IsStatusCode, IsAsciiText, IsReasonPhrase}
use Rattle.grammar.specs.Message as grammar
use Rattle.words.specs.Target.{target_byte}
use Rattle.versions.specs.Version.{name}
use Rattle.status.specs.Code.{onto}
use Rattle.leaves.specs.Rows.{In}
use Rattle.leaves.specs.Version.{Digit, zero_digit, one_digit}
use Rattle.leaves.specs.Status.{Coded, digits}
use Rattle.leaves.specs.Reason.{Ascii, Obsolete}
use Rattle.agreement.specs.Rows.{many_as, some_as, many_append, targets, in_target, visibles, in_visible, texts, in_value}

-- where the reader has no choice, it reads as httparse does
pub record Fixed (r : Rules) : Type 0 where
  pub known_versions : r.known_versions ≡ true
  pub any_code : r.any_code ≡ true
  pub obs_reason : r.obs_reason ≡ true

pub default_fixed : Fixed default
default_fixed = record { known_versions = refl; any_code = refl; obs_reason = refl }

pub request_fixed : (settings : Settings) → Fixed (request_rules settings)
request_fixed settings = record { known_versions = refl; any_code = refl; obs_reason = refl }

pub response_fixed : (settings : Settings) → Fixed (response_rules settings)
response_fixed settings = record { known_versions = refl; any_code = refl; obs_reason = refl }

-- visible characters are UTF-8
visible_utf8 : {w : List ℕ} → Many VCHAR w → UTF8_octets w
visible_utf8 none = characters.UTF8_octets.none
visible_utf8 (more {b = b} h k) = characters.UTF8_octets.char (characters.one (characters.«00-7F» {a = b} (record { low = omega arith; high = omega (arith, h.high) }))) (visible_utf8 k)

some_many : {c : ℕ → Type 0} {w : List ℕ} → Some c w → Many c w
some_many (some x k) = more x k

module _ {r : Rules} where
  pub target_derived : {w : List ℕ} → Some (In (target_byte r.any_target)) w → utf8 w ≡ true → IsRequestTarget r w
  target_derived {w} = by r.any_target refl
    where
      by : (any : Bool) → r.any_target ≡ any → Some (In (target_byte any)) w → utf8 w ≡ true → IsRequestTarget r w
      by true h k e = grammar.IsRequestTarget.any h (targets k) ((utf8_exact w).0 e)
      by false h k e = grammar.IsRequestTarget.visible (visibles k)

  pub target_read : {w : List ℕ} → IsRequestTarget r w → Some (In (target_byte r.any_target)) w × (utf8 w ≡ true)
  target_read {w} (grammar.IsRequestTarget.visible k) = (by r.any_target, (utf8_exact w).1 (visible_utf8 (some_many k)))
    where
      by : (any : Bool) → Some (In (target_byte any)) w
      by true = in_target (some_as (λ b. bytes.IsFieldVchar.visible) k)
      by false = in_visible k
  target_read {w} (grammar.IsRequestTarget.any h k u) = (by r.any_target h, (utf8_exact w).1 u)
    where
      by : (any : Bool) → any ≡ true → Some (In (target_byte any)) w
      by true e = in_target k
      by false e = never cc

module _ {r : Rules} (fixed : Fixed r) where
  pub version_derived : {w : List ℕ} {a : ℕ} → Digit name w a → HTTP_version r w (record { major = 1; minor = a })
  version_derived zero_digit = one_zero
  version_derived one_digit = one_one

  pub version_read : {w : List ℕ} {v : Version} → HTTP_version r w v → Digit name w v.minor
  version_read one_zero = zero_digit
  version_read one_one = one_digit
  version_read (grammar.HTTP_version.other h a b) = absurd (clash fixed.known_versions h)

  number : (a b c : ℕ) → onto (onto (onto 0 a) b) c ≡ (a - 0x30) * 100 + (b - 0x30) * 10 + (c - 0x30)
  number a b c = omega arith

  pub code_derived : {p : ℕ} {w : List ℕ} {n : ℕ} {rest : List ℕ} → Coded p w n rest → IsStatusCode r w n
  code_derived (digits {a = a} {b = b} {c = c} x y z) =
      subst (IsStatusCode r (a ∷ b ∷ c ∷ [])) (sym (number a b c)) (grammar.IsStatusCode.any fixed.any_code ((digit_is_DIGIT a).0 x) ((digit_is_DIGIT b).0 y) ((digit_is_DIGIT c).0 z))

  three : {p a b c : ℕ} {rest : List ℕ} → DIGIT a → DIGIT b → DIGIT c → Coded p (a ∷ b ∷ c ∷ []) ((a - 0x30) * 100 + (b - 0x30) * 10 + (c - 0x30)) rest
  three {p} {a} {b} {c} {rest} x y z = subst (λ n. Coded p (a ∷ b ∷ c ∷ []) n rest) (number a b c) (digits ((digit_is_DIGIT a).1 x) ((digit_is_DIGIT b).1 y) ((digit_is_DIGIT c).1 z))

  pub code_read : {p : ℕ} {w : List ℕ} {n : ℕ} {rest : List ℕ} → IsStatusCode r w n → Coded p w n rest
  code_read (grammar.IsStatusCode.class x y z) = three (record { low = omega (arith, x.low); high = omega (arith, x.high) }) y z
  code_read (grammar.IsStatusCode.any h x y z) = three x y z

-- a text byte is ASCII or obs-text
pub ascii_is : {b : ℕ} → Ascii b → IsAsciiText b
unfolding is_ascii
ascii_is {b} h = by ((value_is_text b).0 h.value)
  where
    low : Range 0x00 0x7F b
    low = in_range 0x00 0x7F b h.ascii

    by : IsText b → IsAsciiText b
    by (bytes.IsText.white k) = grammar.IsAsciiText.white k
    by (bytes.IsText.field (bytes.visible k)) = grammar.IsAsciiText.visible k
    by (bytes.IsText.field (bytes.obsolete k)) = absurd (omega (arith, k.low, low.high))

ascii_blank : {b : ℕ} → IsBlank b → is_ascii b ≡ true
unfolding is_ascii
ascii_blank {b} (bytes.IsBlank.space e) = range_in 0x00 0x7F b (record { low = omega arith; high = omega (arith, e) })
ascii_blank {b} (bytes.IsBlank.tab e) = range_in 0x00 0x7F b (record { low = omega arith; high = omega (arith, e) })

ascii_visible : {b : ℕ} → VCHAR b → is_ascii b ≡ true
unfolding is_ascii
ascii_visible {b} h = range_in 0x00 0x7F b (record { low = omega arith; high = omega (arith, h.high) })

is_ascii_lem : {b : ℕ} → IsAsciiText b → Ascii b
is_ascii_lem {b} (grammar.IsAsciiText.white k) = record { value = (value_is_text b).1 (bytes.IsText.white k); ascii = ascii_blank k }
is_ascii_lem {b} (grammar.IsAsciiText.visible k) = record { value = (value_is_text b).1 (bytes.IsText.field (bytes.visible k)); ascii = ascii_visible k }

obsolete_is : {b : ℕ} → Obsolete b → IsObsText b
obsolete_is {b} h = by ((value_is_text b).0 h.value)
  where
    by : IsText b → IsObsText b
    by (bytes.IsText.white k) = absurd (clash (ascii_blank k) h.not_ascii)
    by (bytes.IsText.field (bytes.visible k)) = absurd (clash (ascii_visible k) h.not_ascii)
    by (bytes.IsText.field (bytes.obsolete k)) = k

is_obsolete : {b : ℕ} → IsObsText b → Obsolete b
unfolding is_ascii
is_obsolete {b} h = record { value = (value_is_text b).1 (bytes.IsText.field (bytes.obsolete h)); not_ascii = above_range 0x00 0x7F b (omega (arith, h.low)) }

ascii_value : {w : List ℕ} → Many Ascii w → Many IsText w
ascii_value = many_as (λ b h. (value_is_text b).0 h.value)

pub reason_ascii : {r : Rules} {b : ℕ} {w : List ℕ} → Many Ascii (b ∷ w) → IsReasonPhrase r (b ∷ w) (b ∷ w)
reason_ascii (more x k) = grammar.IsReasonPhrase.ascii (some (ascii_is x) (many_as (λ b. ascii_is) k))

pub reason_obsolete : {r : Rules} {u v : List ℕ} {c : ℕ} → Fixed r → Many Ascii u → Obsolete c → Many (In is_value) v → IsReasonPhrase r (u ++ (c ∷ v)) []
reason_obsolete fixed k o l = grammar.IsReasonPhrase.emptied fixed.obs_reason (ascii_value k) (obsolete_is o) (texts l)

-- the first byte that is not ASCII
pub record First (w : List ℕ) : Type 0 where
  pub u : List ℕ
  pub c : ℕ
  pub v : List ℕ
  pub whole : w ≡ u ++ (c ∷ v)
  pub before : Many Ascii u
  pub here : Obsolete c
  pub behind : Many (In is_value) v

text_is : {b : ℕ} → IsText b → Ascii b ⊎ Obsolete b
text_is (bytes.IsText.white k) = inl (is_ascii_lem (grammar.IsAsciiText.white k))
text_is (bytes.IsText.field (bytes.visible k)) = inl (is_ascii_lem (grammar.IsAsciiText.visible k))
text_is (bytes.IsText.field (bytes.obsolete k)) = inr (is_obsolete k)

pub first_obsolete : {u v : List ℕ} {c : ℕ} → Many IsText u → IsObsText c → Many IsText v → First (u ++ (c ∷ v))
first_obsolete {v = v} {c = c} none o l = record { u = []; c = c; v = v; whole = refl; before = none; here = is_obsolete o; behind = in_value l }
first_obsolete {v = v} {c = c} (more {b = b} {w = u} x k) o l = by (first_obsolete k o l) (text_is x)
  where
    by : First (u ++ (c ∷ v)) → Ascii b ⊎ Obsolete b → First (b ∷ (u ++ (c ∷ v)))
    by rest (inl p) = record { u = b ∷ rest.u; c = rest.c; v = rest.v; whole = ap (λ y. b ∷ y) rest.whole; before = more p rest.before; here = rest.here; behind = rest.behind }
    by rest (inr p) = record { u = []; c = b; v = u ++ (c ∷ v); whole = refl; before = none; here = p; behind = in_value (many_append k (more (bytes.IsText.field (bytes.obsolete o)) l)) }

pub ascii_read : {w : List ℕ} → Some IsAsciiText w → Many Ascii w
ascii_read k = many_as (λ b. is_ascii_lem) (some_many k)
