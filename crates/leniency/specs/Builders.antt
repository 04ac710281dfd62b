-- Derivations of written texts, each part of them decided by computation.
-- Assumes nothing.
use Rattle.std.specs.Prelude.{ℕ, ◌+◌, ◌-◌, ◌*◌, ◌≡◌, refl, List, [], ◌∷◌, ◌++◌, Bool, true, false, ◌&&◌, ◌||◌}
use Prim.Native.String.{String}
use Rattle.std.proofs.Common.{arith, sym, ap, subst}
use Rattle.std.proofs.lemmas.Bool.{false≢true}
use Rattle.reader.specs.Tests.{both_true}
use Rattle.octets.specs.Grammar as bytes
use Rattle.octets.specs.Class.{within, is_token, is_target, is_value}
use Rattle.octets.proofs.Ties.{in_range, target_is_field_vchar}
use Rattle.rules.specs.Rules.{Rules, strict}
use Rattle.grammar.specs.Rows.{Many, none, more, Some, some}
use Rattle.grammar.specs.Fields.{IsToken, IsFieldValue, Field}
use Rattle.grammar.specs.Message.{space, colon, CRLF, crlf, IsRequestTarget, IsStatusCode, IsAsciiText, IsHeaderBlock, IsRequestHead, IsResponseHead}
use Rattle.grammar.specs.Message as grammar
use Rattle.leaves.specs.Rows.{In}
use Rattle.leaves.specs.Value.{Solid, Core, one, two}
use Rattle.agreement.specs.Rows.{many_as, some_as, tokens}
use Rattle.agreement.specs.Value.{core_value, is_solid}
use Rattle.leniency.specs.Text.{ascii}

-- all bytes of a class, and at least one
abbrev pub all : (ℕ → Bool) → List ℕ → Bool
all c [] = true
all c (b ∷ w) = c b && all c w

abbrev pub some_all : (ℕ → Bool) → List ℕ → Bool
some_all c [] = false
some_all c (b ∷ w) = c b && all c w

row : (c : ℕ → Bool) (w : List ℕ) → all c w ≡ true → Many (In c) w
row c [] h = none
row c (b ∷ w) h = let k = both_true (c b) (all c w) h in more k.0 (row c w k.1)

some_row : (c : ℕ → Bool) (w : List ℕ) → some_all c w ≡ true → Some (In c) w
some_row c [] h = absurd (false≢true h)
some_row c (b ∷ w) h = let k = both_true (c b) (all c w) h in some k.0 (row c w k.1)

-- text bytes of which the last is no blank
abbrev pub solid_end : List ℕ → Bool
solid_end [] = false
solid_end (b ∷ []) = is_target b
solid_end (b ∷ c ∷ w) = is_value b && solid_end (c ∷ w)

-- a value: it begins and ends with no blank
abbrev pub solid : List ℕ → Bool
solid [] = false
solid (b ∷ []) = is_target b
solid (b ∷ c ∷ w) = is_target b && solid_end (c ∷ w)

-- the bytes before the last, and the last
record Last (w : List ℕ) : Type 0 where
  m : List ℕ
  c : ℕ
  whole : w ≡ m ++ (c ∷ [])
  before : Many (In is_value) m
  last : Solid c

target_solid : (b : ℕ) → is_target b ≡ true → Solid b
target_solid b h = is_solid ((target_is_field_vchar b).0 h)

last_of : (w : List ℕ) → solid_end w ≡ true → Last w
last_of [] h = absurd (false≢true h)
last_of (b ∷ []) h = record { m = []; c = b; whole = refl; before = none; last = target_solid b h }
last_of (b ∷ c ∷ w) h =
    let k = both_true (is_value b) (solid_end (c ∷ w)) h in
    let L = last_of (c ∷ w) k.1 in
    record { m = b ∷ L.m; c = L.c; whole = ap (λ y. b ∷ y) L.whole; before = more k.0 L.before; last = L.last }

core_of : (w : List ℕ) → solid w ≡ true → Core w
core_of [] h = absurd (false≢true h)
core_of (b ∷ []) h = one (target_solid b h)
core_of (b ∷ c ∷ w) h =
    let k = both_true (is_target b) (solid_end (c ∷ w)) h in
    let L = last_of (c ∷ w) k.1 in
    subst Core (ap (λ y. b ∷ y) (sym L.whole)) (two (target_solid b k.0) L.before L.last)

-- the parts of a head
pub a_token : (w : String) → some_all is_token (ascii w) ≡ true → IsToken (ascii w)
a_token w h = tokens (some_row is_token (ascii w) h)

pub a_value : (w : String) → solid (ascii w) ≡ true → IsFieldValue (ascii w)
a_value w h = core_value (core_of (ascii w) h)

pub a_target : {r : Rules} (w : String) → some_all (within 0x21 0x7E) (ascii w) ≡ true → IsRequestTarget r (ascii w)
a_target w h = grammar.IsRequestTarget.visible (some_as (λ b. in_range 0x21 0x7E b) (some_row (within 0x21 0x7E) (ascii w) h))

-- a visible character or a space
abbrev pub printable : ℕ → Bool
printable b = within 0x20 0x20 b || within 0x21 0x7E b

printable_is : (b : ℕ) (s t : Bool) → within 0x20 0x20 b ≡ s → within 0x21 0x7E b ≡ t → (s || t) ≡ true → IsAsciiText b
printable_is b true t h k e = let r = in_range 0x20 0x20 b h in grammar.IsAsciiText.white (bytes.IsBlank.space (omega (arith, r.low, r.high)))
printable_is b false true h k e = grammar.IsAsciiText.visible (in_range 0x21 0x7E b k)
printable_is b false false h k e = absurd (false≢true e)

-- a reason that begins with no space, so that it is one whatever the rules are
abbrev pub worded : List ℕ → Bool
worded [] = false
worded (b ∷ w) = within 0x21 0x7E b && all printable w

worded_text : (w : List ℕ) → worded w ≡ true → Some IsAsciiText w
worded_text [] h = absurd (false≢true h)
worded_text (b ∷ w) h =
    let k = both_true (within 0x21 0x7E b) (all printable w) h in
    some (grammar.IsAsciiText.visible (in_range 0x21 0x7E b k.0)) (many_as (λ c. printable_is c (within 0x20 0x20 c) (within 0x21 0x7E c) refl refl) (row printable w k.1))

worded_first : (w : List ℕ) → worded w ≡ true → (u : List ℕ) → w ≡ 0x20 ∷ u → ⊥
worded_first [] h u e = absurd (false≢true h)
worded_first (b ∷ w) h u e = let same : b ≡ 0x20 = cc in omega (arith, (in_range 0x21 0x7E b (both_true (within 0x21 0x7E b) (all printable w) h).0).low, same)

-- the lines of a head
pub the_end : {r : Rules} {first : Bool} → IsHeaderBlock r first CRLF []
the_end = grammar.IsHeaderBlock.end grammar.IsBeforeFirstName.nothing crlf

-- under strict, since where folds are allowed what follows a field begins with no blank
pub a_field : (n v : String) → some_all is_token (ascii n) ≡ true → solid (ascii v) ≡ true → {first : Bool} {b : List ℕ} {fs : List Field} → IsHeaderBlock strict false b fs → IsHeaderBlock strict first (ascii n ++ [] ++ colon ++ space ++ ascii v ++ [] ++ CRLF ++ b) (record { name = ascii n; value = ascii v } ∷ fs)
a_field n v h k b = grammar.IsHeaderBlock.field grammar.IsBeforeFirstName.nothing (grammar.IsFieldLine.line (a_token n h) grammar.IsBehindName.nothing (grammar.IsAroundValue.more (bytes.IsBlank.space refl) grammar.IsAroundValue.none) (grammar.IsValueLines.one (a_value v k)) grammar.IsAroundValue.none) crlf (λ t. absurd (false≢true t)) b

pub a_request : {r : Rules} (m t : String) → some_all is_token (ascii m) ≡ true → some_all (within 0x21 0x7E) (ascii t) ≡ true → {b : List ℕ} {fs : List Field} → IsHeaderBlock r true b fs → IsRequestHead r (ascii m ++ space ++ ascii t ++ space ++ ascii "HTTP/1.1" ++ CRLF ++ b) (record { method = ascii m; target = ascii t; version = record { major = 1; minor = 1 } }) fs
a_request m t h k b = grammar.head.message grammar.IsEmptyLines.none (grammar.IsRequestLine.line (a_token m h) grammar.IsDelimiter.one (a_target t k) grammar.IsDelimiter.one grammar.one_one) crlf b

-- three digits, of which the first is from 1 to 5
abbrev pub digits : ℕ → ℕ → ℕ → Bool
digits x y z = within 0x31 0x35 (0x30 + x) && within 0x30 0x39 (0x30 + y) && within 0x30 0x39 (0x30 + z)

pub a_code : {r : Rules} (x y z : ℕ) → digits x y z ≡ true → IsStatusCode r ((0x30 + x) ∷ (0x30 + y) ∷ (0x30 + z) ∷ []) ((0x30 + x - 0x30) * 100 + (0x30 + y - 0x30) * 10 + (0x30 + z - 0x30))
a_code x y z h =
    let k = both_true (within 0x31 0x35 (0x30 + x) && within 0x30 0x39 (0x30 + y)) (within 0x30 0x39 (0x30 + z)) h in
    let l = both_true (within 0x31 0x35 (0x30 + x)) (within 0x30 0x39 (0x30 + y)) k.0 in
    grammar.IsStatusCode.class (in_range 0x31 0x35 (0x30 + x) l.0) (in_range 0x30 0x39 (0x30 + y) l.1) (in_range 0x30 0x39 (0x30 + z) k.1)

pub a_response : {r : Rules} (x y z : ℕ) (w : String) → digits x y z ≡ true → worded (ascii w) ≡ true → {b : List ℕ} {fs : List Field} → IsHeaderBlock r true b fs → IsResponseHead r (ascii "HTTP/1.1" ++ space ++ ((0x30 + x) ∷ (0x30 + y) ∷ (0x30 + z) ∷ []) ++ space ++ ascii w ++ CRLF ++ b) (record { version = record { major = 1; minor = 1 }; code = (0x30 + x - 0x30) * 100 + (0x30 + y - 0x30) * 10 + (0x30 + z - 0x30); reason = ascii w }) fs
a_response x y z w h k b = grammar.head.message grammar.IsEmptyLines.none (grammar.IsStatusLine.reason grammar.one_one grammar.IsDelimiter.one (a_code x y z h) grammar.IsDelimiter.one (grammar.IsReasonPhrase.ascii (worded_text (ascii w) k)) (λ t. worded_first (ascii w) k)) crlf b
