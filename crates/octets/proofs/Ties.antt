-- The classes are the RFCs' own rules: a byte is of a class just where the rule has it.
-- Assumes nothing.
use Rattle.std.specs.Prelude.{ℕ, ◌<◌, ◌≡◌, refl, ◌↔◌, List, [], ◌∷◌, Bool, true, false, ◌&&◌, ◌||◌, leb, eqb}
use Rattle.std.proofs.lemmas.Bool.{false≢true, lt-leb}
use Rattle.std.proofs.Math.Bool.{and-false}
use Rattle.std.proofs.Common.{leb-true, le-leb, eqb-true}
use Rattle.octets.specs.Grammar.{Range, ALPHA, DIGIT, HEXDIG, VCHAR, IsFieldVchar, IsTchar, IsBlank, IsText}
use Rattle.octets.specs.Class.{among, within, marks, is_blank, is_digit, is_hex_digit, is_target, is_token, is_value, is_visible}

-- what each of two tests shows, either of them shows; and the other way round
either : {P : Type 0} (s t : Bool) → (s ≡ true → P) → (t ≡ true → P) → (s || t) ≡ true → P
either true t f g e = f refl
either false t f g e = g e

left : (s t : Bool) → s ≡ true → (s || t) ≡ true
left true t e = refl
left false t e = cc

right : (s t : Bool) → t ≡ true → (s || t) ≡ true
right true t e = refl
right false t e = e

-- a range
pub in_range : (lo hi b : ℕ) → within lo hi b ≡ true → Range lo hi b
unfolding within
in_range lo hi b = go (leb lo b) refl
  where
    go : (t : Bool) → leb lo b ≡ t → (t && leb b hi) ≡ true → Range lo hi b
    go true l h = record { low = leb-true lo b l; high = leb-true b hi h }
    go false l h = absurd (false≢true h)

pub range_in : (lo hi b : ℕ) → Range lo hi b → within lo hi b ≡ true
unfolding within
range_in lo hi b r = rw (le-leb lo b r.low, le-leb b hi r.high)

pub above_range : (lo hi b : ℕ) → hi < b → within lo hi b ≡ false
unfolding within
above_range lo hi b h = rw (lt-leb b hi h) (and-false (leb lo b))

-- what holds of each byte of a list holds of any byte among them
abbrev Each : (ℕ → Type 0) → List ℕ → Type 0
Each P [] = Unit {0}
Each P (x ∷ xs) = P x × Each P xs

among_each : (P : ℕ → Type 0) (xs : List ℕ) (b : ℕ) → Each P xs → among xs b ≡ true → P b
unfolding among
among_each P [] b h e = absurd (false≢true e)
among_each P (x ∷ xs) b h e = either (eqb x b) (among xs b) (λ q. rw (eqb-true x b q) at h.0) (among_each P xs b h.1) e

digit_rule : (b : ℕ) → is_digit b ≡ true → DIGIT b
unfolding is_digit
digit_rule b e = in_range 0x30 0x39 b e

digit_class : (b : ℕ) → DIGIT b → is_digit b ≡ true
unfolding is_digit
digit_class b r = range_in 0x30 0x39 b r

pub digit_is_DIGIT : (b : ℕ) → (is_digit b ≡ true) ↔ DIGIT b
digit_is_DIGIT b = (digit_rule b, digit_class b)

hex_rule : (b : ℕ) → is_hex_digit b ≡ true → HEXDIG b
unfolding is_hex_digit
hex_rule b e =
    either (is_digit b || within 0x41 0x46 b) (within 0x61 0x66 b)
    (λ d. either (is_digit b) (within 0x41 0x46 b) (λ d. HEXDIG.digit (digit_rule b d)) (λ d. HEXDIG.capital (in_range 0x41 0x46 b d)) d)
    (λ d. HEXDIG.small (in_range 0x61 0x66 b d)) e

hex_class : (b : ℕ) → HEXDIG b → is_hex_digit b ≡ true
unfolding is_hex_digit
hex_class b (HEXDIG.digit d) = rw (digit_class b d)
hex_class b (HEXDIG.capital r) = left _ _ (right (is_digit b) _ (range_in 0x41 0x46 b r))
hex_class b (HEXDIG.small r) = right (is_digit b || within 0x41 0x46 b) _ (range_in 0x61 0x66 b r)

pub hex_digit_is_HEXDIG : (b : ℕ) → (is_hex_digit b ≡ true) ↔ HEXDIG b
hex_digit_is_HEXDIG b = (hex_rule b, hex_class b)

blank_rule : (b : ℕ) → is_blank b ≡ true → IsBlank b
unfolding is_blank
blank_rule b = among_each IsBlank (0x20 ∷ 0x09 ∷ []) b (IsBlank.space refl, (IsBlank.tab refl, tt))

blank_class : (b : ℕ) → IsBlank b → is_blank b ≡ true
unfolding is_blank among
blank_class b (IsBlank.space e) = rw e
blank_class b (IsBlank.tab e) = rw e

pub blank_is_blank : (b : ℕ) → (is_blank b ≡ true) ↔ IsBlank b
blank_is_blank b = (blank_rule b, blank_class b)

token_rule : (b : ℕ) → is_token b ≡ true → IsTchar b
unfolding is_token
token_rule b e =
    either (is_digit b || within 0x41 0x5A b || within 0x61 0x7A b) (among marks b)
    (either (is_digit b || within 0x41 0x5A b) (within 0x61 0x7A b)
    (either (is_digit b) (within 0x41 0x5A b) (λ d. IsTchar.digit (digit_rule b d)) (λ d. IsTchar.letter (ALPHA.capital (in_range 0x41 0x5A b d))))
    (λ d. IsTchar.letter (ALPHA.small (in_range 0x61 0x7A b d))))
    (among_each IsTchar marks b
    (IsTchar.exclamation_mark, (IsTchar.number_sign, (IsTchar.dollar, (IsTchar.percent, (IsTchar.ampersand, (IsTchar.apostrophe, (IsTchar.asterisk, (IsTchar.plus, (IsTchar.hyphen, (IsTchar.full_stop, (IsTchar.circumflex, (IsTchar.underscore, (IsTchar.grave_accent, (IsTchar.vertical_line, (IsTchar.tilde, tt))))))))))))))))
    e

token_class : {b : ℕ} → IsTchar b → is_token b ≡ true
unfolding is_token is_digit within among
token_class IsTchar.exclamation_mark = refl
token_class IsTchar.number_sign = refl
token_class IsTchar.dollar = refl
token_class IsTchar.percent = refl
token_class IsTchar.ampersand = refl
token_class IsTchar.apostrophe = refl
token_class IsTchar.asterisk = refl
token_class IsTchar.plus = refl
token_class IsTchar.hyphen = refl
token_class IsTchar.full_stop = refl
token_class IsTchar.circumflex = refl
token_class IsTchar.underscore = refl
token_class IsTchar.grave_accent = refl
token_class IsTchar.vertical_line = refl
token_class IsTchar.tilde = refl
token_class (IsTchar.digit {b = b} d) = left _ _ (left _ _ (left _ _ (digit_class b d)))
token_class (IsTchar.letter {b = b} (ALPHA.capital r)) = left _ _ (left _ _ (right (is_digit b) _ (range_in 0x41 0x5A b r)))
token_class (IsTchar.letter {b = b} (ALPHA.small r)) = left _ _ (right (is_digit b || within 0x41 0x5A b) _ (range_in 0x61 0x7A b r))

pub token_is_tchar : (b : ℕ) → (is_token b ≡ true) ↔ IsTchar b
token_is_tchar b = (token_rule b, token_class)

pub visible_is_VCHAR : (b : ℕ) → (is_visible b ≡ true) ↔ VCHAR b
unfolding is_visible
visible_is_VCHAR b = (in_range 0x21 0x7E b, range_in 0x21 0x7E b)

target_rule : (b : ℕ) → is_target b ≡ true → IsFieldVchar b
unfolding is_target
target_rule b = either (within 0x21 0x7E b) (within 0x80 0xFF b) (λ d. IsFieldVchar.visible (in_range 0x21 0x7E b d)) (λ d. IsFieldVchar.obsolete (in_range 0x80 0xFF b d))

target_class : (b : ℕ) → IsFieldVchar b → is_target b ≡ true
unfolding is_target
target_class b (IsFieldVchar.visible r) = left _ _ (range_in 0x21 0x7E b r)
target_class b (IsFieldVchar.obsolete r) = right (within 0x21 0x7E b) _ (range_in 0x80 0xFF b r)

pub target_is_field_vchar : (b : ℕ) → (is_target b ≡ true) ↔ IsFieldVchar b
target_is_field_vchar b = (target_rule b, target_class b)

value_rule : (b : ℕ) → is_value b ≡ true → IsText b
unfolding is_value
value_rule b = either (is_blank b) (is_target b) (λ d. IsText.white (blank_rule b d)) (λ d. IsText.field (target_rule b d))

value_class : (b : ℕ) → IsText b → is_value b ≡ true
unfolding is_value
value_class b (IsText.white w) = left _ _ (blank_class b w)
value_class b (IsText.field f) = right (is_blank b) _ (target_class b f)

pub value_is_text : (b : ℕ) → (is_value b ≡ true) ↔ IsText b
value_is_text b = (value_rule b, value_class b)
