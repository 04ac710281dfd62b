-- Bytes that are not of a class, and so differ from each byte that is: what ends a word, a target, a value or a number.
-- Assumes nothing.
use Rattle.std.specs.Prelude.{ℕ, ◌≡◌, refl, Bool, true, false, eqb}
use Rattle.std.proofs.Common.{sym, ap, ◌∙◌, ne_eqb}
use Rattle.std.proofs.lemmas.Bool.{false≢true}
use Rattle.octets.specs.Class.{among, within, is_blank, is_digit, is_hex_digit, is_target, is_token, is_value, is_visible}

-- a byte of a class is no byte that is not of it
pub differs : (class : ℕ → Bool) {b c : ℕ} → class c ≡ false → class b ≡ true → b ≡ c → ⊥
differs class f t e = false≢true (sym f ∙ ap class (sym e) ∙ t)

pub differs_test : (class : ℕ → Bool) (b c : ℕ) → class c ≡ false → class b ≡ true → eqb b c ≡ false
differs_test class b c f t = ne_eqb b c (differs class f t)

pub cr_no_token : is_token 0x0D ≡ false
unfolding is_token is_digit within among
cr_no_token = refl

pub lf_no_token : is_token 0x0A ≡ false
unfolding is_token is_digit within among
lf_no_token = refl

pub space_no_token : is_token 0x20 ≡ false
unfolding is_token is_digit within among
space_no_token = refl

pub colon_no_token : is_token 0x3A ≡ false
unfolding is_token is_digit within among
colon_no_token = refl

pub tab_no_token : is_token 0x09 ≡ false
unfolding is_token is_digit within among
tab_no_token = refl

-- no token byte is a blank
pub token_no_blank : (b : ℕ) → is_token b ≡ true → is_blank b ≡ false
unfolding is_blank among
token_no_blank b t = rw (ne_eqb 0x20 b (λ e. differs is_token space_no_token t (sym e)), ne_eqb 0x09 b (λ e. differs is_token tab_no_token t (sym e)))

pub space_not_visible : is_visible 0x20 ≡ false
unfolding is_visible within
space_not_visible = refl

pub space_no_target : is_target 0x20 ≡ false
unfolding is_target within
space_no_target = refl

pub cr_no_value : is_value 0x0D ≡ false
unfolding is_value is_blank is_target within among
cr_no_value = refl

pub lf_no_value : is_value 0x0A ≡ false
unfolding is_value is_blank is_target within among
lf_no_value = refl

pub cr_no_blank : is_blank 0x0D ≡ false
unfolding is_blank among
cr_no_blank = refl

pub lf_no_blank : is_blank 0x0A ≡ false
unfolding is_blank among
lf_no_blank = refl

pub colon_no_blank : is_blank 0x3A ≡ false
unfolding is_blank among
colon_no_blank = refl

pub semicolon_no_blank : is_blank 0x3B ≡ false
unfolding is_blank among
semicolon_no_blank = refl

pub cr_no_digit : is_hex_digit 0x0D ≡ false
unfolding is_hex_digit is_digit within
cr_no_digit = refl

pub semicolon_no_digit : is_hex_digit 0x3B ≡ false
unfolding is_hex_digit is_digit within
semicolon_no_digit = refl

pub space_no_digit : is_hex_digit 0x20 ≡ false
unfolding is_hex_digit is_digit within
space_no_digit = refl
