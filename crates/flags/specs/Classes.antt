-- The tests of the classes, each computed at all 256 bytes.
-- Assumes nothing.
use Rattle.std.specs.Prelude.{ℕ, ◌≡◌, refl, Bool, true, ◌||◌, not, eqb}
use Rattle.std.proofs.Common.{sym, ap, ◌∙◌}
use Rattle.octets.specs.Class.{among, within, is_digit, is_blank, is_target, is_token, is_value, is_visible, is_ascii}
use Rattle.octets.specs.Table.{table, same}
use Rattle.flags.specs.Test.{Test, least, capital_least, high, flag, both, either, none, at_byte}
use Rattle.flags.specs.Sure.{flags, clear, Shows, Sure, sure}

-- below 0x20, or DEL; a tab too
abbrev pub not_value : Test
not_value = both (either (none (least 0x20)) (least 0x7F)) (none high)

-- below 0x21, or DEL
abbrev pub not_target : Test
not_target = both (either (none (least 0x21)) (least 0x7F)) (none high)

-- below 0x21, or from 0x7F on
abbrev pub not_visible : Test
not_visible = either (either (none (least 0x21)) (least 0x7F)) high

-- neither a letter nor a hyphen, of which most names are made; digits and the other marks too
abbrev pub not_token : Test
not_token = either (none (either (both (capital_least 0x41) (none (capital_least 0x5B))) (both (least 0x2D) (none (least 0x2E))))) high

-- from 0x80 on
abbrev pub not_ascii : Test
not_ascii = high

-- each byte has a flag or is of the class
abbrev fine : Test → (ℕ → Bool) → ℕ → Bool
fine t class b = not (eqb (at_byte (both t flag) b) 0) || class b

shows : (t : Test) (class : ℕ → Bool) → table (fine t class) 256 0 ≡ table (λ _. true) 256 0 → Shows t class
shows t class c b h e = ap (λ y. not (eqb y 0) || class b) (sym e) ∙ same (fine t class) (λ _. true) c b h

module _ {x f r : ℕ} where
  pub sure_value : f ≡ flags not_value x → r ≡ clear f → Sure is_value x r
  unfolding is_value is_blank is_target within among
  sure_value = sure not_value (shows not_value is_value refl)

  pub sure_target : f ≡ flags not_target x → r ≡ clear f → Sure is_target x r
  unfolding is_target within
  sure_target = sure not_target (shows not_target is_target refl)

  pub sure_visible : f ≡ flags not_visible x → r ≡ clear f → Sure is_visible x r
  unfolding is_visible within
  sure_visible = sure not_visible (shows not_visible is_visible refl)

  pub sure_token : f ≡ flags not_token x → r ≡ clear f → Sure is_token x r
  unfolding is_token is_digit within among
  sure_token = sure not_token (shows not_token is_token refl)

  pub sure_ascii : f ≡ flags not_ascii x → r ≡ clear f → Sure is_ascii x r
  unfolding is_ascii within
  sure_ascii = sure not_ascii (shows not_ascii is_ascii refl)
