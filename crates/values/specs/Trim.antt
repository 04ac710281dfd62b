-- The end of a part of the input with the blanks at its end cut off.
-- Assumes nothing.
use Rattle.std.specs.Prelude.{ℕ, ◌+◌, ◌-◌, ◌≤◌, ◌<◌, ◌≡◌, refl, List, true, false, get_or}
use Rattle.std.proofs.Common.{arith, ne_eqb, sym, ◌∙◌}
use Rattle.std.proofs.Math.Decide.{dec_lt}
use Rattle.reader.proofs.Skip.{told_true, told_false}
use Rattle.octets.specs.Class.{is_blank, is_target, is_value, among, within}
use Rattle.octets.specs.Table.{same_from}
use Rattle.reader.specs.Skip.{Passed}

-- all from t up to end is blank
pub record Cut (xs : List ℕ) (from end t : ℕ) : Type 0 where
  pub low : from ≤ t
  pub high : t ≤ end
  pub blank : (k : ℕ) → t ≤ k → k < end → is_blank (get_or xs k 0) ≡ true

-- and what is before t is nothing, or ends in a byte that is not
pub record Trimmed (xs : List ℕ) (from end t : ℕ) : Type 0 where
  pub cut : Cut xs from end t
  pub last : from < t → is_blank (get_or xs (t - 1) 0) ≡ false

up_to_space : (b : ℕ) → is_value b ≡ true → b ≤ 32 → is_blank b ≡ true
unfolding is_value is_blank is_target among within
up_to_space b v l = sym (same_from is_value is_blank 0 33 refl b (omega arith) (omega arith)) ∙ v

past_space : (b : ℕ) → 32 < b → is_blank b ≡ false
unfolding is_blank among
past_space b l = rw (ne_eqb 32 b (omega arith), ne_eqb 9 b (omega arith))

module _ {xs : List ℕ} {from end : ℕ} where
  pub cut_none : from ≤ end → Cut xs from end end
  cut_none h = record { low = h; high = omega arith; blank = λ k lo hi. absurd (omega arith) }

  pub cut_more : {t : ℕ} → Cut xs from end t → from < t → is_blank (get_or xs (t - 1) 0) ≡ true → Cut xs from end (t - 1)
  cut_more {t} c h b = record { low = omega arith; high = omega (arith, c.high); blank = λ k lo hi. go k lo hi (dec_lt k t) }
    where
      go : (k : ℕ) → t - 1 ≤ k → k < end → Dec (k < t) → is_blank (get_or xs k 0) ≡ true
      go k lo hi (yes l) = let e : k ≡ t - 1 = omega arith in rw e b
      go k lo hi (no l) = c.blank k (omega arith) hi

  pub trimmed_at : {t : ℕ} → Cut xs from end t → is_blank (get_or xs (t - 1) 0) ≡ false → Trimmed xs from end t
  trimmed_at c b = record { cut = c; last = λ _. b }

  -- of the bytes of a value those up to the space are its blanks
  module _ (v : Passed is_value xs from end) {t : ℕ} (c : Cut xs from end t) (h : from < t) where
    pub cut_blank : get_or xs (t - 1) 0 ≤ 32 → Cut xs from end (t - 1)
    cut_blank l = cut_more c h (up_to_space _ (v.all (t - 1) (omega arith) (omega (arith, c.high))) l)

    pub trimmed_above : 32 < get_or xs (t - 1) 0 → Trimmed xs from end (t - 1 + 1)
    trimmed_above l = let e : t - 1 + 1 ≡ t = omega arith in rw e (trimmed_at c (past_space _ l))

  pub trimmed_all : {t : ℕ} → Cut xs from end t → t ≤ from → Trimmed xs from end t
  trimmed_all c h = record { cut = c; last = λ l. absurd (omega arith) }

pub ruleset trims = (cut_none, cut_blank, cut_more, trimmed_above, trimmed_at, trimmed_all, told_true, told_false)
