-- Heads one behind another, and what reading them comes to.
-- Assumes nothing.
use Rattle.std.specs.Prelude.{ℕ, ◌+◌, ◌≤◌, ◌<◌, ◌≡◌, List, [], ◌∷◌, ◌++◌, length, drop, Err}
use Rattle.grammar.specs.Fields.{Field}
use Rattle.parts.specs.declared.Error.TheVariants.{TooManyHeaders}
use Rattle.parts.specs.declared.Fault.{Fault}
use Rattle.parts.specs.Answers.{Passed, fault}
use Rattle.parts.specs.declared.Unread.TheVariants.{More, Bad}
use Rattle.startline.specs.Answers.{tell}
use Rattle.blocks.specs.Slots.{filled}
use Rattle.heads.specs.Head.{Heads, Known, given}
use Rattle.rowread.specs.declared.RowRead.{RowRead}
use Rattle.rowread.specs.declared.Stop.{Stop}
use Rattle.rowread.specs.declared.Stop.TheVariants as stops

-- heads one behind another from a position on, what each says, and the position behind each
pub data Row {L : Type 0} (Head : List ℕ → L → List Field → Type 0) : ℕ → List ℕ → List (L × List Field) → List ℕ → Type 0 where
  none : {at : ℕ} → Row Head at [] [] []
  more : {at : ℕ} {w v : List ℕ} {l : L} {fs : List Field} {rest : List (L × List Field)} {ends : List ℕ} → Head w l fs → Row Head (at + length w) v rest ends → Row Head at (w ++ v) ((l, fs) ∷ rest) ((at + length w) ∷ ends)

-- each head has at most n fields
abbrev pub Fitting : {L : Type 0} → ℕ → List (L × List Field) → Type 0
Fitting n [] = Unit {0}
Fitting n (h ∷ hs) = (length h.1 ≤ n) × Fitting n hs

-- the reader's answer ends so, whatever it tells besides
abbrev pub Ends : {K : Type 0} → Heads K → Passed → Type 0
Ends {K} a p = (k : Known K) × (tell p k ≡ a)

module _ {K : Type 0} (read : ℕ → List ℕ → Heads K) (n : ℕ) where
  -- the slots behind a call on the bytes z
  abbrev pub used : List ℕ → List ℕ → List ℕ
  used z slots = filled (given (read n z)) slots

  -- the slots behind heads with these ends, each of which was read into what the one before it left
  pub data Used (s slots : List ℕ) : List ℕ → ℕ → List ℕ → Type 0 where
    untouched : Used s slots [] 0 slots
    behind : {ends : List ℕ} {at : ℕ} {before : List ℕ} (end : ℕ) → Used s slots ends at before → Used s slots (ends ++ (end ∷ [])) end (used (drop at s) before)

-- why the reading stopped at a position before the bytes rest, with n slots, after so many heads and with room for so many ends; and the
-- slots then, of those that the last head left
pub data Stopped {L K : Type 0} (Head : List ℕ → L → List Field → Type 0) (read : ℕ → List ℕ → Heads K) (n at : ℕ) (rest : List ℕ) (count room : ℕ) (left : List ℕ) : Stop → List ℕ → Type 0 where
  -- nothing is left
  all_read : rest ≡ [] → Stopped Head read n at rest count room left stops.End left
  -- there is no room for the end of one more
  full : count ≡ room → 1 ≤ length rest → Stopped Head read n at rest count room left stops.Full left
  -- the reader waits for more, and no head has ended yet in what is left
  unfinished : Ends (read n rest) (Err More) → ((w t : List ℕ) (l : L) (fs : List Field) → rest ≡ w ++ t → Head w l fs → ⊥) → 1 ≤ length rest → count < room → Stopped Head read n at rest count room left stops.More (used read n rest left)
  -- the reader has that error, so many bytes behind the position: no head that fits the slots begins there, whatever bytes u follow, and none
  -- at all if it is not TooManyHeaders
  wrong : {x : Fault} → Ends (read n rest) (Err (Bad x)) → x.position < length rest → ((u w t : List ℕ) (l : L) (fs : List Field) → rest ++ u ≡ w ++ t → Head w l fs → length fs ≤ n → ⊥) → ((x.error ≡ TooManyHeaders → ⊥) → (u w t : List ℕ) (l : L) (fs : List Field) → rest ++ u ≡ w ++ t → Head w l fs → ⊥) → 1 ≤ length rest → count < room → Stopped Head read n at rest count room left (stops.Bad (fault x.error (at + x.position))) (used read n rest left)

-- what was read is a row of heads that fit the slots, its ends are in their places, and those behind them are as they were
pub record RowPromise {L K : Type 0} (Head : List ℕ → L → List Field → Type 0) (read : ℕ → List ℕ → Heads K) (n : ℕ) (s slots old : List ℕ) (r : RowRead) (slots' new : List ℕ) : Type 0 where
  pub bytes : List ℕ
  pub rest : List ℕ
  pub heads : List (L × List Field)
  pub ends : List ℕ
  pub whole : s ≡ bytes ++ rest
  pub row : Row Head 0 bytes heads ends
  pub fits : Fitting n heads
  pub end : r.end ≡ length bytes
  pub count : r.count ≡ length ends
  pub room : r.count ≤ length old
  pub kept : new ≡ ends ++ drop (length ends) old
  pub left : List ℕ
  pub uses : Used read n s slots ends r.end left
  pub stopped : Stopped Head read n r.end rest r.count (length old) left r.stop slots'
