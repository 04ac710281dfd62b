-- A test that answers whether something is so, and how the tests of a head's places come together.
-- Assumes nothing.
use Rattle.std.specs.Prelude.{ℕ, ◌+◌, ◌*◌, ◌/◌, ◌≤◌, ◌<◌, ◌≡◌, refl, List, Bool, true, false, length, drop, Err, None, Ok, Option, Some}
use Rattle.std.specs.Result.{is_ok}
use Rattle.std.proofs.Common.{arith, sym, subst}
use Rattle.std.proofs.Math.Dec.{leb}
use Rattle.std.proofs.lemmas.Bool.{false≢true, not-true, not-false, leb-true, leb-false}
use Rattle.parts.specs.declared.Piece.{Piece}
use Rattle.parts.specs.Answers.{Passed}
use Rattle.agreement.specs.Known.{SlotsInside}
use Rattle.places.specs.Lies.{Complete, Lies, AtMost, SlotsLie}
use Rattle.places.specs.Slots.{one_more, SlotLies, inside_first, inside_rest, inside_more}

-- the answer is whether P is so
pub record Decides (P : Type 0) (b : Bool) : Type 0 where
  pub yes : b ≡ true → P
  pub no : b ≡ false → P → ⊥

pub decides_yes : {P : Type 0} → P → Decides P true
decides_yes p = record { yes = λ t. p; no = λ t. absurd (false≢true (sym t)) }

pub decides_no : {P : Type 0} → (P → ⊥) → Decides P false
decides_no n = record { yes = λ t. absurd (false≢true t); no = λ t. n }

-- Q is not so without P, which is not
pub without : {P Q : Type 0} {b : Bool} → (Q → P) → Decides P b → b ≡ false → Decides Q false
without f d t = decides_no (λ q. d.no t (f q))

-- the same in other words
decides_as : {P Q : Type 0} {b : Bool} → (P → Q) → (Q → P) → Decides P b → Decides Q b
decides_as f g d = record { yes = λ t. f (d.yes t); no = λ t q. d.no t (g q) }

-- of two things the first is not so, or all hangs on the second
pub record Both (P Q : Type 0) : Type 0 where
  pub one : P
  pub rest : Q

-- an end that was reached, and no other
pub complete_is : {e : Passed} {b : Bool} → b ≡ is_ok e → Decides (Complete e) b
complete_is {e} h = subst (Decides (Complete e)) (sym h) (by e)
  where
    by : (x : Passed) → Decides (Complete x) (is_ok x)
    by (Ok q) = decides_yes (Complete.at q)
    by (Err u) = decides_no elim [ ]

lies_in : {s : List ℕ} {p : Piece} → Lies s (Some p) → p.offset + p.length ≤ length s
lies_in (Lies.known a h) = h

lies_not : {s : List ℕ} → Lies s None → ⊥
lies_not = elim [ ]

most_is : {m n : ℕ} → AtMost m (Some n) → n ≤ m
most_is (AtMost.known n h) = h

most_not : {m : ℕ} → AtMost m None → ⊥
most_not = elim [ ]

module _ {s : List ℕ} {k : Option Piece} where
  pub piece_known : {p : Piece} {b : Bool} → k ≡ Some p → Decides (p.offset + p.length ≤ length s) b → Decides (Lies s k) b
  piece_known {p} {b} h = decides_as (λ l. subst (Lies s) (sym h) (Lies.known p l)) (λ y. lies_in (subst (Lies s) h y))

  pub piece_unknown : k ≡ None → Decides (Lies s k) false
  piece_unknown h = decides_no (λ y. lies_not (subst (Lies s) h y))

module _ {m : ℕ} {k : Option ℕ} where
  pub number_known : {n : ℕ} → k ≡ Some n → Decides (AtMost m k) (leb n m)
  number_known {n} h = by (leb n m) refl
    where
      by : (b : Bool) → leb n m ≡ b → Decides (AtMost m k) b
      by true t = decides_yes (subst (AtMost m) (sym h) (AtMost.known n (leb-true n m t)))
      by false t = decides_no (λ y. omega (arith, most_is (subst (AtMost m) h y), leb-false n m t))

  pub number_unknown : k ≡ None → Decides (AtMost m k) false
  number_unknown h = decides_no (λ y. most_not (subst (AtMost m) h y))

-- the slots before k lie in the input
pub record Checked (s : List ℕ) (slots : List ℕ) (count k : ℕ) : Type 0 where
  pub left : ℕ
  pub all : count ≡ k + left
  pub on : SlotsInside (length s) left (drop (k * 4) slots) → SlotsInside (length s) count slots
  pub back : SlotsInside (length s) count slots → SlotsInside (length s) left (drop (k * 4) slots)

pub few_slots : {s slots : List ℕ} {count : ℕ} → length slots / 4 < count → Decides (SlotsLie s count slots) false
few_slots {slots = slots} h = decides_no (λ y. omega (arith, h, y.room))

pub checked_none : {s slots : List ℕ} {count : ℕ} → Checked s slots count 0
checked_none {count = count} = record { left = count; all = omega arith; on = λ y. y; back = λ y. y }

module _ {s slots : List ℕ} {count k : ℕ} (c : Checked s slots count k) where
  first_lies : k < count → SlotsLie s count slots → SlotLies (length s) slots (k * 4)
  first_lies h y = let n = one_more c.left c.all h in inside_first slots k (length s) n.0 (subst (λ m. SlotsInside (length s) m (drop (k * 4) slots)) n.1 (c.back y.inside))

  pub slot_out : k < count → {b : Bool} → Decides (SlotLies (length s) slots (k * 4)) b → b ≡ false → Decides (SlotsLie s count slots) false
  slot_out h = without (first_lies h)

  pub checked_more : k < count → {b : Bool} → Decides (SlotLies (length s) slots (k * 4)) b → b ≡ true → Checked s slots count (k + 1)
  checked_more h x t =
      let n = one_more c.left c.all h in
      record {
        left = n.0;
        all = omega (arith, c.all, n.1);
        on = λ z. c.on (subst (λ m. SlotsInside (length s) m (drop (k * 4) slots)) (sym n.1) (inside_more slots k (length s) n.0 (x.yes t) z));
        back = λ z. inside_rest slots k (length s) n.0 (subst (λ m. SlotsInside (length s) m (drop (k * 4) slots)) n.1 (c.back z));
      }

  pub checked_all : count ≤ k → count ≤ length slots / 4 → Decides (SlotsLie s count slots) true
  checked_all h r =
      let z : c.left ≡ 0 = omega (arith, h, c.all) in
      decides_yes (record { room = omega (arith, r); inside = c.on (subst (λ m. SlotsInside (length s) m (drop (k * 4) slots)) (sym z) tt) })

pub ruleset checks = (not-true, not-false, complete_is, piece_known, piece_unknown, number_known, number_unknown, few_slots, checked_none, slot_out, checked_more, checked_all)
