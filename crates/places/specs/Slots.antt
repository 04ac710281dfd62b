-- A header in the slots, and the headers behind it.
-- Assumes nothing.
use Rattle.std.specs.Prelude.{ℕ, zero, suc, ◌+◌, ◌*◌, ◌≤◌, ◌<◌, ◌≡◌, refl, List, ◌∷◌, take, drop, get_or}
use Rattle.std.proofs.Common.{arith, sym, ap, subst, ◌∙◌, get_or-drop, drop-drop}
use Rattle.grammar.specs.Fields.{Field}
use Rattle.fields.specs.declared.Header.{Header}
use Rattle.agreement.specs.Known.{fields_in, SlotsInside}

-- of count headers there is one from k on
pub one_more : (left : ℕ) {count k : ℕ} → count ≡ k + left → k < count → (n : ℕ) × (left ≡ suc n)
one_more zero e h = absurd (omega (arith, h, e))
one_more (suc n) e h = (n, refl)

-- the header of the four numbers from i on
abbrev pub field_at : List ℕ → List ℕ → ℕ → Field
field_at s slots i = record { name = take (get_or slots (i + 1) 0) (drop (get_or slots i 0) s); value = take (get_or slots (i + 3) 0) (drop (get_or slots (i + 2) 0) s) }

-- its places
abbrev pub header_at : List ℕ → ℕ → Header
header_at slots i = record { name = record { offset = get_or slots i 0; length = get_or slots (i + 1) 0 }; value = record { offset = get_or slots (i + 2) 0; length = get_or slots (i + 3) 0 } }

-- they end within the first e bytes
pub record SlotLies (e : ℕ) (slots : List ℕ) (i : ℕ) : Type 0 where
  pub name : get_or slots i 0 + get_or slots (i + 1) 0 ≤ e
  pub value : get_or slots (i + 2) 0 + get_or slots (i + 3) 0 ≤ e

module _ (slots : List ℕ) (k : ℕ) where
  number : (j : ℕ) → get_or (drop (k * 4) slots) j 0 ≡ get_or slots (k * 4 + j) 0
  number j = get_or-drop (k * 4) slots j 0

  first : get_or (drop (k * 4) slots) 0 0 ≡ get_or slots (k * 4) 0
  first = let e : k * 4 + 0 ≡ k * 4 = omega arith in number 0 ∙ ap (λ y. get_or slots y 0) e

  behind : drop 4 (drop (k * 4) slots) ≡ drop ((k + 1) * 4) slots
  behind = let e : k * 4 + 4 ≡ (k + 1) * 4 = omega arith in drop-drop 4 (k * 4) slots ∙ ap (λ y. drop y slots) e

  pub fields_from : (s : List ℕ) (n : ℕ) → fields_in s (suc n) (drop (k * 4) slots) ≡ field_at s slots (k * 4) ∷ fields_in s n (drop ((k + 1) * 4) slots)
  fields_from s n = rw (first, number 1, number 2, number 3, behind)

  pub inside_first : (e n : ℕ) → SlotsInside e (suc n) (drop (k * 4) slots) → SlotLies e slots (k * 4)
  inside_first e n h = record { name = omega (arith, h.0, first, number 1); value = omega (arith, h.1, number 2, number 3) }

  pub inside_rest : (e n : ℕ) → SlotsInside e (suc n) (drop (k * 4) slots) → SlotsInside e n (drop ((k + 1) * 4) slots)
  inside_rest e n h = subst (SlotsInside e n) behind h.2

  pub inside_more : (e n : ℕ) → SlotLies e slots (k * 4) → SlotsInside e n (drop ((k + 1) * 4) slots) → SlotsInside e (suc n) (drop (k * 4) slots)
  inside_more e n h i = (omega (arith, h.name, first, number 1), omega (arith, h.value, number 2, number 3), subst (SlotsInside e n) (sym behind) i)
