-- Whether the values of headers that lie in the input stand on one line each.
-- Assumes nothing.
use Rattle.std.specs.Prelude.{ℕ, suc, ◌+◌, ◌-◌, ◌*◌, ◌≤◌, ◌<◌, ◌≡◌, refl, List, [], ◌∷◌, Bool, true, false, ◌||◌, not, eqb, length, take, drop}
use Rattle.std.specs.List.{list_any}
use Rattle.std.proofs.Common.{arith, sym, ap, subst, ◌∙◌}
use Rattle.std.proofs.Math.Path.{transport}
use Rattle.std.proofs.lemmas.Bool.{not-true, not-false, eqb-true, eqb-false}
use Rattle.grammar.specs.Rows.{none, more}
use Rattle.parts.specs.declared.Piece.{Piece}
use Rattle.fields.specs.declared.Header.{Header}
use Rattle.plain.specs.Plain.{one_line, OneLine}
use Rattle.agreement.specs.Places.{held}
use Rattle.agreement.specs.Known.{fields_in, SlotsInside}
use Rattle.places.specs.Lies.{SlotsLie}
use Rattle.places.specs.Slots.{one_more, header_at, field_at, SlotLies, fields_from, inside_first, inside_rest}
use Rattle.places.specs.Checks.{Decides, decides_yes, decides_no, without}

parts : {b : ℕ} {v : List ℕ} → one_line (b ∷ v) → (b ≡ 0x0A → ⊥) × one_line v
parts (more x m) = (x, m)

-- a value stands on one line where no byte of it ends a line
line_any : (v : List ℕ) → Decides (one_line v) (not (list_any (λ b. eqb b 10) v))
line_any [] = decides_yes none
line_any (b ∷ v) = by (line_any v) (eqb b 10) refl
  where
    by : Decides (one_line v) (not (list_any (λ b. eqb b 10) v)) → (t : Bool) → eqb b 10 ≡ t → Decides (one_line (b ∷ v)) (not (t || list_any (λ b. eqb b 10) v))
    by d true e = decides_no (λ m. (parts m).0 (eqb-true b 10 e))
    by d false e = record { yes = λ t. more (eqb-false b 10 e) (d.yes t); no = λ t m. d.no t (parts m).1 }

pub line_decided : (s : List ℕ) (p : Piece) {t : Bool} → t ≡ list_any (λ b. eqb b 10) (take (p.offset + p.length - p.offset) (drop p.offset s)) → Decides (one_line (held s p)) (not t)
line_decided s p e =
    let n : p.offset + p.length - p.offset ≡ p.length = omega arith in
    rw (e, n) (line_any (held s p))

-- the values of the slots before k stand on one line each
pub record LinesSoFar (s slots : List ℕ) (count k : ℕ) : Type 0 where
  pub lies : SlotsLie s count slots
  pub left : ℕ
  pub all : count ≡ k + left
  pub inside : SlotsInside (length s) left (drop (k * 4) slots)
  pub on : OneLine (fields_in s left (drop (k * 4) slots)) → OneLine (fields_in s count slots)
  pub back : OneLine (fields_in s count slots) → OneLine (fields_in s left (drop (k * 4) slots))

module _ {s slots : List ℕ} {count : ℕ} where
  pub lines_none : SlotsLie s count slots → LinesSoFar s slots count 0
  lines_none h = record { lies = h; left = count; all = omega arith; inside = h.inside; on = λ y. y; back = λ y. y }

  module _ {k : ℕ} (c : LinesSoFar s slots count k) (h : k < count) where
    from : (n : ℕ) → c.left ≡ suc n → OneLine (fields_in s c.left (drop (k * 4) slots)) ≡ OneLine (field_at s slots (k * 4) ∷ fields_in s n (drop ((k + 1) * 4) slots))
    from n e = ap (λ y. OneLine (fields_in s y (drop (k * 4) slots))) e ∙ ap OneLine (fields_from slots k s n)

    module _ {x : Header} (e : x ≡ header_at slots (k * 4)) where
      pub value_there : x.value.offset + x.value.length ≤ length s
      value_there =
          let n = one_more c.left c.all h in
          let L : SlotLies (length s) slots (k * 4) = inside_first slots k (length s) n.0 (subst (λ m. SlotsInside (length s) m (drop (k * 4) slots)) n.1 c.inside) in
          subst (λ y. y.value.offset + y.value.length ≤ length s) (sym e) L.value

      module _ {b : Bool} (d : Decides (one_line (held s x.value)) b) where
        line : Decides (one_line (held s (header_at slots (k * 4)).value)) b
        line = subst (λ y. Decides (one_line (held s y.value)) b) e d

        pub lines_broken : b ≡ false → Decides (OneLine (fields_in s count slots)) false
        lines_broken = let n = one_more c.left c.all h in without (λ y. (transport (from n.0 n.1) (c.back y)).0) line

        pub lines_more : b ≡ true → LinesSoFar s slots count (k + 1)
        lines_more t =
            let n = one_more c.left c.all h in
            record {
              lies = c.lies;
              left = n.0;
              all = omega (arith, c.all, n.1);
              inside = inside_rest slots k (length s) n.0 (subst (λ m. SlotsInside (length s) m (drop (k * 4) slots)) n.1 c.inside);
              on = λ z. c.on (transport (sym (from n.0 n.1)) (line.yes t, z));
              back = λ z. (transport (from n.0 n.1) (c.back z)).1;
            }

  pub lines_all : {k : ℕ} (c : LinesSoFar s slots count k) → count ≤ k → Decides (OneLine (fields_in s count slots)) true
  lines_all {k} c h = let z : c.left ≡ 0 = omega (arith, h, c.all) in decides_yes (c.on (subst (λ m. OneLine (fields_in s m (drop (k * 4) slots))) (sym z) tt))

pub ruleset lines = (not-true, not-false, line_decided, lines_none, value_there, lines_broken, lines_more, lines_all)
