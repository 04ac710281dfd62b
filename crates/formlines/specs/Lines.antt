-- The parts of a plain form, put one behind another.
-- Assumes nothing.
use Rattle.std.specs.Prelude.{ℕ, suc, ◌+◌, ◌*◌, ◌≤◌, ◌<◌, ◌≡◌, refl, List, [], ◌++◌, length, drop}
use Rattle.std.proofs.Common.{arith, sym, ap, subst, ◌∙◌, append_assoc}
use Rattle.grammar.specs.Message.{CRLF}
use Rattle.grammar.specs.Fields.{Field}
use Rattle.fields.specs.declared.Header.{Header}
use Rattle.agreement.specs.Places.{held}
use Rattle.agreement.specs.Known.{fields_in, SlotsInside}
use Rattle.plain.specs.Plain.{plain_field, plain_fields}
use Rattle.output.specs.Put.{Adds, adds_nothing, adds_then}
use Rattle.places.specs.Lies.{SlotsLie}
use Rattle.places.specs.Slots.{one_more, header_at, field_at, SlotLies, fields_from, inside_first, inside_rest}

-- the places of a header lie in the input
pub record HeaderLies (s : List ℕ) (header : Header) : Type 0 where
  pub name : header.name.offset + header.name.length ≤ length s
  pub value : header.value.offset + header.value.length ≤ length s

-- its name and its value
abbrev pub field_of : List ℕ → Header → Field
field_of s header = record { name = held s header.name; value = held s header.value }

-- the headers before k are put
pub record Lined (s slots : List ℕ) (count at : ℕ) (before : List ℕ) (k next : ℕ) (after : List ℕ) : Type 0 where
  pub lines : List ℕ
  pub left : ℕ
  pub put : Adds lines at before next after
  pub all : count ≡ k + left
  pub inside : SlotsInside (length s) left (drop (k * 4) slots)
  pub rest : plain_fields (fields_in s count slots) ≡ lines ++ plain_fields (fields_in s left (drop (k * 4) slots))

pub lined_none : {s slots : List ℕ} {count at : ℕ} {before : List ℕ} → SlotsLie s count slots → Lined s slots count at before 0 at before
lined_none {count = count} l = record { lines = []; left = count; put = adds_nothing; all = omega arith; inside = l.inside; rest = refl }

module _ {s slots : List ℕ} {count at : ℕ} {before : List ℕ} {k next : ℕ} {after : List ℕ} (c : Lined s slots count at before k next after) where
  module _ {header : Header} (e : header ≡ header_at slots (k * 4)) (h : k < count) where
    pub lined_header : HeaderLies s header
    lined_header =
        let n = one_more c.left c.all h in
        let L : SlotLies (length s) slots (k * 4) = inside_first slots k (length s) n.0 (subst (λ m. SlotsInside (length s) m (drop (k * 4) slots)) n.1 c.inside) in
        subst (HeaderLies s) (sym e) (record { name = L.name; value = L.value })

    pub lined_more : {end : ℕ} {new : List ℕ} → Adds (plain_field (field_of s header)) next after end new → Lined s slots count at before (k + 1) end new
    lined_more {end} {new} a =
        let n = one_more c.left c.all h in
        let i : SlotsInside (length s) (suc n.0) (drop (k * 4) slots) = subst (λ m. SlotsInside (length s) m (drop (k * 4) slots)) n.1 c.inside in
        record {
          lines = c.lines ++ plain_field (field_at s slots (k * 4));
          left = n.0;
          put = adds_then c.put (subst (λ y. Adds (plain_field (field_of s y)) next after end new) e a);
          all = omega (arith, c.all, n.1);
          inside = inside_rest slots k (length s) n.0 i;
          rest =
              c.rest ∙ ap (λ m. c.lines ++ plain_fields (fields_in s m (drop (k * 4) slots))) n.1 ∙ ap (λ y. c.lines ++ plain_fields y) (fields_from slots k s n.0)
              ∙ sym (append_assoc c.lines (plain_field (field_at s slots (k * 4))) (plain_fields (fields_in s n.0 (drop ((k + 1) * 4) slots))));
        }

  pub lined_all : count ≤ k → {end : ℕ} {new : List ℕ} → Adds CRLF next after end new → Adds (plain_fields (fields_in s count slots)) at before end new
  lined_all h {end} {new} a =
      let z : c.left ≡ 0 = omega (arith, h, c.all) in
      subst (λ y. Adds y at before end new) (sym (c.rest ∙ ap (λ m. c.lines ++ plain_fields (fields_in s m (drop (k * 4) slots))) z)) (adds_then c.put a)

pub ruleset lined = (lined_none, lined_header, lined_more, lined_all)
