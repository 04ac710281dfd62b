-- A value with the blanks around it is read exactly where the grammar has OWS field-value OWS, and its piece holds the value.
-- Assumes nothing.
use Rattle.std.specs.Prelude.{ℕ, ◌+◌, ◌≤◌, ◌≡◌, refl, ◌⊎◌, List, [], ◌∷◌, ◌++◌, Bool, true, false, ◌||◌, length}
use Rattle.std.proofs.Common.{arith, sym, ap, subst, ◌∙◌, inl, inr, append_assoc, append-nil, ne_eqb}
use Rattle.std.proofs.lemmas.Bool.{false≢true}
use Rattle.octets.specs.Grammar.{IsFieldVchar, visible, obsolete, IsText}
use Rattle.octets.specs.Class.{among, is_blank, is_target, is_value}
use Rattle.octets.proofs.Ties.{target_is_field_vchar, value_is_text}
use Rattle.grammar.specs.Rows.{none, more, some}
use Rattle.grammar.specs.Fields.{OWS, IsFieldContent, IsFieldValue}
use Rattle.grammar.specs.Fields as fields
use Rattle.parts.specs.declared.Piece.{Piece}
use Rattle.parts.specs.Answers.{piece}
use Rattle.leaves.specs.Value.{Solid, Core, one, two, Stop, Valued, empty, full}
use Rattle.agreement.specs.Places.{held, At, at_first, at_second, held_at, held_none}
use Rattle.agreement.specs.Rows.{many_append, blanks, in_blank, texts, in_value}

-- a byte of a value that is no blank is a field-vchar
no_blank : (t u : Bool) → (t || u) ≡ true → t ≡ false → u ≡ true
no_blank true u e h = absurd (false≢true (sym h))
no_blank false u e h = e

pub solid_is : {b : ℕ} → Solid b → IsFieldVchar b
unfolding is_value
solid_is {b} s = (target_is_field_vchar b).0 (no_blank (is_blank b) (is_target b) s.value s.solid)

above_blank : (b : ℕ) → 0x21 ≤ b → is_blank b ≡ false
unfolding is_blank among
above_blank b h = rw (ne_eqb 0x20 b (λ e. omega (arith, e)), ne_eqb 0x09 b (λ e. omega (arith, e)))

pub vchar_above : {b : ℕ} → IsFieldVchar b → 0x21 ≤ b
vchar_above (visible h) = h.low
vchar_above (obsolete h) = omega (arith, h.low)

pub is_solid : {b : ℕ} → IsFieldVchar b → Solid b
is_solid {b} h = record { value = (value_is_text b).1 (IsText.field h); solid = above_blank b (vchar_above h) }

-- one solid row behind another is one
core_append : {v w : List ℕ} → Core v → Core w → Core (v ++ w)
core_append (one a) (one b) = two a none b
core_append (one a) (two b m c) = two a (more b.value m) c
core_append (two a m b) (one c) = two a (many_append m (more b.value none)) c
core_append (two {b = a₁} {c = b₁} {m = m₁} a m b) (two {b = c₁} {c = d₁} {m = k₁} c k d) =
    subst Core (ap (λ y. a₁ ∷ y) (append_assoc (m₁ ++ (b₁ ∷ [])) (c₁ ∷ k₁) (d₁ ∷ []))) (two a (many_append (many_append m (more b.value none)) (more c.value k)) d)

content_core : {w : List ℕ} → IsFieldContent w → Core w
content_core (fields.one h) = one (is_solid h)
content_core (fields.IsFieldContent.more h (some x k) l) = two (is_solid h) (in_value (more x k)) (is_solid l)

pub value_core : {v : List ℕ} → IsFieldValue v → (v ≡ []) ⊎ Core v
value_core fields.none = inl refl
value_core (fields.IsFieldValue.more {v = v} {w = w} c k) = joined (value_core k)
  where
    joined : (w ≡ []) ⊎ Core w → (v ++ w ≡ []) ⊎ Core (v ++ w)
    joined (inl e) = inr (subst Core (sym (ap (λ y. v ++ y) e ∙ append-nil v)) (content_core c))
    joined (inr d) = inr (core_append (content_core c) d)

pub core_value : {v : List ℕ} → Core v → IsFieldValue v
core_value (one h) = fields.IsFieldValue.more (fields.one (solid_is h)) fields.none
core_value (two h none l) = fields.IsFieldValue.more (fields.one (solid_is h)) (fields.IsFieldValue.more (fields.one (solid_is l)) fields.none)
core_value (two {b = b} {c = c} h (more {b = x} {w = m} i k) l) =
    subst IsFieldValue (append-nil ((b ∷ x ∷ m) ++ (c ∷ []))) (fields.IsFieldValue.more (fields.IsFieldContent.more (solid_is h) (some ((value_is_text x).0 i) (texts k)) (solid_is l)) fields.none)

-- the grammar's words for the bytes of a value and the blanks around it
pub record Spaced (z w : List ℕ) (a : Piece) : Type 0 where
  pub o : List ℕ
  pub v : List ℕ
  pub t : List ℕ
  pub whole : w ≡ o ++ v ++ t
  pub left : OWS o
  pub value : IsFieldValue v
  pub right : OWS t
  pub holds : held z a ≡ v

pub value_derived : {z : List ℕ} {p : ℕ} {w rest : List ℕ} {a : Piece} → At z p w rest → Valued p w a rest → Spaced z w a
value_derived {z} {p} h (empty {o = o} k s) = record { o = o; v = []; t = []; whole = sym (append-nil (o ++ []) ∙ append-nil o); left = blanks k; value = fields.none; right = none; holds = held_none z (p + length o) }
value_derived h (full {o = o} {v = v} {t = t} k c u s) = record { o = o; v = v; t = t; whole = refl; left = blanks k; value = core_value c; right = blanks u; holds = held_at (at_second o v (at_first (o ++ v) t h)) }

-- the piece that is given for it
pub record Given (z : List ℕ) (p : ℕ) (w v rest : List ℕ) : Type 0 where
  pub a : Piece
  pub reads : Valued p w a rest
  pub holds : held z a ≡ v

pub value_read : {z : List ℕ} {p : ℕ} {o v t rest : List ℕ} → At z p (o ++ v ++ t) rest → OWS o → IsFieldValue v → OWS t → Stop rest → Given z p (o ++ v ++ t) v rest
value_read {z} {p} {o} {v} {t} {rest} h l k u s = by (value_core k)
  where
    by : (v ≡ []) ⊎ Core v → Given z p (o ++ v ++ t) v rest
    by (inl e) =
        let n : o ++ v ++ t ≡ o ++ t = ap (λ y. y ++ t) (ap (λ y. o ++ y) e ∙ append-nil o) in
        record { a = piece (p + length (o ++ t)) (p + length (o ++ t)); reads = subst (λ y. Valued p y (piece (p + length (o ++ t)) (p + length (o ++ t))) rest) (sym n) (empty (many_append (in_blank l) (in_blank u)) s); holds = held_none z (p + length (o ++ t)) ∙ sym e }
    by (inr c) = record { a = piece (p + length o) (p + length o + length v); reads = full (in_blank l) c (in_blank u) s; holds = held_at (at_second o v (at_first (o ++ v) t h)) }
