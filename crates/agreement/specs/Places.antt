-- What stands at a place of the input.
-- Assumes nothing.
use Rattle.std.specs.Prelude.{ℕ, ◌+◌, ◌-◌, ◌≤◌, ◌≡◌, refl, List, [], ◌++◌, length, take, drop}
use Rattle.std.proofs.Common.{arith, sym, ap, ◌∙◌, append_assoc, length-append, take-append-drop, take_at, drop_at, length-take-le}
use Rattle.parts.specs.declared.Piece.{Piece}
use Rattle.parts.specs.Answers.{piece}

-- the bytes of a piece
abbrev pub held : List ℕ → Piece → List ℕ
held z a = take a.length (drop a.offset z)

-- the bytes w stand in z from p on, and rest behind them
pub record At (z : List ℕ) (p : ℕ) (w rest : List ℕ) : Type 0 where
  pub before : List ℕ
  pub whole : z ≡ before ++ (w ++ rest)
  pub place : length before ≡ p

pub at_start : (w rest : List ℕ) → At (w ++ rest) 0 w rest
at_start w rest = record { before = []; whole = refl; place = refl }

-- what follows a place in the input stands there
pub at_drop : (z : List ℕ) (p : ℕ) (w rest : List ℕ) → drop p z ≡ w ++ rest → p ≤ length z → At z p w rest
at_drop z p w rest e l = record { before = take p z; whole = sym (take-append-drop p z) ∙ ap (λ y. take p z ++ y) e; place = length-take-le p z l }

pub at_as : {z : List ℕ} {p : ℕ} {v w rest : List ℕ} → v ≡ w → At z p v rest → At z p w rest
at_as {rest = rest} e h = record { before = h.before; whole = h.whole ∙ ap (λ y. h.before ++ (y ++ rest)) e; place = h.place }

-- the first of two parts, and the second
module _ {z : List ℕ} {p : ℕ} (v w : List ℕ) {rest : List ℕ} (h : At z p (v ++ w) rest) where
  pub at_first : At z p v (w ++ rest)
  at_first = record { before = h.before; whole = h.whole ∙ ap (λ y. h.before ++ y) (append_assoc v w rest); place = h.place }

  pub at_second : At z (p + length v) w rest
  at_second = record {
    before = h.before ++ v;
    whole = h.whole ∙ ap (λ y. h.before ++ y) (append_assoc v w rest) ∙ sym (append_assoc h.before v (w ++ rest));
    place = length-append h.before v ∙ ap (λ y. y + length v) h.place;
  }

-- what follows the place p
pub from_at : {z : List ℕ} {p : ℕ} {w rest : List ℕ} → At z p w rest → drop p z ≡ w ++ rest
from_at {p = p} {w = w} {rest = rest} h = ap (drop p) h.whole ∙ drop_at h.before (w ++ rest) p h.place

-- the piece from p to behind w holds w
pub held_at : {z : List ℕ} {p : ℕ} {w rest : List ℕ} → At z p w rest → held z (piece p (p + length w)) ≡ w
held_at {z} {p = p} {w = w} {rest = rest} h =
    let n : p + length w - p ≡ length w = omega arith in
    ap (λ y. take y (drop p z)) n ∙ ap (take (length w)) (from_at h) ∙ take_at w rest (length w) refl

-- a piece of no length holds nothing
pub held_none : (z : List ℕ) (p : ℕ) → held z (piece p p) ≡ []
held_none z p = let n : p - p ≡ 0 = omega arith in ap (λ y. take y (drop p z)) n
