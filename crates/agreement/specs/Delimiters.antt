-- The spaces between two parts of a start line are read exactly where the grammar has a delimiter: the first ends the part before them, and the others are a gap.
-- Assumes nothing.
use Rattle.std.specs.Prelude.{ℕ, ◌≡◌, refl, List, [], ◌∷◌, ◌++◌, Bool, true, false, eqb}
use Rattle.std.proofs.Common.{sym, ap, subst, eqb-true, ne_eqb}
use Rattle.std.proofs.Math.Bool.{and-false}
use Rattle.reader.specs.Tests.{both_true}
use Rattle.gaps.specs.Gap.{spaces_if}
use Rattle.grammar.specs.Rows.{Many, none, more}
use Rattle.grammar.specs.Message.{space, IsDelimiter}
use Rattle.grammar.specs.Message as grammar
use Rattle.leaves.specs.Rows.{In}
use Rattle.leaves.specs.Gap.{GapStops}

pub delimiter_derived : (several : Bool) {w : List ℕ} → Many (In (spaces_if several)) w → IsDelimiter several (space ++ w)
delimiter_derived several none = grammar.IsDelimiter.one
delimiter_derived several (more {b = b} {w = w} h k) =
    let t = both_true several (eqb b 32) h in
    subst (λ y. IsDelimiter several (0x20 ∷ y ∷ w)) (sym (eqb-true b 32 t.1)) (grammar.IsDelimiter.more t.0 (delimiter_derived several k))

-- the spaces behind the first
pub record Delimited (several : Bool) (d : List ℕ) : Type 0 where
  pub w : List ℕ
  pub whole : d ≡ space ++ w
  pub all : Many (In (spaces_if several)) w

allowed_space : (several : Bool) → several ≡ true → In (spaces_if several) 0x20
allowed_space several e = rw e

pub delimiter_read : (several : Bool) {d : List ℕ} → IsDelimiter several d → Delimited several d
delimiter_read several grammar.IsDelimiter.one = record { w = []; whole = refl; all = none }
delimiter_read several (grammar.IsDelimiter.more h k) =
    let D = delimiter_read several k in
    record { w = 0x20 ∷ D.w; whole = ap (λ y. 0x20 ∷ y) D.whole; all = more (allowed_space several h) D.all }

-- a byte that is no space ends them
pub gap_stops : (several : Bool) (b : ℕ) (ys : List ℕ) → (b ≡ 32 → ⊥) → GapStops (spaces_if several) (b ∷ ys)
gap_stops several b ys h = record { b = b; ys = ys; whole = refl; stops = rw (ne_eqb b 32 h) (and-false several) }

-- and where several are no delimiter any byte does
pub gap_left : (several : Bool) (b : ℕ) (ys : List ℕ) → (several ≡ true → b ≡ 32 → ⊥) → GapStops (spaces_if several) (b ∷ ys)
gap_left true b ys h = gap_stops true b ys (h refl)
gap_left false b ys h = record { b = b; ys = ys; whole = refl; stops = refl }
