-- A gap is read exactly where bytes of its class stand, up to one that is not of it.
-- Assumes nothing.
use Rattle.std.specs.Prelude.{ℕ, suc, ◌+◌, ◌≡◌, refl, List, [], ◌∷◌, ◌++◌, Bool, false, length, drop}
use Rattle.std.proofs.Common.{arith, ap, subst, ◌∙◌}
use Rattle.reader.specs.Machine.{Step, gave, after, run}
use Rattle.reader.specs.Seq.{first}
use Rattle.reader.specs.Skip.{Skipped}
use Rattle.reader.specs.Tests.{split, never}
use Rattle.exact.specs.Exact.{Relation, Part, Exact}
use Rattle.exact.specs.Seq.{Both}
use Rattle.exact.proofs.Seq.{exact_seq}
use Rattle.gaps.specs.Gap.{gap_step, behind_gap, gap_length}
use Rattle.gaps.proofs.Gap.{end_skipped}
use Rattle.grammar.specs.Rows.{Many, none, more}
use Rattle.leaves.specs.Rows.{In, over}

-- the byte that ends a row of a class
pub record GapStops (class : ℕ → Bool) (rest : List ℕ) : Type 0 where
  pub b : ℕ
  pub ys : List ℕ
  pub whole : rest ≡ b ∷ ys
  pub stops : class b ≡ false

pub record Gapped (class : ℕ → Bool) (p : ℕ) (w : List ℕ) (a : Unit {0}) (rest : List ℕ) : Type 0 where
  pub all : Many (In class) w
  pub stops : GapStops class rest

module _ {F : Type 0} (class : ℕ → Bool) where
  sound_gap : (xs : List ℕ) (p : ℕ) (a : Unit {0}) (q : ℕ) → run (gap_step {F = F} class) tt p xs ≡ gave a q → Part (Gapped class) p xs a q
  sound_gap [] p a q = λ e. never cc
  sound_gap (b ∷ bs) p a q =
      let ih = sound_gap bs (p + 1) a q in
      split (λ u. after u p (λ s. run (gap_step {F = F} class) s (p + 1) bs) ≡ gave a q → Part (Gapped class) p (b ∷ bs) a q) (class b)
      (λ t e. let P = ih e in record { w = b ∷ P.w; rest = P.rest; whole = ap (λ y. b ∷ y) P.whole; place = omega (arith, P.place); holds = record { all = more t P.holds.all; stops = P.holds.stops } })
      (λ t e. let j : p ≡ q = cc in record { w = []; rest = b ∷ bs; whole = refl; place = omega arith; holds = record { all = none; stops = record { b = b; ys = bs; whole = refl; stops = t } } })

  complete_gap : (p : ℕ) (w rest : List ℕ) (a : Unit {0}) → Gapped class p w a rest → run (gap_step {F = F} class) tt p (w ++ rest) ≡ gave a (p + length w)
  complete_gap p w rest a K = over (gap_step class) tt (λ b h q. rw h) K.all p rest ∙ rw (K.stops.whole, K.stops.stops)

  pub exact_gap : Exact (gap_step {F = F} class) tt (Gapped class)
  exact_gap = record { sound = λ p xs. sound_gap xs p; complete = complete_gap }

-- a machine behind a gap
abbrev pub BehindGap : {A : Type 0} → (ℕ → Bool) → Relation A → Relation A
BehindGap class G = Both (Gapped class) (λ _. G)

pub exact_behind_gap : {S A F : Type 0} (class : ℕ → Bool) (m : Step S A F) (s : S) {G : Relation A} → Exact m s G → Exact (behind_gap class m s) (first tt) (BehindGap class G)
exact_behind_gap class m s M = exact_seq (gap_step class) (λ _. s) (λ _. m) tt (exact_gap class) (λ _. M)

-- a row of the class up to a byte that is not of it is where a skip ends
row_length : {class : ℕ → Bool} {w rest : List ℕ} → Many (In class) w → GapStops class rest → gap_length class (w ++ rest) ≡ length w
row_length none s = rw (s.whole, s.stops)
row_length (more h k) s = rw h (ap suc (row_length k s))

pub row_skipped : {class : ℕ → Bool} (z : List ℕ) (at : ℕ) {w rest : List ℕ} → drop at z ≡ w ++ rest → Many (In class) w → GapStops class rest → Skipped class z at (at + length w)
row_skipped {class} z at e k s = subst (λ n. Skipped class z at (at + n)) (ap (gap_length class) e ∙ row_length k s) (end_skipped class z at)
