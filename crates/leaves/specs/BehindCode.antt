-- Behind a code a space is read, or nothing where the line's end follows and the rules allow it.
-- Assumes nothing.
use Rattle.std.specs.Prelude.{ℕ, ◌+◌, ◌≡◌, refl, List, [], ◌∷◌, ◌++◌, true, ◌&&◌, eqb, length}
use Rattle.std.proofs.Common.{arith, sym, ap, eqb-true}
use Rattle.reader.specs.Machine.{Move, gave, after, run}
use Rattle.reader.specs.Tests.{split, both_true, never}
use Rattle.exact.specs.Exact.{Part, Exact}
use Rattle.parts.specs.declared.Fault.{Fault}
use Rattle.rules.specs.Rules.{Rules}
use Rattle.spaces.specs.Space.{behind_code_step}

pub data Behind (r : Rules) (p : ℕ) : List ℕ → Unit {0} → List ℕ → Type 0 where
  space : {rest : List ℕ} → Behind r p (32 ∷ []) tt rest
  cr : {ys : List ℕ} → r.code_ends_line ≡ true → Behind r p [] tt (13 ∷ ys)
  lf : {ys : List ℕ} → r.code_ends_line ≡ true → r.lf_alone ≡ true → Behind r p [] tt (10 ∷ ys)

module _ (r : Rules) where
  sound_behind : (p : ℕ) (xs : List ℕ) (a : Unit {0}) (q : ℕ) → run (behind_code_step r) tt p xs ≡ gave a q → Part (Behind r) p xs a q
  sound_behind p [] a q = λ e. never cc
  sound_behind p (b ∷ bs) a q =
      let P : Move (Unit {0}) (Unit {0}) Fault → Type 0 = λ u. after u p (λ s. run (behind_code_step r) s (p + 1) bs) ≡ gave a q → Part (Behind r) p (b ∷ bs) a q in
      split P (eqb b 32)
      (λ t e. let j : p + 1 ≡ q = cc in record { w = 32 ∷ []; rest = bs; whole = ap (λ y. y ∷ bs) (eqb-true b 32 t); place = sym j; holds = space })
      (λ _. split P (r.code_ends_line && eqb b 13)
      (λ t e. let k = both_true r.code_ends_line (eqb b 13) t in let j : p ≡ q = cc in record { w = []; rest = 13 ∷ bs; whole = ap (λ y. y ∷ bs) (eqb-true b 13 k.1); place = omega arith; holds = cr k.0 })
      (λ _. split P (r.code_ends_line && r.lf_alone && eqb b 10)
      (λ t e.
      let k = both_true (r.code_ends_line && r.lf_alone) (eqb b 10) t in
      let l = both_true r.code_ends_line r.lf_alone k.0 in
      let j : p ≡ q = cc in record { w = []; rest = 10 ∷ bs; whole = ap (λ y. y ∷ bs) (eqb-true b 10 k.1); place = omega arith; holds = lf l.0 l.1 })
      (λ t e. never cc)))

  complete_behind : (p : ℕ) (w rest : List ℕ) (a : Unit {0}) → Behind r p w a rest → run (behind_code_step r) tt p (w ++ rest) ≡ gave a (p + length w)
  complete_behind p w rest a space = refl
  complete_behind p w rest a (cr h) = let l : p ≡ p + 0 = omega arith in rw h (ap (gave tt) l)
  complete_behind p w rest a (lf h k) = let l : p ≡ p + 0 = omega arith in rw (h, k) (ap (gave tt) l)

  pub exact_behind : Exact (behind_code_step r) tt (Behind r)
  exact_behind = record { sound = sound_behind; complete = complete_behind }
