-- Empty lines are read exactly as far as they go: what follows them begins none.
-- Assumes nothing.
use Rattle.std.specs.Prelude.{ℕ, suc, ◌+◌, ◌≡◌, refl, List, [], ◌∷◌, ◌++◌, Bool, true, false, ◌&&◌, cond, eqb, length}
use Rattle.std.proofs.Common.{arith, sym, ap, ◌∙◌, append_assoc, length-append, eqb-true}
use Rattle.reader.specs.Machine.{Move, keep, before, gave, after, run}
use Rattle.reader.specs.Tests.{split, both_true, never}
use Rattle.exact.specs.Exact.{Part, Exact}
use Rattle.parts.specs.declared.Fault.{Fault}
use Rattle.rules.specs.Rules.{Rules}
use Rattle.grammar.specs.Message.{IsLineEnd, crlf, lf, IsEmptyLines, none, more}
use Rattle.parts.specs.EmptyLines.{EmptyLines, start, cr, empty_lines_step}

-- a byte that begins no empty line
pub record Stops (r : Rules) (rest : List ℕ) : Type 0 where
  pub b : ℕ
  pub ys : List ℕ
  pub whole : rest ≡ b ∷ ys
  pub no_cr : (r.empty_lines && eqb b 13) ≡ false
  pub no_lf : (r.empty_lines && r.lf_alone && eqb b 10) ≡ false

pub record EmptiesAt (r : Rules) (p : ℕ) (w : List ℕ) (a : Unit {0}) (rest : List ℕ) : Type 0 where
  pub lines : IsEmptyLines r w
  pub stops : Stops r rest

-- a line end at the start of a line, with the rules' fields as variables: to rewrite by one of them would rewrite the record
passes_cr : (t u : Bool) → t ≡ true → ◌≡◌ {A = Move EmptyLines (Unit {0}) Fault} (cond (t && true) (keep cr) (cond (t && u && false) (keep start) (before tt))) (keep cr)
passes_cr t u h = rw h

passes_lf : (t u : Bool) → t ≡ true → u ≡ true → ◌≡◌ {A = Move EmptyLines (Unit {0}) Fault} (cond (t && false) (keep cr) (cond (t && u && true) (keep start) (before tt))) (keep start)
passes_lf t u h g = rw (h, g)

module _ (r : Rules) where
  -- what is read from a state on
  abbrev Left : EmptyLines → ℕ → List ℕ → ℕ → Type 0
  Left start p xs q = Part (EmptiesAt r) p xs tt q
  Left cr p xs q = (ys : List ℕ) × (xs ≡ 10 ∷ ys) × Part (EmptiesAt r) (p + 1) ys tt q

  one_more : (p q : ℕ) (e xs ys : List ℕ) → r.empty_lines ≡ true → IsLineEnd r e → xs ≡ e ++ ys → Part (EmptiesAt r) (p + length e) ys tt q → Part (EmptiesAt r) p xs tt q
  one_more p q e xs ys h k g P = record {
    w = e ++ P.w;
    rest = P.rest;
    whole = g ∙ ap (λ y. e ++ y) P.whole ∙ sym (append_assoc e P.w P.rest);
    place = omega (arith, P.place, length-append e P.w);
    holds = record { lines = more h k P.holds.lines; stops = P.holds.stops };
  }

  module _ (b : ℕ) (bs : List ℕ) (p q : ℕ) (ih : (s : EmptyLines) → run (empty_lines_step r) s (p + 1) bs ≡ gave tt q → Left s (p + 1) bs q) where
    abbrev Goes : EmptyLines → Move EmptyLines (Unit {0}) Fault → Type 0
    Goes s u = after u p (λ s'. run (empty_lines_step r) s' (p + 1) bs) ≡ gave tt q → Left s p (b ∷ bs) q

    from_cr : Goes cr (empty_lines_step r cr p b)
    from_cr =
        split (Goes cr) (eqb b 10) (λ t e. (bs, ap (λ y. y ∷ bs) (eqb-true b 10 t), ih start e))
        (λ t e. never cc)

    behind_cr : r.empty_lines ≡ true → eqb b 13 ≡ true → Left cr (p + 1) bs q → Part (EmptiesAt r) p (b ∷ bs) tt q
    behind_cr h t k =
        let n : p + 1 + 1 ≡ p + 2 = omega arith in
        one_more p q (13 ∷ 10 ∷ []) (b ∷ bs) k.0 h crlf (ap (λ y. y ∷ bs) (eqb-true b 13 t) ∙ ap (λ y. 13 ∷ y) k.1) (rw n at k.2)

    from_start : Goes start (empty_lines_step r start p b)
    from_start =
        split (Goes start) (r.empty_lines && eqb b 13)
        (λ t e. let k = both_true r.empty_lines (eqb b 13) t in behind_cr k.0 k.1 (ih cr e))
        (λ c. split (Goes start) (r.empty_lines && r.lf_alone && eqb b 10)
        (λ t e.
        let k = both_true (r.empty_lines && r.lf_alone) (eqb b 10) t in
        let l = both_true r.empty_lines r.lf_alone k.0 in
        one_more p q (10 ∷ []) (b ∷ bs) bs l.0 (lf l.1) (ap (λ y. y ∷ bs) (eqb-true b 10 k.1)) (ih start e))
        (λ d e. let j : p ≡ q = cc in record { w = []; rest = b ∷ bs; whole = refl; place = omega arith; holds = record { lines = none; stops = record { b = b; ys = bs; whole = refl; no_cr = c; no_lf = d } } }))

  sound_empties : (xs : List ℕ) (p q : ℕ) (s : EmptyLines) → run (empty_lines_step r) s p xs ≡ gave tt q → Left s p xs q
  sound_empties [] p q s = λ e. never cc
  sound_empties (b ∷ bs) p q start = from_start b bs p q (λ s. sound_empties bs (p + 1) q s)
  sound_empties (b ∷ bs) p q cr = from_cr b bs p q (λ s. sound_empties bs (p + 1) q s)

  complete_stop : (p : ℕ) (rest : List ℕ) → Stops r rest → run (empty_lines_step r) start p rest ≡ gave tt p
  complete_stop p rest s = rw (s.whole, s.no_cr, s.no_lf)

  complete_lines : {w : List ℕ} → IsEmptyLines r w → (p : ℕ) (rest : List ℕ) → Stops r rest → run (empty_lines_step r) start p (w ++ rest) ≡ gave tt (p + length w)
  complete_lines none p rest s = let n : p ≡ p + 0 = omega arith in complete_stop p rest s ∙ ap (gave tt) n
  complete_lines (more {w = w} h crlf k) p rest s = let n : p + 1 + 1 + length w ≡ p + suc (suc (length w)) = omega arith in ap (λ v. after v p (λ s. run (empty_lines_step r) s (p + 1) (10 ∷ (w ++ rest)))) (passes_cr r.empty_lines r.lf_alone h) ∙ complete_lines k (p + 1 + 1) rest s ∙ ap (gave tt) n
  complete_lines (more {w = w} h (lf g) k) p rest s = let n : p + 1 + length w ≡ p + suc (length w) = omega arith in ap (λ v. after v p (λ s. run (empty_lines_step r) s (p + 1) (w ++ rest))) (passes_lf r.empty_lines r.lf_alone h g) ∙ complete_lines k (p + 1) rest s ∙ ap (gave tt) n

  pub exact_empties : Exact (empty_lines_step r) start (EmptiesAt r)
  exact_empties = record { sound = λ p xs a q e. sound_empties xs p q start e; complete = λ p w rest a k. complete_lines k.lines p rest k.stops }
