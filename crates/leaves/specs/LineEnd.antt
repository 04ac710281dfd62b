-- A line's end is read exactly where CR LF stands, or LF alone where the rules allow it.
-- Assumes nothing.
use Rattle.std.specs.Prelude.{ℕ, ◌+◌, ◌≡◌, List, [], ◌∷◌, ◌++◌, ◌&&◌, eqb, length}
use Rattle.std.proofs.Common.{arith, sym, ap, ◌∙◌, eqb-true}
use Rattle.reader.specs.Machine.{gave, after, run}
use Rattle.reader.specs.Tests.{split, both_true, never}
use Rattle.exact.specs.Exact.{Relation, Part, Exact}
use Rattle.rules.specs.Rules.{Rules}
use Rattle.grammar.specs.Message.{IsLineEnd, crlf, lf}
use Rattle.parts.specs.declared.Error.{Error}
use Rattle.parts.specs.LineEnd.{begin, cr, line_end_step}

abbrev pub EndsAt : Rules → Relation (Unit {0})
EndsAt r p w a rest = IsLineEnd r w

module _ (r : Rules) (x : Error) where
  sound_cr : (p : ℕ) (xs : List ℕ) (q : ℕ) → run (line_end_step r x) cr p xs ≡ gave tt q → (ys : List ℕ) × (xs ≡ 10 ∷ ys) × (q ≡ p + 1)
  sound_cr p [] q = λ e. never cc
  sound_cr p (b ∷ bs) q =
      split (λ v. after v p (λ s. run (line_end_step r x) s (p + 1) bs) ≡ gave tt q → (ys : List ℕ) × (b ∷ bs ≡ 10 ∷ ys) × (q ≡ p + 1)) (eqb b 10)
      (λ t e. let k : p + 1 ≡ q = cc in (bs, ap (λ y. y ∷ bs) (eqb-true b 10 t), sym k))
      (λ t e. never cc)

  sound_begin : (p : ℕ) (xs : List ℕ) (a : Unit {0}) (q : ℕ) → run (line_end_step r x) begin p xs ≡ gave a q → Part (EndsAt r) p xs a q
  sound_begin p [] a q = λ e. never cc
  sound_begin p (b ∷ bs) a q =
      split (λ v. after v p (λ s. run (line_end_step r x) s (p + 1) bs) ≡ gave a q → Part (EndsAt r) p (b ∷ bs) a q) (eqb b 13)
      (λ t e. let k = sound_cr (p + 1) bs q e in record { w = 13 ∷ 10 ∷ []; rest = k.0; whole = ap (λ y. y ∷ bs) (eqb-true b 13 t) ∙ ap (λ ys. 13 ∷ ys) k.1; place = omega (arith, k.2); holds = crlf })
      (λ _. split (λ v. after v p (λ s. run (line_end_step r x) s (p + 1) bs) ≡ gave a q → Part (EndsAt r) p (b ∷ bs) a q) (r.lf_alone && eqb b 10)
      (λ t e. let k = both_true r.lf_alone (eqb b 10) t in let l : p + 1 ≡ q = cc in record { w = 10 ∷ []; rest = bs; whole = ap (λ y. y ∷ bs) (eqb-true b 10 k.1); place = sym l; holds = lf k.0 })
      (λ t e. never cc))

  complete_end : (p : ℕ) (w rest : List ℕ) (a : Unit {0}) → IsLineEnd r w → run (line_end_step r x) begin p (w ++ rest) ≡ gave a (p + length w)
  complete_end p w rest a crlf = let l : p + 1 + 1 ≡ p + 2 = omega arith in rw l
  complete_end p w rest a (lf h) = rw h

  pub exact_line_end : Exact (line_end_step r x) begin (EndsAt r)
  exact_line_end = record { sound = sound_begin; complete = complete_end }
