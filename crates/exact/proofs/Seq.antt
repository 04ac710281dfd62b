-- One exact machine after another is exact for one relation after the other.
-- Assumes nothing.
use Rattle.std.specs.Prelude.{ℕ, ◌+◌, ◌≡◌, refl, List, ◌++◌, length, drop, replicate}
use Rattle.std.proofs.Common.{arith, sym, ap, ◌∙◌, append_assoc, length-append, drop_at}
use Rattle.std.proofs.lemmas.List.{length-replicate}
use Rattle.reader.specs.Machine.{Run, more, gave, refused, Step, run}
use Rattle.reader.specs.Lifted.{ran, ran_gave}
use Rattle.reader.specs.Seq.{first, second, seq, bind}
use Rattle.reader.proofs.Seq.{run_seq}
use Rattle.reader.specs.Tests.{never}
use Rattle.exact.specs.Exact.{Relation, Part, Exact}
use Rattle.exact.specs.Seq.{Both}

module _ {S A T B F : Type 0} (m : Step S A F) (start : A → T) (n : A → Step T B F) (s : S) where
  -- the run of both from a place p, whatever stands before it
  pub both : (p : ℕ) (xs : List ℕ) → run (seq m start n) (first s) p xs ≡ bind (run m s p xs) (λ a q. run (n a) (start a) q (drop q (replicate p 0 ++ xs)))
  both p xs =
      let z : List ℕ = replicate p 0 in
      let d : drop p (z ++ xs) ≡ xs = drop_at z xs p (length-replicate p 0) in
      rw d at (run_seq m start n s (z ++ xs) p)

  -- where the first machine answers, the second goes on with the rest
  pub onto : (p : ℕ) (w rest : List ℕ) (a : A) → run m s p (w ++ rest) ≡ gave a (p + length w) → run (seq m start n) (first s) p (w ++ rest) ≡ ran (second a) (run (n a) (start a) (p + length w) rest)
  onto p w rest a e =
      let z : List ℕ = replicate p 0 in
      let k : drop (p + length w) (z ++ (w ++ rest)) ≡ rest = rw (← append_assoc z w rest) (drop_at (z ++ w) rest (p + length w) (length-append z w ∙ rw length-replicate)) in
      both p (w ++ rest) ∙ rw (e, k)

  module _ {G : Relation A} {H : A → Relation B} (M : Exact m s G) (N : (a : A) → Exact (n a) (start a) (H a)) where
    sound_second : (p : ℕ) (b : B) (q : ℕ) (a : A) (w rest : List ℕ) → G p w a rest → run (n a) (start a) (p + length w) rest ≡ gave b q → Part (Both G H) p (w ++ rest) b q
    sound_second p b q a w rest g v =
        let P = (N a).sound (p + length w) rest b q v in
        let g' : G p w a (P.w ++ P.rest) = rw P.whole at g in
        record {
          w = w ++ P.w;
          rest = P.rest;
          whole = ap (λ l. w ++ l) P.whole ∙ sym (append_assoc w P.w P.rest);
          place = omega (arith, length-append w P.w, P.place);
          holds = record { w₁ = w; w₂ = P.w; a = a; left = g'; right = P.holds; whole = refl };
        }

    sound_first : (p : ℕ) (xs : List ℕ) (b : B) (q : ℕ) → run (seq m start n) (first s) p xs ≡ gave b q → (r : Run S A F) → run m s p xs ≡ r → Part (Both G H) p xs b q
    sound_first p xs b q e (more t) u = let k = sym (both p xs) ∙ e in let k' : more (first t) ≡ gave b q = rw u at k in never cc
    sound_first p xs b q e (refused x i) u = let k = sym (both p xs) ∙ e in let k' : refused x i ≡ gave b q = rw u at k in never cc
    sound_first p xs b q e (gave a i) u = go (M.sound p xs a i u)
      where
        go : Part G p xs a i → Part (Both G H) p xs b q
        go P =
            let u' : run m s p (P.w ++ P.rest) ≡ gave a (p + length P.w) = rw (P.whole, P.place) at u in
            let e' : run (seq m start n) (first s) p (P.w ++ P.rest) ≡ gave b q = rw P.whole at e in
            rw P.whole (sound_second p b q a P.w P.rest P.holds (ran_gave (second a) _ (sym (onto p P.w P.rest a u') ∙ e')))

    complete_both : (p : ℕ) (w rest : List ℕ) (b : B) → Both G H p w b rest → run (seq m start n) (first s) p (w ++ rest) ≡ gave b (p + length w)
    complete_both p w rest b K =
        let l : p + length K.w₁ + length K.w₂ ≡ p + length (K.w₁ ++ K.w₂) = omega (arith, length-append K.w₁ K.w₂) in
        rw (K.whole, append_assoc K.w₁ K.w₂ rest)
        (onto p K.w₁ (K.w₂ ++ rest) K.a (M.complete p K.w₁ (K.w₂ ++ rest) K.a K.left)
        ∙ rw ((N K.a).complete (p + length K.w₁) K.w₂ rest b K.right, l))

    pub exact_seq : Exact (seq m start n) (first s) (Both G H)
    exact_seq = record { sound = λ p xs b q e. sound_first p xs b q e (run m s p xs) refl; complete = complete_both }
