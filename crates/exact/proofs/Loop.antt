-- An exact machine again and again is exact for its relation again and again.
-- Assumes nothing.
use Rattle.std.specs.Prelude.{ℕ, zero, suc, ◌+◌, ◌≤◌, ◌≡◌, refl, List, [], ◌∷◌, ◌++◌, length, drop, replicate}
use Rattle.std.proofs.Common.{arith, sym, ap, ◌∙◌, append_assoc, length-append, drop_at}
use Rattle.std.proofs.lemmas.List.{length-replicate}
use Rattle.reader.specs.Machine.{Run, more, gave, refused, Step, run}
use Rattle.reader.specs.Loop.{Turn, again, done, loop, Fresh, round}
use Rattle.reader.proofs.Loop.{run_loop}
use Rattle.reader.specs.Tests.{never}
use Rattle.exact.specs.Exact.{Relation, Part, Exact}
use Rattle.exact.specs.Loop.{Laps, last, next}

module _ {A S B F : Type 0} (start : A → S) (m : A → Step S (Turn A B) F) (fresh : Fresh start m) where
  pub lap_run : (a : A) (p : ℕ) (xs : List ℕ) → run (loop start m) (a, start a) p xs ≡ round start a (run (m a) (start a) p xs) (λ a' q. run (loop start m) (a', start a') q (drop q (replicate p 0 ++ xs)))
  lap_run a p xs =
      let z : List ℕ = replicate p 0 in
      let d : drop p (z ++ xs) ≡ xs = drop_at z xs p (length-replicate p 0) in
      rw d at (run_loop start m fresh a (start a) (z ++ xs) p)

  pub onto : (a a' : A) (p : ℕ) (w rest : List ℕ) → run (m a) (start a) p (w ++ rest) ≡ gave (again a') (p + length w) → run (loop start m) (a, start a) p (w ++ rest) ≡ run (loop start m) (a', start a') (p + length w) rest
  onto a a' p w rest e =
      let z : List ℕ = replicate p 0 in
      let k : drop (p + length w) (z ++ (w ++ rest)) ≡ rest = rw (← append_assoc z w rest) (drop_at (z ++ w) rest (p + length w) (length-append z w ∙ rw length-replicate)) in
      lap_run a p (w ++ rest) ∙ rw (e, k)

  module _ {G : A → Relation (Turn A B)} (M : (a : A) → Exact (m a) (start a) (G a)) (longer : (a : A) (p : ℕ) (w : List ℕ) (a' : A) (rest : List ℕ) → G a p w (again a') rest → 1 ≤ length w) where
    complete_laps : {a : A} {p : ℕ} {w : List ℕ} {b : B} {rest : List ℕ} → Laps G a p w b rest → run (loop start m) (a, start a) p (w ++ rest) ≡ gave b (p + length w)
    complete_laps (last {a = a} {p = p} {w = w} {b = b} {rest = rest} g) = lap_run a p (w ++ rest) ∙ rw ((M a).complete p w rest (done b) g)
    complete_laps (next {a = a} {a' = a'} {p = p} {w₁ = w₁} {w₂ = w₂} {b = b} {rest = rest} g k) =
        let l : p + length w₁ + length w₂ ≡ p + length (w₁ ++ w₂) = omega (arith, length-append w₁ w₂) in
        rw (append_assoc w₁ w₂ rest)
        (onto a a' p w₁ (w₂ ++ rest) ((M a).complete p w₁ (w₂ ++ rest) (again a') g) ∙ complete_laps k ∙ rw l)

    module _ (a : A) (p : ℕ) (xs : List ℕ) (b : B) (q : ℕ) (e : run (loop start m) (a, start a) p xs ≡ gave b q) where
      lap : (n : ℕ) → length xs ≤ suc n → ((a' : A) (p' : ℕ) (ys : List ℕ) → length ys ≤ n → run (loop start m) (a', start a') p' ys ≡ gave b q → Part (Laps G a') p' ys b q) → (r : Run S (Turn A B) F) → run (m a) (start a) p xs ≡ r → Part (Laps G a) p xs b q
      lap n h ih (more t) u = let k = sym (lap_run a p xs) ∙ e in let k' : ◌≡◌ {A = Run (A × S) B F} (more (a, t)) (gave b q) = rw u at k in never cc
      lap n h ih (refused x i) u = let k = sym (lap_run a p xs) ∙ e in let k' : ◌≡◌ {A = Run (A × S) B F} (refused x i) (gave b q) = rw u at k in never cc
      lap n h ih (gave (done c) i) u =
          let k = sym (lap_run a p xs) ∙ e in
          let k' : ◌≡◌ {A = Run (A × S) B F} (gave c i) (gave b q) = rw u at k in
          let v : run (m a) (start a) p xs ≡ gave (done b) q = u ∙ cc in
          let P = (M a).sound p xs (done b) q v in
          record { w = P.w; rest = P.rest; whole = P.whole; place = P.place; holds = last P.holds }
      lap n h ih (gave (again a') i) u = go ((M a).sound p xs (again a') i u)
        where
          go : Part (G a) p xs (again a') i → Part (Laps G a) p xs b q
          go P =
              let u' : run (m a) (start a) p (P.w ++ P.rest) ≡ gave (again a') (p + length P.w) = rw (P.whole, P.place) at u in
              let e' : run (loop start m) (a, start a) p (P.w ++ P.rest) ≡ gave b q = rw P.whole at e in
              let l : length xs ≡ length P.w + length P.rest = ap length P.whole ∙ length-append P.w P.rest in
              let s : 1 ≤ length P.w = longer a p P.w a' P.rest P.holds in
              let Q = ih a' (p + length P.w) P.rest (omega arith) (sym (onto a a' p P.w P.rest u') ∙ e') in
              let g : G a p P.w (again a') (Q.w ++ Q.rest) = rw Q.whole at P.holds in
              record {
                w = P.w ++ Q.w;
                rest = Q.rest;
                whole = P.whole ∙ ap (λ y. P.w ++ y) Q.whole ∙ sym (append_assoc P.w Q.w Q.rest);
                place = omega (arith, length-append P.w Q.w, Q.place);
                holds = next g Q.holds;
              }

    sound_laps : (n : ℕ) (a : A) (p : ℕ) (xs : List ℕ) (b : B) (q : ℕ) → length xs ≤ n → run (loop start m) (a, start a) p xs ≡ gave b q → Part (Laps G a) p xs b q
    sound_laps zero a p [] b q h e = never cc
    sound_laps zero a p (x ∷ xs) b q h e = absurd (omega arith)
    sound_laps (suc n) a p xs b q h e = lap a p xs b q e n h (λ a' p' ys. sound_laps n a' p' ys b q) (run (m a) (start a) p xs) refl

    pub exact_loop : (a : A) → Exact (loop start m) (a, start a) (Laps G a)
    exact_loop a = record { sound = λ p xs b q. sound_laps (length xs) a p xs b q (omega arith); complete = λ p w rest b. complete_laps }
