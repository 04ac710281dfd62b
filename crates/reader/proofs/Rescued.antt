-- A machine whose refusals another takes over where that is wanted, from the byte on that was refused, and told what was seen of those before it.
-- Assumes nothing.
use Rattle.std.specs.Prelude.{◌≡◌, refl, List, [], ◌∷◌, ◌++◌, Bool, true, false, ℕ, suc, ◌+◌, length}
use Rattle.std.proofs.Common.{sym, ap, ◌∙◌, arith}
use Rattle.reader.specs.Machine.{Move, keep, give, before, refuse, more, gave, refused, Step, after, run}
use Rattle.reader.specs.Lifted.{lifted, ran, run_entered}
use Rattle.reader.proofs.Laws.{refused_within}
use Rattle.reader.specs.Refusals.{Refusal, Refuses}
use Rattle.reader.specs.Tests.{split, never}
use Rattle.reader.specs.Rescued.{Rescued, caught, rescue, rescuing, trying, watched}

module _ {S T A F : Type 0} (on : Bool) (m : Step S A F) (watch : T → ℕ → T) (n : F → Step T A F) where
  -- where the machine waits the whole does, and where it answers it answers
  waiting_step : (bs : List ℕ) (p : ℕ) (t : T) (v : Move S A F) (k : F → Move T A F) {s' : S} → ((s : S) → run m s (p + 1) bs ≡ more s' → run (rescue on m watch n) (trying s t) (p + 1) bs ≡ more (trying s' (watched on m watch n t bs))) → after v p (λ s. run m s (p + 1) bs) ≡ more s' → after (caught on m watch n t v k) p (λ c. run (rescue on m watch n) c (p + 1) bs) ≡ more (trying s' (watched on m watch n t bs))
  waiting_step bs p t (keep s) k ih e = ih s e
  waiting_step bs p t (give a) k ih e = never cc
  waiting_step bs p t (before a) k ih e = never cc
  waiting_step bs p t (refuse x) k ih e = never cc

  pub run_waiting : (bs : List ℕ) (s : S) (t : T) (p : ℕ) {s' : S} → run m s p bs ≡ more s' → run (rescue on m watch n) (trying s t) p bs ≡ more (trying s' (watched on m watch n t bs))
  run_waiting [] s t p {s'} e = let i : s ≡ s' = cc in ap (λ y. more (trying y t)) i
  run_waiting (b ∷ bs) s t p e = waiting_step bs p (watch t b) (m s p b) (λ x. n x t p b) (λ s' e'. run_waiting bs s' (watch t b) (p + 1) e') e

  good_step : (bs : List ℕ) (p : ℕ) (t : T) (v : Move S A F) (k : F → Move T A F) {a : A} {q : ℕ} → ((s : S) → run m s (p + 1) bs ≡ gave a q → run (rescue on m watch n) (trying s t) (p + 1) bs ≡ gave a q) → after v p (λ s. run m s (p + 1) bs) ≡ gave a q → after (caught on m watch n t v k) p (λ c. run (rescue on m watch n) c (p + 1) bs) ≡ gave a q
  good_step bs p t (keep s) k ih e = ih s e
  good_step bs p t (give a) k ih e = cc
  good_step bs p t (before a) k ih e = cc
  good_step bs p t (refuse x) k ih e = never cc

  pub run_good : (bs : List ℕ) (s : S) (t : T) (p : ℕ) {a : A} {q : ℕ} → run m s p bs ≡ gave a q → run (rescue on m watch n) (trying s t) p bs ≡ gave a q
  run_good [] s t p e = never cc
  run_good (b ∷ bs) s t p e = good_step bs p (watch t b) (m s p b) (λ x. n x t p b) (λ s' e'. run_good bs s' (watch t b) (p + 1) e') e

  -- where it refuses and nothing takes over, the whole refuses
  bad_step : on ≡ false → (bs : List ℕ) (p : ℕ) (t : T) (v : Move S A F) (k : F → Move T A F) {x : F} {q : ℕ} → ((s : S) → run m s (p + 1) bs ≡ refused x q → run (rescue on m watch n) (trying s t) (p + 1) bs ≡ refused x q) → after v p (λ s. run m s (p + 1) bs) ≡ refused x q → after (caught on m watch n t v k) p (λ c. run (rescue on m watch n) c (p + 1) bs) ≡ refused x q
  bad_step o bs p t (keep s) k ih e = ih s e
  bad_step o bs p t (give a) k ih e = never cc
  bad_step o bs p t (before a) k ih e = never cc
  bad_step o bs p t (refuse x) k ih e = rw o cc

  pub run_bad : on ≡ false → (bs : List ℕ) (s : S) (t : T) (p : ℕ) {x : F} {q : ℕ} → run m s p bs ≡ refused x q → run (rescue on m watch n) (trying s t) p bs ≡ refused x q
  run_bad o [] s t p e = never cc
  run_bad o (b ∷ bs) s t p e = bad_step o bs p (watch t b) (m s p b) (λ x. n x t p b) (λ s' e'. run_bad o bs s' (watch t b) (p + 1) e') e

  -- where another takes over, it goes on from the byte that was refused
  module _ (o : on ≡ true) where
    here : (b : ℕ) (bs : List ℕ) (s : S) (t : T) (p : ℕ) (v : Move S A F) {x : F} → m s p b ≡ v → after v p (λ s'. run m s' (p + 1) bs) ≡ refused x p → run (rescue on m watch n) (trying s t) p (b ∷ bs) ≡ ran (rescuing x) (run (n x) t p (b ∷ bs))
    here b bs s t p (keep s') h e = absurd (omega (arith, refused_within m bs s' (p + 1) e))
    here b bs s t p (give a) h e = never cc
    here b bs s t p (before a) h e = never cc
    here b bs s t p (refuse y) {x} h e =
        let same : y ≡ x = cc in
        run_entered (rescuing x) (n x) (rescue on m watch n) (λ u q c. refl) (trying s t) t b bs p (rw (h, o, same))

    later : (b : ℕ) (w rest : List ℕ) (s : S) (t : T) (p : ℕ) (v : Move S A F) {x : F} → ((s' : S) → run m s' (p + 1) (w ++ rest) ≡ refused x (p + 1 + length w) → run (rescue on m watch n) (trying s' (watch t b)) (p + 1) (w ++ rest) ≡ ran (rescuing x) (run (n x) (watched on m watch n (watch t b) w) (p + 1 + length w) rest)) → after v p (λ s'. run m s' (p + 1) (w ++ rest)) ≡ refused x (p + suc (length w)) → after (caught on m watch n (watch t b) v (λ e. n e t p b)) p (λ c. run (rescue on m watch n) c (p + 1) (w ++ rest)) ≡ ran (rescuing x) (run (n x) (watched on m watch n (watch t b) w) (p + suc (length w)) rest)
    later b w rest s t p (keep s') {x} ih u = let i : p + 1 + length w ≡ p + suc (length w) = omega arith in ih s' (u ∙ ap (refused x) (sym i)) ∙ ap (λ y. ran (rescuing x) (run (n x) (watched on m watch n (watch t b) w) y rest)) i
    later b w rest s t p (give a) ih u = never cc
    later b w rest s t p (before a) ih u = never cc
    later b w rest s t p (refuse y) ih u = let j : p ≡ p + suc (length w) = cc in absurd (omega (arith, j))

    pub run_rescued : (w rest : List ℕ) (s : S) (t : T) (p : ℕ) {x : F} → run m s p (w ++ rest) ≡ refused x (p + length w) → run (rescue on m watch n) (trying s t) p (w ++ rest) ≡ ran (rescuing x) (run (n x) (watched on m watch n t w) (p + length w) rest)
    run_rescued [] [] s t p e = never cc
    run_rescued [] (b ∷ rest) s t p {x} e =
        let i : p + 0 ≡ p = omega arith in
        rw i (here b rest s t p (m s p b) refl (e ∙ ap (refused x) i))
    run_rescued (b ∷ w) rest s t p {x} e = later b w rest s t p (m s p b) (λ s'. run_rescued w rest s' (watch t b) (p + 1)) e

  -- what is refused of a byte is so by either machine
  rescued_move : (P : F → Type 0) (f : T → Rescued S T F) (v : Move T A F) → Refusal P v → Refusal P (lifted f v)
  rescued_move P f (keep u) h = tt
  rescued_move P f (give a) h = tt
  rescued_move P f (before a) h = tt
  rescued_move P f (refuse x) h = h

  caught_move : (P : F → Type 0) (t : T) (v : Move S A F) (k : F → Move T A F) → Refusal P v → ((e : F) → Refusal P (k e)) → Refusal P (caught on m watch n t v k)
  caught_move P t (keep s) k h i = tt
  caught_move P t (give a) k h i = tt
  caught_move P t (before a) k h i = tt
  caught_move P t (refuse e) k h i = split (Refusal P) on (λ _. rescued_move P (rescuing e) (k e) (i e)) (λ _. h)

  pub refuses_rescue : (P : ℕ → F → Type 0) → Refuses P m → ((e : F) → Refuses P (n e)) → Refuses P (rescue on m watch n)
  refuses_rescue P M N (trying s t) p b = caught_move (P p) (watch t b) (m s p b) (λ e. n e t p b) (M s p b) (λ e. N e t p b)
  refuses_rescue P M N (rescuing e t) p b = rescued_move (P p) (rescuing e) (n e t p b) (N e t p b)
