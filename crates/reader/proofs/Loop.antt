-- A machine again and again: each lap answers what the next one starts from, or the end.
-- Assumes nothing.
use Rattle.std.specs.Prelude.{◌≡◌, refl, List, [], ◌∷◌, ℕ, ◌+◌, drop}
use Rattle.std.proofs.Common.{ap}
use Rattle.reader.specs.Machine.{Move, keep, give, before, refuse, Step, after, run, run_at}
use Rattle.reader.specs.Bytes.{drop_tail}
use Rattle.reader.specs.Loop.{Fresh, Turn, again, done, loop, round, turned}

module _ {A S B F : Type 0} (start : A → S) where
  module _ (m : A → Step S (Turn A B) F) (fresh : Fresh start m) where
    twice : (a : A) (v : Move S (Turn A B) F) → ((a' : A) → v ≡ before (again a') → ⊥) → (k k' : A → Move (A × S) B F) → turned start a v k ≡ turned start a v k'
    twice a (keep s) never k k' = refl
    twice a (give (again x)) never k k' = refl
    twice a (give (done x)) never k k' = refl
    twice a (before (again x)) never k k' = absurd (never x refl)
    twice a (before (done x)) never k k' = refl
    twice a (refuse e) never k k' = refl

    lap_step_lem : (xs : List ℕ) (b : ℕ) (bs : List ℕ) (p : ℕ) → drop p xs ≡ b ∷ bs → (a : A) (v : Move S (Turn A B) F) → ((s : S) → run (loop start m) (a, s) (p + 1) bs ≡ round start a (run (m a) s (p + 1) bs) (λ a' q. run_at (loop start m) (a', start a') xs q)) → after (turned start a v (λ a'. turned start a' (m a' (start a') p b) (λ a''. keep (a'', start a'')))) p (λ c. run (loop start m) c (p + 1) bs) ≡ round start a (after v p (λ s. run (m a) s (p + 1) bs)) (λ a' q. run_at (loop start m) (a', start a') xs q)
    lap_step_lem xs b bs p e a (keep s) ih = ih s
    lap_step_lem xs b bs p e a (give (again x)) ih = rw (drop_tail xs p e)
    lap_step_lem xs b bs p e a (give (done x)) ih = refl
    lap_step_lem xs b bs p e a (before (again x)) ih =
        rw e
        (ap (λ (v : Move (A × S) B F). after v p (λ c. run (loop start m) c (p + 1) bs))
        (twice x (m x (start x) p b) (fresh x p b) (λ a''. keep (a'', start a'')) (λ a'. turned start a' (m a' (start a') p b) (λ a''. keep (a'', start a'')))))
    lap_step_lem xs b bs p e a (before (done x)) ih = refl
    lap_step_lem xs b bs p e a (refuse r) ih = refl

    lap : (xs bs : List ℕ) (a : A) (s : S) (p : ℕ) → drop p xs ≡ bs → run (loop start m) (a, s) p bs ≡ round start a (run (m a) s p bs) (λ a' q. run_at (loop start m) (a', start a') xs q)
    lap xs [] a s p e = refl
    lap xs (b ∷ bs) a s p e = lap_step_lem xs b bs p e a (m a s p b) (λ s'. lap xs bs a s' (p + 1) (drop_tail xs p e))

    pub run_loop : (a : A) (s : S) (xs : List ℕ) (p : ℕ) → run_at (loop start m) (a, s) xs p ≡ round start a (run_at (m a) s xs p) (λ a' q. run_at (loop start m) (a', start a') xs q)
    run_loop a s xs p = lap xs (drop p xs) a s p refl
