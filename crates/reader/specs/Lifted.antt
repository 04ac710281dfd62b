-- A machine within a larger one, which moves as it does in some of its states, and so runs as it does from them.
-- Assumes nothing.
use Rattle.std.specs.Prelude.{◌≡◌, refl, List, [], ◌∷◌, ℕ, ◌+◌}
use Rattle.reader.specs.Tests.{never}
use Rattle.reader.specs.Machine.{Move, keep, give, before, refuse, Run, more, gave, refused, Step, after, run}

-- a move of a machine in the states of a larger one
abbrev pub lifted : {S T A F : Type 0} → (S → T) → Move S A F → Move T A F
lifted f (keep s) = keep (f s)
lifted f (give a) = give a
lifted f (before a) = before a
lifted f (refuse e) = refuse e

-- the same of a run
abbrev pub ran : {S T A F : Type 0} → (S → T) → Run S A F → Run T A F
ran f (more s) = more (f s)
ran f (gave a q) = gave a q
ran f (refused e q) = refused e q

pub ran_gave : {S T A F : Type 0} (f : S → T) (r : Run S A F) {a : A} {q : ℕ} → ran f r ≡ gave a q → r ≡ gave a q
ran_gave f (more s) e = never cc
ran_gave f (gave b i) e = cc
ran_gave f (refused x i) e = never cc

module _ {S T A F : Type 0} (f : S → T) (m : Step S A F) (n : Step T A F) where
  lifted_step : (bs : List ℕ) (p : ℕ) (v : Move S A F) → ((s : S) → run n (f s) (p + 1) bs ≡ ran f (run m s (p + 1) bs)) → after (lifted f v) p (λ t. run n t (p + 1) bs) ≡ ran f (after v p (λ s. run m s (p + 1) bs))
  lifted_step bs p (keep s) ih = ih s
  lifted_step bs p (give a) ih = refl
  lifted_step bs p (before a) ih = refl
  lifted_step bs p (refuse e) ih = refl

  module _ (alike : (s : S) (p b : ℕ) → n (f s) p b ≡ lifted f (m s p b)) where
    pub run_lifted : (bs : List ℕ) (s : S) (p : ℕ) → run n (f s) p bs ≡ ran f (run m s p bs)
    run_lifted [] s p = refl
    run_lifted (b ∷ bs) s p = rw (alike s p b) (lifted_step bs p (m s p b) (λ s'. run_lifted bs s' (p + 1)))

    -- from another state too, which moves so with the first byte
    pub run_entered : (t : T) (s : S) (b : ℕ) (bs : List ℕ) (p : ℕ) → n t p b ≡ lifted f (m s p b) → run n t p (b ∷ bs) ≡ ran f (run m s p (b ∷ bs))
    run_entered t s b bs p e = rw e (lifted_step bs p (m s p b) (λ s'. run_lifted bs s' (p + 1)))
