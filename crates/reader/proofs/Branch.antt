-- One of two machines, by the first byte.
-- Assumes nothing.
use Rattle.std.specs.Prelude.{◌≡◌, refl, List, ◌∷◌, Bool, true, false, ℕ, ◌+◌, ◌≤◌, ◌<◌, length, get_or, drop}
use Rattle.std.proofs.Common.{ap, ◌∙◌}
use Rattle.reader.specs.Machine.{Step, run, run_at}
use Rattle.reader.specs.Bytes.{drop_in}
use Rattle.reader.proofs.Laws.{run_out}
use Rattle.reader.specs.Lifted.{ran, run_entered}
use Rattle.reader.specs.Answer.{short, answer}
use Rattle.reader.proofs.Answer.{answer_ran}
use Rattle.reader.specs.Branch.{Branch, branch, fresh, one, other}

module _ {S T A F : Type 0} (test : ℕ → Bool) (m : Step S A F) (s₀ : S) (n : Step T A F) (t₀ : T) where
  -- the first byte decides
  pub run_fresh_one : (b : ℕ) (bs : List ℕ) (p : ℕ) → test b ≡ true → run (branch test m s₀ n t₀) fresh p (b ∷ bs) ≡ ran one (run m s₀ p (b ∷ bs))
  run_fresh_one b bs p e = run_entered one m (branch test m s₀ n t₀) (λ s p b. refl) fresh s₀ b bs p (rw e)

  pub run_fresh_other : (b : ℕ) (bs : List ℕ) (p : ℕ) → test b ≡ false → run (branch test m s₀ n t₀) fresh p (b ∷ bs) ≡ ran other (run n t₀ p (b ∷ bs))
  run_fresh_other b bs p e = run_entered other n (branch test m s₀ n t₀) (λ t p b. refl) fresh t₀ b bs p (rw e)

  module _ {U : Type 0} (known : Branch S T → U) (xs : List ℕ) (i : ℕ) where
    pub branch_one : i < length xs → test (get_or xs i 0) ≡ true → answer known (run_at (branch test m s₀ n t₀) fresh xs i) ≡ answer (λ s. known (one s)) (run_at m s₀ xs i)
    branch_one h e = rw (drop_in xs i h) (ap (answer known) (run_fresh_one (get_or xs i 0) (drop (i + 1) xs) i e) ∙ answer_ran one known (run m s₀ i (get_or xs i 0 ∷ drop (i + 1) xs)))

    pub branch_other : i < length xs → test (get_or xs i 0) ≡ false → answer known (run_at (branch test m s₀ n t₀) fresh xs i) ≡ answer (λ t. known (other t)) (run_at n t₀ xs i)
    branch_other h e = rw (drop_in xs i h) (ap (answer known) (run_fresh_other (get_or xs i 0) (drop (i + 1) xs) i e) ∙ answer_ran other known (run n t₀ i (get_or xs i 0 ∷ drop (i + 1) xs)))

    pub branch_none : length xs ≤ i → answer known (run_at (branch test m s₀ n t₀) fresh xs i) ≡ short (known fresh)
    branch_none h = ap (answer known) (run_out (branch test m s₀ n t₀) fresh xs i h)
