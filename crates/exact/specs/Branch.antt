-- One of two exact machines, by the first byte, is exact for the relation of the one that the byte decides for.
-- Assumes nothing.
use Rattle.std.specs.Prelude.{ℕ, ◌+◌, ◌≡◌, refl, List, [], ◌∷◌, ◌++◌, Bool, true, false, length}
use Rattle.std.proofs.Common.{sym, ap, ◌∙◌}
use Rattle.reader.specs.Machine.{gave, Step, run}
use Rattle.reader.specs.Lifted.{ran, ran_gave}
use Rattle.reader.specs.Branch.{Branch, fresh, branch}
use Rattle.reader.proofs.Branch.{run_fresh_one, run_fresh_other}
use Rattle.reader.specs.Tests.{never}
use Rattle.exact.specs.Exact.{Relation, Part, Exact}

-- the first byte, of what is read or of what follows
pub data Forks {A : Type 0} (test : ℕ → Bool) (G H : Relation A) (p : ℕ) (w : List ℕ) (a : A) (rest : List ℕ) : Type 0 where
  one : (b : ℕ) (bs : List ℕ) → w ++ rest ≡ b ∷ bs → test b ≡ true → G p w a rest → Forks test G H p w a rest
  other : (b : ℕ) (bs : List ℕ) → w ++ rest ≡ b ∷ bs → test b ≡ false → H p w a rest → Forks test G H p w a rest

module _ {S T A F : Type 0} (test : ℕ → Bool) (m : Step S A F) (s₀ : S) (n : Step T A F) (t₀ : T) {G H : Relation A} (M : Exact m s₀ G) (N : Exact n t₀ H) where
  sound_fork : (b : ℕ) (bs : List ℕ) (p : ℕ) (a : A) (q : ℕ) → run (branch test m s₀ n t₀) fresh p (b ∷ bs) ≡ gave a q → (t : Bool) → test b ≡ t → Part (Forks test G H) p (b ∷ bs) a q
  sound_fork b bs p a q e true h =
      let P = M.sound p (b ∷ bs) a q (ran_gave Branch.one _ (sym (run_fresh_one test m s₀ n t₀ b bs p h) ∙ e)) in
      record { w = P.w; rest = P.rest; whole = P.whole; place = P.place; holds = one b bs (sym P.whole) h P.holds }
  sound_fork b bs p a q e false h =
      let P = N.sound p (b ∷ bs) a q (ran_gave Branch.other _ (sym (run_fresh_other test m s₀ n t₀ b bs p h) ∙ e)) in
      record { w = P.w; rest = P.rest; whole = P.whole; place = P.place; holds = other b bs (sym P.whole) h P.holds }

  sound_branch : (p : ℕ) (xs : List ℕ) (a : A) (q : ℕ) → run (branch test m s₀ n t₀) fresh p xs ≡ gave a q → Part (Forks test G H) p xs a q
  sound_branch p [] a q e = never cc
  sound_branch p (b ∷ bs) a q e = sound_fork b bs p a q e (test b) refl

  complete_branch : (p : ℕ) (w rest : List ℕ) (a : A) → Forks test G H p w a rest → run (branch test m s₀ n t₀) fresh p (w ++ rest) ≡ gave a (p + length w)
  complete_branch p w rest a (one b bs e h g) = let k : run m s₀ p (b ∷ bs) ≡ gave a (p + length w) = rw e at (M.complete p w rest a g) in rw e (run_fresh_one test m s₀ n t₀ b bs p h ∙ ap (ran Branch.one) k)
  complete_branch p w rest a (other b bs e h g) = let k : run n t₀ p (b ∷ bs) ≡ gave a (p + length w) = rw e at (N.complete p w rest a g) in rw e (run_fresh_other test m s₀ n t₀ b bs p h ∙ ap (ran Branch.other) k)

  pub exact_branch : Exact (branch test m s₀ n t₀) fresh (Forks test G H)
  exact_branch = record { sound = sound_branch; complete = complete_branch }
