-- What a run answers, told without its states: what a function over the whole input can say of it.
-- Assumes nothing.
use Rattle.std.specs.Prelude.{◌≡◌, refl, List, [], ◌∷◌, ◌++◌, ℕ, ◌+◌}
use Rattle.std.proofs.Common.{sym, ap, ◌∙◌, arith}
use Rattle.reader.specs.Machine.{Move, keep, give, before, refuse, Run, more, gave, refused, Step, after, run, run_at}
use Rattle.reader.proofs.Laws.{refused_stays}
use Rattle.reader.specs.Judged.{Verdict, pass, fail, given, left, moved, judged}
use Rattle.reader.specs.Lifted.{ran}
use Rattle.reader.specs.Seq.{first, second, seq, bind}
use Rattle.reader.proofs.Seq.{run_seq}
use Rattle.reader.specs.Loop.{Turn, again, done, loop, Fresh, round}
use Rattle.reader.proofs.Loop.{run_loop}
use Rattle.reader.specs.Answer.{Answer, and, answer, bad, either, got, known', lapwise, retold, rounds, short, verdict}

short_not_got : {U A F : Type 0} {u : U} {a : A} {q : ℕ} → ◌≡◌ {A = Answer U A F} (short u) (got a q) → ⊥
short_not_got e = let z : ◌≡◌ {A = ℕ} 0 1 = cc in omega arith

short_not_bad : {U A F : Type 0} {u : U} {x : F} → ◌≡◌ {A = Answer U A F} (short u) (bad x) → ⊥
short_not_bad e = let z : ◌≡◌ {A = ℕ} 0 1 = cc in omega arith

-- what a run answers, where `known` tells what is known in a state
module _ {S U A F : Type 0} (known : S → U) where
  -- the run behind an answer
  pub answered : (r : Run S A F) {a : A} {q : ℕ} → answer known r ≡ got a q → r ≡ gave a q
  answered (more s) e = cc
  answered (gave b p) e = cc
  answered (refused x p) e = cc

  pub answered_short : (r : Run S A F) {u : U} → answer known r ≡ short u → (s : S) × (r ≡ more s)
  answered_short (more s) e = (s, refl)
  answered_short (gave b p) e = absurd (short_not_got (sym e))
  answered_short (refused x p) e = absurd (short_not_bad (sym e))

  pub answered_bad : (r : Run S A F) {e : F} → answer known r ≡ bad e → (q : ℕ) × (r ≡ refused e q)
  answered_bad (more s) e = (0, cc)
  answered_bad (gave b p) e = (0, cc)
  answered_bad (refused x p) e = (p, cc)

  -- a refusal never changes when more bytes arrive
  pub bad_stays : (m : Step S A F) (bs cs : List ℕ) (s : S) (p : ℕ) {e : F} → answer known (run m s p bs) ≡ bad e → answer known (run m s p (bs ++ cs)) ≡ bad e
  bad_stays m bs cs s p e = let w = answered_bad _ e in ap (answer known) (refused_stays m bs cs s p w.1)

-- a run in the states of a larger machine answers the same
pub answer_ran : {S T U A F : Type 0} (f : S → T) (known : T → U) (r : Run S A F) → answer known (ran f r) ≡ answer (λ s. known (f s)) r
answer_ran f known (more s) = refl
answer_ran f known (gave a q) = refl
answer_ran f known (refused e q) = refl

-- a part's answer in a larger machine's words
module _ {U W A B E F : Type 0} (h : U → W) (f : A → Verdict B F) (g : E → F) where
  module _ {S : Type 0} (known : S → U) (m : Step S A E) where
    gives : (p : ℕ) (k : S → Run S B F) (v : Verdict B F) → answer (known' h f g known m) (after (given f g v) p k) ≡ verdict h f g v (p + 1)
    gives p k (pass b) = refl
    gives p k (fail x) = refl

    leaves : (p : ℕ) (k : S → Run S B F) (v : Verdict B F) → answer (known' h f g known m) (after (left f g v) p k) ≡ verdict h f g v p
    leaves p k (pass b) = refl
    leaves p k (fail x) = refl

    judged_step : (bs : List ℕ) (p : ℕ) (v : Move S A E) → ((s : S) → answer (known' h f g known m) (run (judged f g m) s (p + 1) bs) ≡ retold h f g (answer known (run m s (p + 1) bs))) → answer (known' h f g known m) (after (moved f g v) p (λ s. run (judged f g m) s (p + 1) bs)) ≡ retold h f g (answer known (after v p (λ s. run m s (p + 1) bs)))
    judged_step bs p (keep s) ih = ih s
    judged_step bs p (give a) ih = gives p (λ s. run (judged f g m) s (p + 1) bs) (f a)
    judged_step bs p (before a) ih = leaves p (λ s. run (judged f g m) s (p + 1) bs) (f a)
    judged_step bs p (refuse e) ih = refl

    pub answer_judged : (bs : List ℕ) (s : S) (p : ℕ) → answer (known' h f g known m) (run (judged f g m) s p bs) ≡ retold h f g (answer known (run m s p bs))
    answer_judged [] s p = refl
    answer_judged (b ∷ bs) s p = judged_step bs p (m s p b) (λ s'. answer_judged bs s' (p + 1))

-- one answer, and another from where it leaves the next byte
module _ {U A B F : Type 0} where
  -- it matters only what follows where it follows
  pub and_same : (r : Answer U A F) {k k' : A → ℕ → Answer U B F} → ((a : A) (q : ℕ) → k a q ≡ k' a q) → and r k ≡ and r k'
  and_same (got a q) h = h a q
  and_same (short u) h = refl
  and_same (bad e) h = refl

module _ {S A T U : Type 0} (known : S → U) (known' : A → T → U) where
  answer_bind : {B F : Type 0} (r : Run S A F) (k : A → ℕ → Run T B F) → answer (either known known') (bind r k) ≡ and (answer known r) (λ a q. answer (known' a) (k a q))
  answer_bind (more s) k = refl
  answer_bind (gave a q) k = answer_ran (second a) (either known known') (k a q)
  answer_bind (refused e q) k = refl

  pub answer_seq : {B F : Type 0} (m : Step S A F) (start : A → T) (n : A → Step T B F) (s : S) (xs : List ℕ) (p : ℕ) → answer (either known known') (run_at (seq m start n) (first s) xs p) ≡ and (answer known (run_at m s xs p)) (λ a q. answer (known' a) (run_at (n a) (start a) xs q))
  answer_seq m start n s xs p = ap (answer (either known known')) (run_seq m start n s xs p) ∙ answer_bind (run_at m s xs p) (λ a q. run_at (n a) (start a) xs q)

module _ {A S B U F : Type 0} (start : A → S) (known : A → S → U) where
  answer_round : (a : A) (r : Run S (Turn A B) F) (k : A → ℕ → Run (A × S) B F) → answer (lapwise known) (round start a r k) ≡ rounds (answer (known a) r) (λ a' q. answer (lapwise known) (k a' q))
  answer_round a (more s) k = refl
  answer_round a (gave (again x) q) k = refl
  answer_round a (gave (done x) q) k = refl
  answer_round a (refused e q) k = refl

  pub answer_loop : (m : A → Step S (Turn A B) F) → Fresh start m → (a : A) (s : S) (xs : List ℕ) (p : ℕ) → answer (lapwise known) (run_at (loop start m) (a, s) xs p) ≡ rounds (answer (known a) (run_at (m a) s xs p)) (λ a' q. answer (lapwise known) (run_at (loop start m) (a', start a') xs q))
  answer_loop m fresh a s xs p = ap (answer (lapwise known)) (run_loop start m fresh a s xs p) ∙ answer_round a (run_at (m a) s xs p) (λ a' q. run_at (loop start m) (a', start a') xs q)
