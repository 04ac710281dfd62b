-- The laws of one machine's runs: a step, the end, more bytes, and where an answer or a refusal lies.
-- Assumes nothing.
use Rattle.std.specs.Prelude.{◌≡◌, refl, List, [], ◌∷◌, ◌++◌, ℕ, suc, ◌+◌, ◌≤◌, ◌<◌, length, get_or}
use Rattle.std.proofs.Common.{ap, ◌∙◌, arith, add-zero, drop_of_length-le}
use Rattle.reader.specs.Machine.{Move, keep, give, before, refuse, more, gave, refused, Step, after, run, run_at}
use Rattle.reader.specs.Bytes.{drop_in}
use Rattle.reader.specs.Tests.{never}
use Rattle.reader.specs.Laws.{resume}

module _ {S A F : Type 0} (m : Step S A F) where
  -- one step at a position within the input, and none at its end
  pub run_in : (s : S) (xs : List ℕ) (i : ℕ) → i < length xs → run_at m s xs i ≡ after (m s i (get_or xs i 0)) i (λ s'. run_at m s' xs (i + 1))
  run_in s xs i h = rw (drop_in xs i h)

  pub run_out : (s : S) (xs : List ℕ) (i : ℕ) → length xs ≤ i → run_at m s xs i ≡ more s
  run_out s xs i h = rw drop_of_length-le

  resume_step : (bs cs : List ℕ) (p : ℕ) (v : Move S A F) → ((s : S) → run m s (p + 1) (bs ++ cs) ≡ resume m (run m s (p + 1) bs) (p + 1 + length bs) cs) → after v p (λ s'. run m s' (p + 1) (bs ++ cs)) ≡ resume m (after v p (λ s'. run m s' (p + 1) bs)) (p + suc (length bs)) cs
  resume_step bs cs p (keep s) ih = ih s ∙ ap (λ (n : ℕ). resume m (run m s (p + 1) bs) n cs) (omega arith)
  resume_step bs cs p (give a) ih = refl
  resume_step bs cs p (before a) ih = refl
  resume_step bs cs p (refuse e) ih = refl

  pub run_append : (bs cs : List ℕ) (s : S) (p : ℕ) → run m s p (bs ++ cs) ≡ resume m (run m s p bs) (p + length bs) cs
  run_append [] cs s p = rw add-zero
  run_append (b ∷ bs) cs s p = resume_step bs cs p (m s p b) (λ s'. run_append bs cs s' (p + 1))

  -- what was answered or refused stays so whatever follows, and a run that wants more goes on where it stopped
  pub gave_stays : (bs cs : List ℕ) (s : S) (p : ℕ) {a : A} {q : ℕ} → run m s p bs ≡ gave a q → run m s p (bs ++ cs) ≡ gave a q
  gave_stays bs cs s p e = run_append bs cs s p ∙ rw e

  pub refused_stays : (bs cs : List ℕ) (s : S) (p : ℕ) {e : F} {q : ℕ} → run m s p bs ≡ refused e q → run m s p (bs ++ cs) ≡ refused e q
  refused_stays bs cs s p h = run_append bs cs s p ∙ rw h

  pub goes_on : (bs cs : List ℕ) (s : S) (p : ℕ) {s' : S} → run m s p bs ≡ more s' → run m s p (bs ++ cs) ≡ run m s' (p + length bs) cs
  goes_on bs cs s p e = run_append bs cs s p ∙ rw e

  -- an answer leaves the next byte at a position of the input or right behind it
  gave_step : (bs : List ℕ) (p : ℕ) (v : Move S A F) {a : A} {q : ℕ} → ((s : S) → run m s (p + 1) bs ≡ gave a q → (p + 1 ≤ q) × (q ≤ p + 1 + length bs)) → after v p (λ s. run m s (p + 1) bs) ≡ gave a q → (p ≤ q) × (q ≤ p + suc (length bs))
  gave_step bs p (keep s) ih e = omega (arith, ih s e)
  gave_step bs p (give b) {a} {q} ih e = let h : p + 1 ≡ q = cc in omega arith
  gave_step bs p (before b) {a} {q} ih e = let h : p ≡ q = cc in omega arith
  gave_step bs p (refuse x) ih e = never cc

  pub gave_within : (bs : List ℕ) (s : S) (p : ℕ) {a : A} {q : ℕ} → run m s p bs ≡ gave a q → (p ≤ q) × (q ≤ p + length bs)
  gave_within [] s p e = never cc
  gave_within (b ∷ bs) s p e = gave_step bs p (m s p b) (λ s' e'. gave_within bs s' (p + 1) e') e

  -- a refusal is of a byte of the input
  refused_step : (bs : List ℕ) (p : ℕ) (v : Move S A F) {x : F} {q : ℕ} → ((s : S) → run m s (p + 1) bs ≡ refused x q → (p + 1 ≤ q) × (q < p + 1 + length bs)) → after v p (λ s. run m s (p + 1) bs) ≡ refused x q → (p ≤ q) × (q < p + suc (length bs))
  refused_step bs p (keep s) ih e = omega (arith, ih s e)
  refused_step bs p (give b) ih e = never cc
  refused_step bs p (before b) ih e = never cc
  refused_step bs p (refuse y) {x} {q} ih e = let h : p ≡ q = cc in omega arith

  pub refused_within : (bs : List ℕ) (s : S) (p : ℕ) {x : F} {q : ℕ} → run m s p bs ≡ refused x q → (p ≤ q) × (q < p + length bs)
  refused_within [] s p e = never cc
  refused_within (b ∷ bs) s p e = refused_step bs p (m s p b) (λ s' e'. refused_within bs s' (p + 1) e') e
