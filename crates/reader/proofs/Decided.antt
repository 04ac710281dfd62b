-- The byte that decides a run: before it the machine waits, and with it the answer or the refusal is there.
-- Assumes nothing.
use Rattle.std.specs.Prelude.{◌≡◌, refl, List, [], ◌∷◌, ◌++◌, ℕ, ◌+◌, ◌≤◌, ◌<◌, length, drop}
use Rattle.std.proofs.Common.{sym, ap, ◌∙◌, arith, length-drop}
use Rattle.std.proofs.lemmas.List.{drop-append-le}
use Rattle.reader.specs.Machine.{Move, keep, give, before, refuse, Run, more, gave, refused, Step, after, run, run_at}
use Rattle.reader.specs.Laws.{resume}
use Rattle.reader.proofs.Laws.{run_append, gave_stays, gave_within, refused_within}
use Rattle.reader.specs.Lifted.{lifted}
use Rattle.reader.specs.Judged.{pass, moved, judged}
use Rattle.reader.specs.Seq.{first, second, cross, seq}
use Rattle.reader.specs.Tests.{never}
use Rattle.reader.specs.Decided.{Taken, Takes}

module _ {S A F : Type 0} (m : Step S A F) (bs cs : List ℕ) (s : S) (p : ℕ) where
  -- the first bytes come to v, and all of them to z
  on : {v z : Run S A F} → run m s p bs ≡ v → run m s p (bs ++ cs) ≡ z → resume m v (p + length bs) cs ≡ z
  on u e = sym (ap (λ y. resume m y (p + length bs) cs) u) ∙ sym (run_append m bs cs s p) ∙ e

  -- bytes before the one that is refused leave the machine waiting
  pub refused_late : {x : F} {q : ℕ} → run m s p (bs ++ cs) ≡ refused x q → p + length bs ≤ q → (t : S) × (run m s p bs ≡ more t)
  refused_late {x} {q} e l = by (run m s p bs) refl
    where
      by : (v : Run S A F) → run m s p bs ≡ v → (t : S) × (v ≡ more t)
      by (more t) u = (t, refl)
      by (gave a i) u = let w = on u e in never cc
      by (refused y i) u = let w = on u e in let j : i ≡ q = cc in absurd (omega (arith, refused_within m bs s p u, j, l))

  -- with it they are refused
  pub refused_early : {x : F} {q : ℕ} → run m s p (bs ++ cs) ≡ refused x q → q < p + length bs → run m s p bs ≡ refused x q
  refused_early {x} {q} e l = by (run m s p bs) refl
    where
      by : (v : Run S A F) → run m s p bs ≡ v → v ≡ refused x q
      by (more t) u = absurd (omega (arith, refused_within m cs t (p + length bs) (on u e), l))
      by (gave a i) u = on u e
      by (refused y i) u = on u e

  -- bytes that end before an answer's do leave it waiting
  pub gave_late : {a : A} {q : ℕ} → run m s p (bs ++ cs) ≡ gave a q → p + length bs < q → (t : S) × (run m s p bs ≡ more t)
  gave_late {a} {q} e l = by (run m s p bs) refl
    where
      by : (v : Run S A F) → run m s p bs ≡ v → (t : S) × (v ≡ more t)
      by (more t) u = (t, refl)
      by (gave b i) u = let w = on u e in let j : i ≡ q = cc in absurd (omega (arith, gave_within m bs s p u, j, l))
      by (refused y i) u = let w = on u e in never cc

module _ {S A F : Type 0} (m : Step S A F) (T : Takes m) where
  behind_step_lem : (bs : List ℕ) (p : ℕ) (v : Move S A F) → Taken v → {a : A} {q : ℕ} → ((s : S) → run m s (p + 1) bs ≡ gave a q → p + 1 + 1 ≤ q) → after v p (λ s. run m s (p + 1) bs) ≡ gave a q → p + 1 ≤ q
  behind_step_lem bs p (keep s) t ih e = omega (arith, ih s e)
  behind_step_lem bs p (give b) t {a} {q} ih e = let h : p + 1 ≡ q = cc in omega arith
  behind_step_lem bs p (before b) t ih e = absurd t
  behind_step_lem bs p (refuse x) t ih e = never cc

  gave_behind : (bs : List ℕ) (s : S) (p : ℕ) {a : A} {q : ℕ} → run m s p bs ≡ gave a q → p + 1 ≤ q
  gave_behind [] s p e = never cc
  gave_behind (b ∷ bs) s p e = behind_step_lem bs p (m s p b) (T s p b) (λ s' e'. gave_behind bs s' (p + 1) e') e

  gave_early : (bs cs : List ℕ) (s : S) (p : ℕ) {a : A} {q : ℕ} → run m s p (bs ++ cs) ≡ gave a q → q ≤ p + length bs → run m s p bs ≡ gave a q
  gave_early bs cs s p {a} {q} e l = by (run m s p bs) refl
    where
      by : (v : Run S A F) → run m s p bs ≡ v → v ≡ gave a q
      by (more t) u = absurd (omega (arith, gave_behind cs t (p + length bs) (on m bs cs s p u e), l))
      by (gave b i) u = on m bs cs s p u e
      by (refused y i) u = on m bs cs s p u e

  -- its answer is there with the last byte that it took, whatever follows in place of what did
  pub same_start : (v w u : List ℕ) (s : S) (p : ℕ) {a : A} {q : ℕ} → run_at m s (v ++ w) p ≡ gave a q → q ≤ length v → run_at m s (v ++ u) p ≡ gave a q
  same_start v w u s p {a} {q} e l =
      let h : p ≤ q = (gave_within m (drop p (v ++ w)) s p e).0 in
      let split_w : drop p (v ++ w) ≡ drop p v ++ w = drop-append-le p v w (omega arith) in
      let split_u : drop p (v ++ u) ≡ drop p v ++ u = drop-append-le p v u (omega arith) in
      let i : q ≤ p + length (drop p v) = omega (arith, length-drop p v) in
      ap (run m s p) split_u ∙ gave_stays m (drop p v) u s p (gave_early (drop p v) w s p (sym (ap (run m s p) split_w) ∙ e) i)

-- machines made of such machines
module _ {S A B E F : Type 0} (f : A → B) (g : E → F) (m : Step S A E) where
  judged_taken : (v : Move S A E) → Taken v → Taken (moved {S = S} (λ a. pass (f a)) g v)
  judged_taken (keep s) t = tt
  judged_taken (give a) t = tt
  judged_taken (before a) t = t
  judged_taken (refuse e) t = tt

  pub takes_judged : Takes m → Takes (judged (λ a. pass (f a)) g m)
  takes_judged T s p b = judged_taken (m s p b) (T s p b)

pub lifted_taken : {S T A F : Type 0} (f : S → T) (v : Move S A F) → Taken v → Taken (lifted f v)
lifted_taken f (keep s) t = tt
lifted_taken f (give a) t = tt
lifted_taken f (before a) t = t
lifted_taken f (refuse e) t = tt

-- it is the second machine that counts
module _ {S A T B F : Type 0} where
  cross_taken : (v : Move S A F) (go : A → T) (k : A → Move T B F) → ((a : A) → Taken (k a)) → Taken (cross v go k)
  cross_taken (keep s) go k h = tt
  cross_taken (give a) go k h = tt
  cross_taken (before a) go k h = lifted_taken (second a) (k a) (h a)
  cross_taken (refuse e) go k h = tt

  pub takes_seq : (m : Step S A F) (go : A → T) (n : A → Step T B F) → ((a : A) → Takes (n a)) → Takes (seq m go n)
  takes_seq m go n N (first s) p b = cross_taken (m s p b) go (λ a. n a (go a) p b) (λ a. N a (go a) p b)
  takes_seq m go n N (second a t) p b = lifted_taken (second a) (n a t p b) (N a t p b)
