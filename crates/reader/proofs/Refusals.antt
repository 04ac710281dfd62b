-- What a machine refuses with, and where: what holds of each move's refusal and its position holds of each run's, and so for machines made of such machines.
-- Assumes nothing.
use Rattle.std.specs.Prelude.{ℕ, ◌+◌, ◌≡◌, refl, List, [], ◌∷◌, Bool}
use Rattle.std.proofs.Common.{subst}
use Rattle.reader.specs.Machine.{Move, keep, give, before, refuse, refused, Step, after, run}
use Rattle.reader.specs.Lifted.{lifted}
use Rattle.reader.specs.Judged.{Verdict, pass, fail, given, left, moved, judged}
use Rattle.reader.specs.Seq.{first, second, cross, seq}
use Rattle.reader.specs.Loop.{Turn, again, done, turned, loop}
use Rattle.reader.specs.Branch.{fresh, one, other, branch}
use Rattle.reader.specs.Tests.{split, never}
use Rattle.reader.specs.Refusals.{Refusal, Refuses}

module _ {S A F : Type 0} (P : ℕ → F → Type 0) (m : Step S A F) (R : Refuses P m) where
  refused_step : (bs : List ℕ) (p : ℕ) (e : F) (q : ℕ) (v : Move S A F) → Refusal (P p) v → ((s : S) → run m s (p + 1) bs ≡ refused e q → P q e) → after v p (λ s. run m s (p + 1) bs) ≡ refused e q → P q e
  refused_step bs p e q (keep s) h ih u = ih s u
  refused_step bs p e q (give a) h ih u = never cc
  refused_step bs p e q (before a) h ih u = never cc
  refused_step bs p e q (refuse x) h ih u = let n : x ≡ e = cc in let i : p ≡ q = cc in subst (λ y. P y e) i (subst (P p) n h)

  pub refused_is : (bs : List ℕ) (s : S) (p : ℕ) (e : F) (q : ℕ) → run m s p bs ≡ refused e q → P q e
  refused_is [] s p e q u = never cc
  refused_is (b ∷ bs) s p e q u = refused_step bs p e q (m s p b) (R s p b) (λ s'. refused_is bs s' (p + 1) e q) u

-- and so does all that follows from it
refusal_as : {S A F : Type 0} {P Q : F → Type 0} → ((x : F) → P x → Q x) → (v : Move S A F) → Refusal P v → Refusal Q v
refusal_as f (keep s) h = tt
refusal_as f (give a) h = tt
refusal_as f (before a) h = tt
refusal_as f (refuse e) h = f e h

pub refuses_as : {S A F : Type 0} (P Q : ℕ → F → Type 0) → ((p : ℕ) (x : F) → P p x → Q p x) → (m : Step S A F) → Refuses P m → Refuses Q m
refuses_as P Q f m R s p b = refusal_as (f p) (m s p b) (R s p b)

-- a verdict that always passes
pub passes : {A B F : Type 0} (Q : ℕ → F → Type 0) (f : A → B) (a : A) (p : ℕ) (x : F) → pass (f a) ≡ fail x → Q p x
passes Q f a p x e = never cc

-- machines made of machines
module _ {S A B E F : Type 0} (P : ℕ → E → Type 0) (Q : ℕ → F → Type 0) (f : A → Verdict B F) (g : E → F) (m : Step S A E) where
  verdict_move : (p : ℕ) (v : Verdict B F) → ((x : F) → v ≡ fail x → Q p x) → Refusal (Q p) (given {S = S} f g v) × Refusal (Q p) (left {S = S} f g v)
  verdict_move p (pass b) h = (tt, tt)
  verdict_move p (fail x) h = (h x refl, h x refl)

  judged_move : (p : ℕ) → ((a : A) (x : F) → f a ≡ fail x → Q p x) → ((e : E) → P p e → Q p (g e)) → (v : Move S A E) → Refusal (P p) v → Refusal (Q p) (moved f g v)
  judged_move p h k (keep s) r = tt
  judged_move p h k (give a) r = (verdict_move p (f a) (h a)).0
  judged_move p h k (before a) r = (verdict_move p (f a) (h a)).1
  judged_move p h k (refuse e) r = k e r

  pub refuses_judged : ((a : A) (p : ℕ) (x : F) → f a ≡ fail x → Q p x) → ((p : ℕ) (e : E) → P p e → Q p (g e)) → Refuses P m → Refuses Q (judged f g m)
  refuses_judged h k R s p b = judged_move p (λ a. h a p) (k p) (m s p b) (R s p b)

lifted_move : {S T A F : Type 0} (P : F → Type 0) (f : S → T) (v : Move S A F) → Refusal P v → Refusal P (lifted f v)
lifted_move P f (keep s) r = tt
lifted_move P f (give a) r = tt
lifted_move P f (before a) r = tt
lifted_move P f (refuse e) r = r

module _ {S A T B F : Type 0} where
  cross_move : (P : F → Type 0) (v : Move S A F) → Refusal P v → (go : A → T) (k : A → Move T B F) → ((a : A) → Refusal P (k a)) → Refusal P (cross v go k)
  cross_move P (keep s) r go k h = tt
  cross_move P (give a) r go k h = tt
  cross_move P (before a) r go k h = lifted_move P (second a) (k a) (h a)
  cross_move P (refuse e) r go k h = r

  pub refuses_seq : (P : ℕ → F → Type 0) (m : Step S A F) (go : A → T) (n : A → Step T B F) → Refuses P m → ((a : A) → Refuses P (n a)) → Refuses P (seq m go n)
  refuses_seq P m go n M N (first s) p b = cross_move (P p) (m s p b) (M s p b) go (λ a. n a (go a) p b) (λ a. N a (go a) p b)
  refuses_seq P m go n M N (second a t) p b = lifted_move (P p) (second a) (n a t p b) (N a t p b)

module _ {A F : Type 0} (P : ℕ → F → Type 0) where
  pub refuses_branch : {S T : Type 0} (test : ℕ → Bool) (m : Step S A F) (s : S) (n : Step T A F) (t : T) → Refuses P m → Refuses P n → Refuses P (branch test m s n t)
  refuses_branch test m s n t M N fresh p b = split (Refusal (P p)) (test b) (λ _. lifted_move (P p) one (m s p b) (M s p b)) (λ _. lifted_move (P p) other (n t p b) (N t p b))
  refuses_branch test m s n t M N (one u) p b = lifted_move (P p) one (m u p b) (M u p b)
  refuses_branch test m s n t M N (other u) p b = lifted_move (P p) other (n u p b) (N u p b)

module _ {A S B F : Type 0} (go : A → S) where
  turned_move : (P : F → Type 0) (a : A) (v : Move S (Turn A B) F) (k : A → Move (A × S) B F) → Refusal P v → ((a' : A) → Refusal P (k a')) → Refusal P (turned go a v k)
  turned_move P a (keep s) k r h = tt
  turned_move P a (give (again x)) k r h = tt
  turned_move P a (give (done x)) k r h = tt
  turned_move P a (before (again x)) k r h = h x
  turned_move P a (before (done x)) k r h = tt
  turned_move P a (refuse e) k r h = r

  pub refuses_loop : (P : ℕ → F → Type 0) (m : A → Step S (Turn A B) F) → ((a : A) → Refuses P (m a)) → Refuses P (loop go m)
  refuses_loop P m M c p b =
      turned_move (P p) c.0 (m c.0 c.1 p b) _ (M c.0 c.1 p b)
      (λ a'. turned_move (P p) a' (m a' (go a') p b) _ (M a' (go a') p b) (λ a''. tt))
