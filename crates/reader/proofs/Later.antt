-- What a machine answers on the start of an input, and on all of it: the same, unless it was still waiting.
-- Assumes nothing.
use Rattle.std.specs.Prelude.{ℕ, zero, suc, ◌≡◌, refl, ◌⊎◌, List, [], ◌∷◌, ◌++◌, drop}
use Rattle.std.proofs.Common.{sym, subst, inl, inr}
use Rattle.reader.specs.Machine.{Run, more, gave, refused, Step, run, run_at}
use Rattle.reader.proofs.Laws.{gave_stays, refused_stays}
use Rattle.reader.specs.Answer.{Answer, got, short, bad, answer, and}
use Rattle.reader.specs.Chain.{last, chain, ended}
use Rattle.reader.specs.Known.{known_of}
use Rattle.reader.specs.Later.{Later, same, waited}

-- the bytes from a position on, where more are behind them
drop_split : (q : ℕ) (xs ys : List ℕ) → (drop q (xs ++ ys) ≡ drop q xs ++ ys) ⊎ (drop q xs ≡ [])
drop_split zero xs ys = inl refl
drop_split (suc q) [] ys = inr refl
drop_split (suc q) (x ∷ xs) ys = drop_split q xs ys

module _ {S U A F : Type 0} (known : S → U) (m : Step S A F) (s : S) where
  later_run : (q : ℕ) (bs cs : List ℕ) (v : Run S A F) → run m s q bs ≡ v → Later (answer known v) (answer known (run m s q (bs ++ cs)))
  later_run q bs cs (more t) e = waited
  later_run q bs cs (gave a i) e = subst (λ y. Later (got a i) (answer known y)) (sym (gave_stays m bs cs s q e)) same
  later_run q bs cs (refused x i) e = subst (λ y. Later (bad x) (answer known y)) (sym (refused_stays m bs cs s q e)) same

  pub later : (xs ys : List ℕ) (q : ℕ) → Later (answer known (run_at m s xs q)) (answer known (run_at m s (xs ++ ys) q))
  later xs ys q = by (drop_split q xs ys)
    where
      by : (drop q (xs ++ ys) ≡ drop q xs ++ ys) ⊎ (drop q xs ≡ []) → Later (answer known (run_at m s xs q)) (answer known (run_at m s (xs ++ ys) q))
      by (inl e) = subst (λ y. Later (answer known (run_at m s xs q)) (answer known (run m s q y))) (sym e) (later_run q (drop q xs) ys (run m s q (drop q xs)) refl)
      by (inr e) = subst (λ y. Later (answer known (run m s q y)) (answer known (run_at m s (xs ++ ys) q))) (sym e) waited

-- one part behind another
pub and_later : {U A B F : Type 0} {a b : Answer U A F} {f g : A → ℕ → Answer U B F} → Later a b → ((x : A) (q : ℕ) → Later (f x q) (g x q)) → Later (and a f) (and b g)
and_later (same {a = got x q}) h = h x q
and_later (same {a = short u}) h = same
and_later (same {a = bad e}) h = same
and_later waited h = waited

pub ended_later : {A C E : Type 0} (c : C) {a b : Answer (Unit {0}) A E} → Later a b → Later (ended c a) (ended c b)
ended_later c (same {a = got x q}) = same
ended_later c (same {a = short u}) = same
ended_later c (same {a = bad e}) = same
ended_later c waited = waited

-- G says that the second knows what the first knows
module _ {K A E : Type 0} (G : K → K → Type 0) (k : K) (f : A → K) where
  pub last_keeps : G k k → ((x : A) → G k (f x)) → (a : Answer (Unit {0}) A E) → G k (known_of (last k f a))
  last_keeps r g (got x q) = g x
  last_keeps r g (short u) = r
  last_keeps r g (bad e) = r

  pub last_grows : ((l : K) → G l l) → ((x : A) → G k (f x)) → {a b : Answer (Unit {0}) A E} → Later a b → G (known_of (last k f a)) (known_of (last k f b))
  last_grows r g (same {a = a}) = r (known_of (last k f a))
  last_grows r g (waited {b = b}) = last_keeps (r k) g b

  pub chain_keeps : ((l : K) → G l l) → ((x y z : K) → G x y → G y z → G x z) → ((x : A) → G k (f x)) → (next : K → ℕ → Answer K K (E × K)) → ((x : A) (q : ℕ) → G (f x) (known_of (next (f x) q))) → (a : Answer (Unit {0}) A E) → G k (known_of (chain k f a next))
  chain_keeps r t g next h (got x q) = t k (f x) (known_of (next (f x) q)) (g x) (h x q)
  chain_keeps r t g next h (short u) = r k
  chain_keeps r t g next h (bad e) = r k

  pub chain_grows : ((l : K) → G l l) → (next next' : K → ℕ → Answer K K (E × K)) → ((x : A) (q : ℕ) → G (known_of (next (f x) q)) (known_of (next' (f x) q))) → {a b : Answer (Unit {0}) A E} → Later a b → G k (known_of (chain k f b next')) → G (known_of (chain k f a next)) (known_of (chain k f b next'))
  chain_grows r next next' h (same {a = got x q}) w = h x q
  chain_grows r next next' h (same {a = short u}) w = r k
  chain_grows r next next' h (same {a = bad e}) w = r k
  chain_grows r next next' h waited w = w
