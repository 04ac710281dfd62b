-- One machine after another: the second starts where the first answered, and knows its answer.
-- Assumes nothing.
use Rattle.std.specs.Prelude.{◌≡◌, refl, List, [], ◌∷◌, ℕ, ◌+◌, drop}
use Rattle.reader.specs.Machine.{Move, keep, give, before, refuse, Step, after, run, run_at}
use Rattle.reader.specs.Bytes.{drop_tail}
use Rattle.reader.specs.Lifted.{ran, run_lifted}
use Rattle.reader.specs.Seq.{bind, cross, first, second, seq}

module _ {S A T B F : Type 0} where
  module _ (m : Step S A F) (start : A → T) (n : A → Step T B F) where
    pub run_second : (a : A) (bs : List ℕ) (t : T) (p : ℕ) → run (seq m start n) (second a t) p bs ≡ ran (second a) (run (n a) t p bs)
    run_second a = run_lifted (second a) (n a) (seq m start n) (λ t p b. refl)

    bind_step : (xs : List ℕ) (b : ℕ) (bs : List ℕ) (p : ℕ) → drop p xs ≡ b ∷ bs → (v : Move S A F) → ((s : S) → run (seq m start n) (first s) (p + 1) bs ≡ bind (run m s (p + 1) bs) (λ a q. run_at (n a) (start a) xs q)) → after (cross v start (λ a. n a (start a) p b)) p (λ s'. run (seq m start n) s' (p + 1) bs) ≡ bind (after v p (λ s'. run m s' (p + 1) bs)) (λ a q. run_at (n a) (start a) xs q)
    bind_step xs b bs p e (keep s) ih = ih s
    bind_step xs b bs p e (give a) ih = rw (drop_tail xs p e) (run_second a bs (start a) (p + 1))
    bind_step xs b bs p e (before a) ih = rw e (run_second a (b ∷ bs) (start a) p)
    bind_step xs b bs p e (refuse r) ih = refl

    run_first : (xs bs : List ℕ) (s : S) (p : ℕ) → drop p xs ≡ bs → run (seq m start n) (first s) p bs ≡ bind (run m s p bs) (λ a q. run_at (n a) (start a) xs q)
    run_first xs [] s p e = refl
    run_first xs (b ∷ bs) s p e = bind_step xs b bs p e (m s p b) (λ s'. run_first xs bs s' (p + 1) (drop_tail xs p e))

    pub run_seq : (s : S) (xs : List ℕ) (p : ℕ) → run_at (seq m start n) (first s) xs p ≡ bind (run_at m s xs p) (λ a q. run_at (n a) (start a) xs q)
    run_seq s xs p = run_first xs (drop p xs) s p refl
