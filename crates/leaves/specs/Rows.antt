-- Rows of bytes of a class, and a machine that such a row leaves in its state.
-- Assumes nothing.
use Rattle.std.specs.Prelude.{ℕ, suc, ◌+◌, ◌≡◌, List, ◌++◌, Bool, true, length}
use Rattle.std.proofs.Common.{arith, ap, ◌∙◌}
use Rattle.reader.specs.Machine.{keep, Step, run}
use Rattle.grammar.specs.Rows.{Many, none, more}

-- a byte of a class
abbrev pub In : (ℕ → Bool) → ℕ → Type 0
In class b = class b ≡ true

-- a row of bytes that leave a machine in its state is passed over
module _ {S A F : Type 0} (m : Step S A F) (s : S) {P : ℕ → Type 0} (keeps : (b : ℕ) → P b → (q : ℕ) → m s q b ≡ keep s) where
  pub over : {w : List ℕ} → Many P w → (p : ℕ) (ys : List ℕ) → run m s p (w ++ ys) ≡ run m s (p + length w) ys
  over none p ys = let n : p ≡ p + 0 = omega arith in ap (λ y. run m s y ys) n
  over (more {b = b} {w = w} h k) p ys = let n : p + 1 + length w ≡ p + suc (length w) = omega arith in rw (keeps b h p) (over k (p + 1) ys ∙ ap (λ y. run m s y ys) n)
