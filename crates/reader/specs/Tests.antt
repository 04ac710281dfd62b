-- What follows from a test, or from two, whichever way they go, and from what never is.
-- Assumes nothing.
use Rattle.std.specs.Prelude.{ℕ, ◌≡◌, refl, Bool, true, false, cond, ◌&&◌}
use Rattle.std.proofs.Common.{arith, sym, ◌∙◌}
use Rattle.std.proofs.lemmas.Bool.{false≢true}

-- what holds of either outcome of a test holds of the outcome
pub split {ℓ} : {A : Type ℓ} (P : A → Type 0) (t : Bool) {a b : A} → (t ≡ true → P a) → (t ≡ false → P b) → P (cond t a b)
split P true f g = f refl
split P false f g = g refl

-- two tests that both hold
pub both_true : (s t : Bool) → (s && t) ≡ true → (s ≡ true) × (t ≡ true)
both_true true t e = (refl, e)
both_true false t e = absurd (false≢true e)

-- a test goes one way
pub clash : {t : Bool} → t ≡ true → t ≡ false → ⊥
clash h k = false≢true (sym k ∙ h)

-- whatever is asked, where 0 is 1: `never cc`, where cc finds two constructors equal
pub never : {P : Type 0} → ◌≡◌ {A = ℕ} 0 1 → P
never e = absurd (omega arith)
