-- Two tests of a number that agree at each number of a range: one comparison that antt computes.
-- Assumes nothing.
use Rattle.std.specs.Prelude.{ℕ, zero, suc, ◌+◌, ◌-◌, ◌≤◌, ◌<◌, ◌≡◌, List, [], ◌∷◌, Bool, false, get_or}
use Rattle.std.proofs.Common.{arith, sym, ap, ◌∙◌}

-- f at the d numbers from i on
abbrev pub table : (ℕ → Bool) → ℕ → ℕ → List Bool
table f zero i = []
table f (suc d) i = f i ∷ table f d (suc i)

table_at : (f : ℕ → Bool) (d i k : ℕ) → k < d → get_or (table f d i) k false ≡ f (i + k)
table_at f zero i k h = absurd (omega arith)
table_at f (suc d) i zero h = ap f (omega arith)
table_at f (suc d) i (suc k) h = table_at f d (suc i) k (omega arith) ∙ ap f (omega arith)

pub same_from : (f g : ℕ → Bool) (i d : ℕ) → table f d i ≡ table g d i → (k : ℕ) → i ≤ k → k < i + d → f k ≡ g k
same_from f g i d e k l u =
    let q : i + (k - i) ≡ k = omega arith in
    ap f (sym q) ∙ sym (table_at f d i (k - i) (omega arith)) ∙ ap (λ x. get_or x (k - i) false) e ∙ table_at g d i (k - i) (omega arith) ∙ ap g q

-- at every byte
pub same : (f g : ℕ → Bool) → table f 256 0 ≡ table g 256 0 → (k : ℕ) → k < 256 → f k ≡ g k
same f g e k h = same_from f g 0 256 e k (omega arith) (omega arith)
