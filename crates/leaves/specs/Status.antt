-- A code is read exactly where three digits stand.
-- Assumes nothing.
use Rattle.std.specs.Prelude.{ℕ, ◌+◌, ◌≡◌, refl, List, [], ◌∷◌, ◌++◌, length}
use Rattle.std.proofs.Common.{arith, sym, ap, subst, ◌∙◌}
use Rattle.reader.specs.Machine.{gave, after, run}
use Rattle.reader.specs.Tests.{split, never}
use Rattle.exact.specs.Exact.{Part, Exact}
use Rattle.octets.specs.Class.{is_digit}
use Rattle.status.specs.Code.{none, one, two, onto, code_step}
use Rattle.leaves.specs.Rows.{In}

-- three digits, and the number that they write
pub data Coded (p : ℕ) : List ℕ → ℕ → List ℕ → Type 0 where
  digits : {a b c : ℕ} {rest : List ℕ} → In is_digit a → In is_digit b → In is_digit c → Coded p (a ∷ b ∷ c ∷ []) (onto (onto (onto 0 a) b) c) rest

sound_three : (v p : ℕ) (xs : List ℕ) (n q : ℕ) → run code_step (two v) p xs ≡ gave n q → (c : ℕ) × (ys : List ℕ) × (xs ≡ c ∷ ys) × In is_digit c × (n ≡ onto v c) × (q ≡ p + 1)
sound_three v p [] n q = λ e. never cc
sound_three v p (c ∷ ys) n q =
    split (λ u. after u p (λ s. run code_step s (p + 1) ys) ≡ gave n q → (c' : ℕ) × (zs : List ℕ) × (c ∷ ys ≡ c' ∷ zs) × In is_digit c' × (n ≡ onto v c') × (q ≡ p + 1)) (is_digit c)
    (λ h e. let i : onto v c ≡ n = cc in let j : p + 1 ≡ q = cc in (c, ys, refl, h, sym i, sym j))
    (λ h e. never cc)

sound_two : (v p : ℕ) (xs : List ℕ) (n q : ℕ) → run code_step (one v) p xs ≡ gave n q → (b c : ℕ) × (ys : List ℕ) × (xs ≡ b ∷ c ∷ ys) × In is_digit b × In is_digit c × (n ≡ onto (onto v b) c) × (q ≡ p + 2)
sound_two v p [] n q = λ e. never cc
sound_two v p (b ∷ ys) n q =
    split (λ u. after u p (λ s. run code_step s (p + 1) ys) ≡ gave n q → (b' c : ℕ) × (zs : List ℕ) × (b ∷ ys ≡ b' ∷ c ∷ zs) × In is_digit b' × In is_digit c × (n ≡ onto (onto v b') c) × (q ≡ p + 2)) (is_digit b)
    (λ h e. let k = sound_three (onto v b) (p + 1) ys n q e in (b, k.0, k.1, ap (λ y. b ∷ y) k.2, h, k.3, k.4, k.5 ∙ omega arith))
    (λ h e. never cc)

sound_code : (p : ℕ) (xs : List ℕ) (n q : ℕ) → run code_step none p xs ≡ gave n q → Part Coded p xs n q
sound_code p [] n q = λ e. never cc
sound_code p (a ∷ ys) n q =
    split (λ u. after u p (λ s. run code_step s (p + 1) ys) ≡ gave n q → Part Coded p (a ∷ ys) n q) (is_digit a)
    (λ h e. let k = sound_two (onto 0 a) (p + 1) ys n q e in record { w = a ∷ k.0 ∷ k.1 ∷ []; rest = k.2; whole = ap (λ y. a ∷ y) k.3; place = omega (arith, k.7); holds = subst (λ y. Coded p (a ∷ k.0 ∷ k.1 ∷ []) y k.2) (sym k.6) (digits h k.4 k.5) })
    (λ h e. never cc)

complete_code : (p : ℕ) (w rest : List ℕ) (n : ℕ) → Coded p w n rest → run code_step none p (w ++ rest) ≡ gave n (p + length w)
complete_code p w rest n (digits {a = a} {b = b} {c = c} x y z) = let l : p + 1 + 1 + 1 ≡ p + 3 = omega arith in rw (x, y, z, l)

pub exact_code : Exact code_step none Coded
exact_code = record { sound = sound_code; complete = complete_code }
