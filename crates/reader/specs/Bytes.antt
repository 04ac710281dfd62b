-- The bytes of an input from a position on.
-- Assumes nothing.
use Rattle.std.specs.Prelude.{◌≡◌, List, [], ◌∷◌, ℕ, zero, suc, ◌+◌, ◌<◌, length, get_or, drop}
use Rattle.std.proofs.Common.{add-one, drop-cons}

-- within the input: the byte there, and the ones behind it
pub drop_in : (xs : List ℕ) (i : ℕ) → i < length xs → drop i xs ≡ get_or xs i 0 ∷ drop (i + 1) xs
drop_in xs i h = rw (add-one, drop-cons xs i 0)

drop_suc : (xs : List ℕ) (p : ℕ) {b : ℕ} {bs : List ℕ} → drop p xs ≡ b ∷ bs → drop (suc p) xs ≡ bs
drop_suc [] zero e = cc
drop_suc [] (suc p) e = cc
drop_suc (x ∷ xs) zero e = cc
drop_suc (x ∷ xs) (suc p) e = drop_suc xs p e

pub drop_tail : (xs : List ℕ) (p : ℕ) {b : ℕ} {bs : List ℕ} → drop p xs ≡ b ∷ bs → drop (p + 1) xs ≡ bs
drop_tail xs p e = rw add-one (drop_suc xs p e)
