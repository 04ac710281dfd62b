-- Rows of bytes of one kind (RFC 5234, section 3.6).
-- Assumes nothing.
use Rattle.std.specs.Prelude.{ℕ, List, [], ◌∷◌}

-- *c: any number of bytes c
pub data Many (c : ℕ → Type 0) : List ℕ → Type 0 where
  none : Many c []
  more : {b : ℕ} {w : List ℕ} → c b → Many c w → Many c (b ∷ w)

-- 1*c: at least one
pub data Some (c : ℕ → Type 0) : List ℕ → Type 0 where
  some : {b : ℕ} {w : List ℕ} → c b → Many c w → Some c (b ∷ w)
