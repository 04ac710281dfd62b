-- Heads in a row: the same bytes are no two rows of heads, and reading them from each end on gives exactly those heads.
-- The theorems stand in proofs/Rows.antt. Assumes nothing.
use Rattle.std.specs.Prelude.{ℕ, ◌≡◌, List, ◌∷◌, ◌++◌}
use Rattle.grammar.specs.Fields.{Field}

-- two rows at the start of the same bytes: the first goes on behind the second, or another head of the second is next in rest
pub data Beside {L : Type 0} (Head : List ℕ → L → List Field → Type 0) (rest : List ℕ) (gs hs : List (L × List Field)) (ds es : List ℕ) : Type 0 where
  beyond : (more : List (L × List Field)) (ends : List ℕ) → gs ≡ hs ++ more → ds ≡ es ++ ends → Beside Head rest gs hs ds es
  short : (w v : List ℕ) (l : L) (fs : List Field) (left : List (L × List Field)) → Head w l fs → rest ≡ w ++ v → hs ≡ gs ++ ((l, fs) ∷ left) → Beside Head rest gs hs ds es
