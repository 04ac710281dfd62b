-- The readers of the calls are exact for the grammar, and so the calls keep their promises.
-- The theorems stand in proofs/Calls.antt. Assumes nothing.
use Rattle.std.specs.Prelude.{ℕ, List, []}
use Rattle.rules.specs.Rules.{default}
use Rattle.blocks.specs.Block.{Blocks, block}
use Rattle.heads.specs.Head.{Heads, over}

-- the answer of a block as that of a head with no start line
abbrev pub alone : Blocks → Heads (Unit {0})
alone b = over {K = Unit {0}} tt b

abbrev pub headers_of : ℕ → List ℕ → Heads (Unit {0})
headers_of n z = alone (block default n [] z 0)
