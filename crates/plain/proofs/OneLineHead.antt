-- The values of a whole head stand on one line where no setting lets them go on over several.
-- Assumes nothing.
use Rattle.std.specs.Prelude.{ℕ, ◌≡◌, List, false}
use Rattle.rules.specs.Rules.{Rules}
use Rattle.grammar.specs.Fields.{Field}
use Rattle.grammar.specs.Message.{head}
use Rattle.grammar.specs.Message as grammar
use Rattle.plain.specs.Plain.{OneLine}
use Rattle.plain.proofs.OneLine.{block_off}

module _ {r : Rules} (off : r.multiline_headers ≡ false) where
  pub head_off : {L : Type 0} {A : List ℕ → L → Type 0} {w : List ℕ} {l : L} {fs : List Field} → head r A w l fs → OneLine fs
  head_off (grammar.head.message e k c b) = block_off off b
