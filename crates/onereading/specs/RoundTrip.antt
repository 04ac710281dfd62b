-- What was read can be written; a call on what was written is complete at its end and gives the same fields back; and written again
-- these are the same bytes.
-- The theorems stand in proofs/RoundTrip.antt. Assumes nothing.
use Rattle.std.specs.Prelude.{ℕ, List}
use Rattle.rules.specs.Rules.{Rules, default}
use Rattle.grammar.specs.Message.{IsRequestTarget, IsRequestHead, IsResponseHead}
use Rattle.requestline.specs.declared.RequestLine.{RequestLine}
use Rattle.statusline.specs.declared.StatusLine.{StatusLine}
use Rattle.heads.specs.declared.Head.{Head}
use Rattle.blocks.specs.declared.Block.{Block}
use Rattle.agreement.specs.Known.{RequestSays, StatusSays, RequestInside, StatusInside}
use Rattle.agreement.specs.Promises.{HeadPromise, BlockAlone, SaysNothing, LiesNowhere}

-- requests: a call's promise
abbrev pub RequestPromise : Rules → List ℕ → List ℕ → Head RequestLine → List ℕ → Type 0
RequestPromise r s old head new = HeadPromise r (IsRequestHead r) RequestSays (RequestInside r) s old head.end head.line head.count new

-- the second reading takes the targets of the first: the default takes those of all rules, and any rules their own
abbrev pub Takes : Rules → Rules → Type 0
Takes r r' = (t : List ℕ) → IsRequestTarget r t → IsRequestTarget r' t

-- responses
abbrev pub ResponsePromise : Rules → List ℕ → List ℕ → Head StatusLine → List ℕ → Type 0
ResponsePromise r s old head new = HeadPromise r (IsResponseHead r) StatusSays StatusInside s old head.end head.line head.count new

-- the second reading is by default, or by the rules of the first
pub data Again (r : Rules) : Rules → Type 0 where
  by_default : Again r default
  by_own : Again r r

-- headers alone
abbrev pub BlockPromise : List ℕ → List ℕ → Block → List ℕ → Type 0
BlockPromise s old block new = HeadPromise default BlockAlone SaysNothing LiesNowhere s old block.end tt block.count new
