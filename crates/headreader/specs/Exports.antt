-- What each function for C promises: its numbers are the call's answer.
-- Assumes nothing.
use Rattle.std.specs.Prelude.{ℕ, ◌/◌, ◌≡◌, List, [], length}
use Rattle.rules.specs.Rules.{Rules, default}
use Rattle.rules.specs.Settings.{request_rules, response_rules}
use Rattle.grammar.specs.Message.{IsRequestHead, IsResponseHead}
use Rattle.heads.specs.Head.{Told}
use Rattle.heads.specs.Calls.{request, response}
use Rattle.blocks.specs.Block as blocks
use Rattle.chunks.specs.Chunk.{chunk, size_of}
use Rattle.agreement.specs.Known.{RequestSays, StatusSays, RequestInside, StatusInside}
use Rattle.agreement.specs.Calls.{headers_of}
use Rattle.agreement.specs.Promises.{HeadPromise, FaultPromise, BlockAlone, SaysNothing, LiesNowhere, ChunkPromise, SizeFaultPromise}
use Rattle.numbers.specs.Numbers.{settings_of, kind_of, request_numbers, response_numbers, block_numbers, size_kind, size_numbers}

-- there is an answer that the call may give, by its own contract, and it is told in numbers
pub record Export {A : Type 0} (Told Promised Placed : A → Type 0) (kind_is : A → ℕ) (numbers_of : A → List ℕ) (r : ℕ) (out : List ℕ) : Type 0 where
  pub answer : A
  pub told : Told answer
  pub promise : Promised answer
  pub place : Placed answer
  pub kind : r ≡ kind_is answer
  pub numbers : out ≡ numbers_of answer

-- a request or a response, by any rules
abbrev pub RequestBy : Rules → List ℕ → List ℕ → ℕ → List ℕ → List ℕ → Type 0
RequestBy rules s old r out new =
    Export (λ h. Told (request rules (length old / 4) s) h.end h.line h.count old new) (λ h. HeadPromise rules (IsRequestHead rules) RequestSays (RequestInside rules) s old h.end h.line h.count new) (λ h. FaultPromise rules (length old / 4) (request rules (length old / 4)) s h.end) (λ h. kind_of h.end) request_numbers r out

abbrev pub ResponseBy : Rules → List ℕ → List ℕ → ℕ → List ℕ → List ℕ → Type 0
ResponseBy rules s old r out new =
    Export (λ h. Told (response rules (length old / 4) s) h.end h.line h.count old new) (λ h. HeadPromise rules (IsResponseHead rules) StatusSays StatusInside s old h.end h.line h.count new) (λ h. FaultPromise rules (length old / 4) (response rules (length old / 4)) s h.end) (λ h. kind_of h.end) response_numbers r out

module _ (s old : List ℕ) (r : ℕ) (out new : List ℕ) where
  -- by those that the bits of the settings choose
  abbrev pub RequestExport : ℕ → Type 0
  RequestExport bits = RequestBy (request_rules (settings_of bits)) s old r out new

  abbrev pub ResponseExport : ℕ → Type 0
  ResponseExport bits = ResponseBy (response_rules (settings_of bits)) s old r out new

  abbrev pub HeadersExport : Type 0
  HeadersExport =
      Export (λ b. blocks.Told (blocks.block default (length old / 4) [] s 0) b old new) (λ b. HeadPromise default BlockAlone SaysNothing LiesNowhere s old b.end tt b.count new) (λ b. FaultPromise default (length old / 4) (headers_of (length old / 4)) s b.end) (λ b. kind_of b.end) block_numbers r out

abbrev pub SizeExport : List ℕ → ℕ → List ℕ → Type 0
SizeExport s r out = Export (λ z. size_of z ≡ chunk default s) (ChunkPromise s) (SizeFaultPromise s) size_kind size_numbers r out
