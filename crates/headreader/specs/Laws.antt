-- One law for each way through the code.
-- Assumes nothing.
use Rattle.std.specs.Prelude.{ℕ, ◌/◌, ◌%◌, ◌≡◌, List, [], ◌∷◌}
use Rattle.std.proofs.Common.{sym, ap, subst, ◌∙◌}
use Rattle.rules.specs.declared.Settings.{Settings}
use Rattle.rules.specs.Rules.{default}
use Rattle.rules.specs.Settings.{request_rules, response_rules}
use Rattle.blocks.specs.declared.Block.{Block}
use Rattle.chunks.specs.Chunk.{ChunkSize, chunk, size_of}
use Rattle.agreement.specs.Promises.{ChunkPromise, SizeFaultPromise}
use Rattle.numbers.specs.Numbers.{settings_of, position_of, block_numbers, size_kind, size_numbers}
use Rattle.headreader.specs.Exports.{RequestBy, ResponseBy, RequestExport, ResponseExport, SizeExport}

pub block_numbers_lem : (block : Block) {p : ℕ} {out : List ℕ} → p ≡ position_of block.end → out ≡ p ∷ block.count ∷ 0 ∷ 0 ∷ 0 ∷ 0 ∷ 0 ∷ 0 ∷ [] → out ≡ block_numbers block
block_numbers_lem block a o = o ∙ rw a

-- the same settings choose the same rules
module _ {a b : Settings} {s old : List ℕ} {r : ℕ} {out new : List ℕ} (e : a ≡ b) where
  pub request_by : RequestBy (request_rules a) s old r out new → RequestBy (request_rules b) s old r out new
  request_by x = subst (λ y. RequestBy (request_rules y) s old r out new) e x

  pub response_by : ResponseBy (response_rules a) s old r out new → ResponseBy (response_rules b) s old r out new
  response_by x = subst (λ y. ResponseBy (response_rules y) s old r out new) e x

-- with the bits clear that concern a request, whatever the others are, the function for C tells the answer under the default, as it did before
-- there were settings; so of a response
module _ (bits : ℕ) {s old : List ℕ} {r : ℕ} {out new : List ℕ} where
  pub request_clear : (bits / 4) % 2 ≡ 0 → (bits / 16) % 2 ≡ 0 → (bits / 64) % 2 ≡ 0 → (bits / 128) % 2 ≡ 0 → RequestExport s old r out new bits → RequestBy default s old r out new
  request_clear a b c d x = subst (λ y. RequestBy y s old r out new) same x
    where
      same : request_rules (settings_of bits) ≡ default
      same = rw (a, b, c, d)

  pub response_clear : bits % 2 ≡ 0 → (bits / 2) % 2 ≡ 0 → (bits / 8) % 2 ≡ 0 → (bits / 16) % 2 ≡ 0 → (bits / 32) % 2 ≡ 0 → ResponseExport s old r out new bits → ResponseBy default s old r out new
  response_clear a b c d e x = subst (λ y. ResponseBy y s old r out new) same x
    where
      same : response_rules (settings_of bits) ≡ default
      same = rw (a, b, c, d, e)

-- a chunk size line: z is what the arm took it for
pub size_told : {s : List ℕ} {size z : ChunkSize} {r : ℕ} {out : List ℕ} → size_of size ≡ chunk default s → ChunkPromise s size → SizeFaultPromise s size → size ≡ z → r ≡ size_kind z → out ≡ size_numbers z → SizeExport s r out
size_told {size = size} t p f h k o = record { answer = size; told = t; promise = p; place = f; kind = k ∙ sym (ap size_kind h); numbers = o ∙ sym (ap size_numbers h) }
