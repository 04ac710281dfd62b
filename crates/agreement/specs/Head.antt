-- A head is read exactly where its start line stands and a header block behind it.
-- Assumes nothing.
use Rattle.std.specs.Prelude.{ℕ, []}
use Rattle.reader.specs.Machine.{Step}
use Rattle.reader.specs.Judged.{pass, judged}
use Rattle.reader.specs.Seq.{first}
use Rattle.exact.specs.Exact.{Relation, Exact}
use Rattle.exact.specs.Judged.{Passes, exact_judged}
use Rattle.exact.specs.Seq.{Both}
use Rattle.exact.proofs.Seq.{exact_seq}
use Rattle.parts.specs.declared.Fault.{Fault}
use Rattle.rules.specs.Rules.{Rules}
use Rattle.blocks.specs.Block.{block_step}
use Rattle.heads.specs.Head.{Known, block_on, head_step}
use Rattle.agreement.specs.Block.{Blocked, exact_block}

-- what a start line relates, and a block behind it
abbrev pub Headed : {K : Type 0} → Rules → ℕ → Relation K → Relation (Known K)
Headed {K} r n G = Both (Passes {F = Fault × Known K} pass G) (λ k. Passes {F = Fault × Known K} (λ hs. pass (k, hs)) (Blocked r n))

module _ (r : Rules) (n : ℕ) where
  pub exact_head : {K S : Type 0} (m : Step S K (Fault × K)) (known : S → K) (s : S) {G : Relation K} → Exact m s G → Exact (head_step r n m known s) (first s) (Headed r n G)
  exact_head m known s M =
      exact_seq (judged pass (λ x. (x.0, (x.1, []))) m) (λ _. ([], first tt)) (block_on r n m known s) s
      (exact_judged pass (λ x. (x.0, (x.1, []))) m M)
      (λ k. exact_judged (λ hs. pass (k, hs)) (λ x. (x.0, (k, x.1))) (block_step r n) (exact_block r n))
