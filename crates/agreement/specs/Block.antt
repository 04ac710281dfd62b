-- A header block is read exactly where lines stand whose headers fit the slots, up to the empty one.
-- Assumes nothing.
use Rattle.std.specs.Prelude.{ℕ, ◌+◌, ◌≤◌, List, [], length}
use Rattle.std.proofs.Common.{arith, ap, length-append}
use Rattle.reader.specs.Loop.{Turn}
use Rattle.reader.specs.Branch.{fresh}
use Rattle.reader.specs.Seq.{first}
use Rattle.exact.specs.Exact.{Relation, Exact}
use Rattle.exact.specs.Judged.{Passes, exact_judged}
use Rattle.exact.specs.Branch.{one, other}
use Rattle.exact.specs.Loop.{Laps}
use Rattle.exact.proofs.Loop.{exact_loop}
use Rattle.rules.specs.Rules.{Rules}
use Rattle.fields.specs.declared.Header.{Header}
use Rattle.fields.specs.Line.{Kind, line_step}
use Rattle.blocks.specs.Block.{taken, blanks_before, next_line_step, lap_step, block_step}
use Rattle.blocks.proofs.BlockRead.{block_fresh}
use Rattle.leaves.specs.Gap.{BehindGap, exact_behind_gap}
use Rattle.lengths.specs.Lengths.{ends_long}
use Rattle.agreement.specs.Tried.{good, wrong}
use Rattle.agreement.specs.Line.{Lined, exact_line}
use Rattle.agreement.specs.Folded.{lines_longer}

-- a line with the headers hs before it, and n slots
abbrev pub Lapped : Rules → ℕ → List Header → Relation (Turn (List Header) (List Header))
Lapped r n hs = Passes (taken n hs) (BehindGap (blanks_before r hs) (Lined r))

abbrev pub Blocked : Rules → ℕ → Relation (List Header)
Blocked r n = Laps (Lapped r n) []

pub line_long : (r : Rules) (p : ℕ) (w : List ℕ) (k : Kind) (rest : List ℕ) → Lined r p w k rest → 1 ≤ length w
line_long r p w k rest (one b bs e h g) = ends_long g.holds
line_long r p w k rest (other b bs e h (good g)) =
    omega (arith, ap length g.whole, length-append g.w₁ g.w₂, lines_longer g.right.holds)
line_long r p w k rest (other b bs e h (wrong w₁ w₂ o i W R j)) =
    omega (arith, ap length i, length-append w₁ w₂, ap length R.whole, length-append R.w₁ R.w₂, ends_long R.right)

module _ (r : Rules) (n : ℕ) where
  pub exact_block : Exact (block_step r n) ([], first tt) (Blocked r n)
  exact_block =
      exact_loop (λ _. first tt) (lap_step r n) (block_fresh r n)
      (λ hs. exact_judged (taken n hs) (λ e. (e, hs)) (next_line_step r hs) (exact_behind_gap (blanks_before r hs) (line_step r) fresh (exact_line r)))
      (λ hs p w hs' rest K. let B = K.holds in omega (arith, ap length B.whole, length-append B.w₁ B.w₂, line_long r (p + length B.w₁) B.w₂ K.a rest B.right)) []
