-- The laws of one machine's runs: a step, the end, more bytes, and where an answer or a refusal lies.
-- The theorems stand in proofs/Laws.antt. Assumes nothing.
use Rattle.std.specs.Prelude.{List, ℕ}
use Rattle.reader.specs.Machine.{Run, more, gave, refused, Step, run}

module _ {S A F : Type 0} (m : Step S A F) where
  -- what a run up to position p comes to where the bytes cs follow
  abbrev pub resume : Run S A F → ℕ → List ℕ → Run S A F
  resume (more s) p cs = run m s p cs
  resume (gave a q) p cs = gave a q
  resume (refused e q) p cs = refused e q
