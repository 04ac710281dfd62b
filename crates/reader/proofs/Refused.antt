-- What is answered on the first bytes of an input that is refused: without the byte the machine waits, and with it the refusal is there.
-- Assumes nothing.
use Rattle.std.specs.Prelude.{◌≡◌, List, ◌++◌, ℕ, ◌+◌, ◌≤◌, ◌<◌, length, take, drop}
use Rattle.std.proofs.Common.{ap, ◌∙◌, arith, take-append-drop, length-take-le}
use Rattle.reader.specs.Machine.{refused, Step, run, run_at}
use Rattle.reader.proofs.Laws.{refused_stays, refused_within}
use Rattle.reader.specs.Answer.{short, bad, answer}
use Rattle.reader.proofs.Decided.{refused_early, refused_late}

module _ {S U A F : Type 0} (known : S → U) (m : Step S A F) (s : S) (z : List ℕ) {x : F} {q : ℕ} (e : run_at m s z 0 ≡ refused x q) where
  pub refused_in : q < length z
  refused_in = omega (arith, refused_within m z s 0 e)

  pub waits_before : (k : ℕ) → k ≤ q → (u : U) × (answer known (run_at m s (take k z) 0) ≡ short u)
  waits_before k l =
      let i : 0 + length (take k z) ≤ q = omega (arith, length-take-le k z (omega (arith, refused_in, l)), l) in
      let w = refused_late m (take k z) (drop k z) s 0 (ap (run m s 0) (take-append-drop k z) ∙ e) i in
      (known w.0, ap (answer known) w.1)

  pub decided_there : (u : List ℕ) → answer known (run_at m s (take (q + 1) z ++ u) 0) ≡ bad x
  decided_there u =
      let i : q < 0 + length (take (q + 1) z) = omega (arith, length-take-le (q + 1) z (omega (arith, refused_in))) in
      ap (answer known) (refused_stays m (take (q + 1) z) u s 0 (refused_early m (take (q + 1) z) (drop (q + 1) z) s 0 (ap (run m s 0) (take-append-drop (q + 1) z) ∙ e) i))
