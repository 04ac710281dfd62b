-- A part in a row of parts: what is known before it stands in its refusals and where the bytes run out, and its answer adds to it.
-- Assumes nothing.
use Rattle.std.specs.Prelude.{◌≡◌, refl, List, Bool, true, ℕ, zero, suc, ◌+◌, ◌-◌, ◌≤◌, ◌<◌, length, get_or, drop}
use Rattle.std.proofs.Common.{ap, ◌∙◌, arith}
use Rattle.reader.specs.Machine.{keep, Step, run_at}
use Rattle.reader.proofs.Laws.{run_in, run_out}
use Rattle.reader.specs.Judged.{pass, judged}
use Rattle.reader.specs.Seq.{first, seq}
use Rattle.reader.specs.Answer.{Answer, got, short, bad, answer, retold, and, either}
use Rattle.reader.proofs.Answer.{answer_judged, answer_seq}
use Rattle.reader.specs.Chain.{chain, ended, last, nothing, part, reads}

-- at the end of the input it wants more
pub reads_none : {S A E : Type 0} (m : Step S A E) (s : S) (xs : List ℕ) (i : ℕ) → length xs ≤ i → short tt ≡ reads m s xs i
reads_none m s xs i h = rw (run_out m s xs i h)

-- so it does where bytes of a class lead there, each from a state of a kind to another of it
module _ {S A E X : Type 0} (m : Step S A E) (class : ℕ → Bool) (state : X → S) (next : X → ℕ → ℕ → X) (leads : (x : X) (q b : ℕ) → class b ≡ true → m (state x) q b ≡ keep (state (next x q b))) (xs : List ℕ) where
  out_by : (d i : ℕ) (x : X) → i + d ≡ length xs → ((k : ℕ) → i ≤ k → k < length xs → class (get_or xs k 0) ≡ true) → short tt ≡ reads m (state x) xs i
  out_by zero i x e g = reads_none m (state x) xs i (omega arith)
  out_by (suc d) i x e g = rw (run_in m (state x) xs i (omega arith), leads x i (get_or xs i 0) (g i (omega arith) (omega arith))) (out_by d (i + 1) (next x i (get_or xs i 0)) (omega arith) (λ k lo hi. g k (omega arith) hi))

  pub reads_out : (i : ℕ) (x : X) → i ≤ length xs → ((k : ℕ) → i ≤ k → k < length xs → class (get_or xs k 0) ≡ true) → short tt ≡ reads m (state x) xs i
  reads_out i x h = out_by (length xs - i) i x (omega arith)

pub answer_ended : {S A C E : Type 0} (c : C) (m : Step S A E) (s : S) (xs : List ℕ) (p : ℕ) → reads (judged (λ _. pass c) (λ e. e) m) s xs p ≡ ended c (reads m s xs p)
answer_ended {A = A} {E = E} c m s xs p = answer_judged (λ u. u) (λ _. pass c) (λ e. e) nothing m (drop p xs) s p ∙ told (reads m s xs p)
  where
    told : (r : Answer (Unit {0}) A E) → retold (λ u. u) (λ _. pass c) (λ e. e) r ≡ ended c r
    told (got a q) = refl
    told (short u) = refl
    told (bad e) = refl

module _ {K A E : Type 0} (k : K) (f : A → K) where
  pub chain_same : {B : Type 0} (r : Answer (Unit {0}) A E) {next next' : K → ℕ → Answer K B (E × K)} → ((k' : K) (q : ℕ) → next k' q ≡ next' k' q) → chain k f r next ≡ chain k f r next'
  chain_same (got a q) h = h (f a) q
  chain_same (short u) h = refl
  chain_same (bad e) h = refl

  told_last : (r : Answer (Unit {0}) A E) → retold (λ _. k) (λ a. pass (f a)) (λ e. (e, k)) r ≡ last k f r
  told_last (got a q) = refl
  told_last (short u) = refl
  told_last (bad e) = refl

  told_chain : {B : Type 0} (r : Answer (Unit {0}) A E) (next : K → ℕ → Answer K B (E × K)) → and (last k f r) next ≡ chain k f r next
  told_chain (got a q) next = refl
  told_chain (short u) next = refl
  told_chain (bad e) next = refl

  module _ {S : Type 0} (m : Step S A E) (s : S) (xs : List ℕ) (p : ℕ) where
    pub answer_last : answer (λ _. k) (run_at (part k f m) s xs p) ≡ last k f (reads m s xs p)
    answer_last = answer_judged (λ _. k) (λ a. pass (f a)) (λ e. (e, k)) nothing m (drop p xs) s p ∙ told_last (reads m s xs p)

    pub answer_chain : {B T : Type 0} (known : K → T → K) (start : K → T) (n : K → Step T B (E × K)) → answer (either (λ _. k) known) (run_at (seq (part k f m) start n) (first s) xs p) ≡ chain k f (reads m s xs p) (λ k' q. answer (known k') (run_at (n k') (start k') xs q))
    answer_chain known start n =
        answer_seq (λ _. k) known (part k f m) start n s xs p
        ∙ ap (λ r. and r (λ k' q. answer (known k') (run_at (n k') (start k') xs q))) answer_last
        ∙ told_chain (reads m s xs p) (λ k' q. answer (known k') (run_at (n k') (start k') xs q))
