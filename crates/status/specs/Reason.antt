-- A reason phrase: any number of text bytes (RFC 9112, 4), given as empty where one of them is from 0x80 on.
-- Assumes nothing.
use Rattle.std.specs.Prelude.{ℕ, ◌+◌, ◌≤◌, ◌<◌, ◌≡◌, List, Bool, true, false, not, ◌&&◌, ◌||◌, cond, length, take, get_or}
use Rattle.std.proofs.Math.Decide.{dec_lt}
use Rattle.std.proofs.Common.{arith, sym, ap, ◌∙◌, length-take-le, get_or-take}
use Rattle.reader.specs.Machine.{keep, before, Step, run_at}
use Rattle.reader.specs.Skip.{Passed, Skipped}
use Rattle.reader.proofs.Skip.{passed_part, skip}
use Rattle.reader.proofs.Laws.{run_in, run_out}
use Rattle.reader.specs.Answer.{Answer, got, short}
use Rattle.reader.specs.Chain.{reads}
use Rattle.reader.proofs.Chain.{reads_out}
use Rattle.reader.specs.Tests.{both_true}
use Rattle.octets.specs.Class.{is_value, is_ascii}
use Rattle.parts.specs.declared.Fault.{Fault}
use Rattle.parts.specs.declared.Piece.{Piece}
use Rattle.parts.specs.Answers.{piece}

-- no piece at all, at a position
abbrev pub empty : ℕ → Piece
empty a = record { offset = a; length = 0 }

-- no byte yet; or bytes from a position on, and whether one of them was from 0x80 on
pub data Reason : Type 0 where
  none : Reason
  inside : ℕ → Bool → Reason

abbrev pub reason_step : Step Reason Piece Fault
reason_step none p b = cond (is_value b) (keep (inside p (not (is_ascii b)))) (before (piece p p))
reason_step (inside a obs) p b = cond (is_value b) (keep (inside a (obs || not (is_ascii b)))) (before (cond obs (empty a) (piece a p)))

abbrev pub reason : List ℕ → ℕ → Answer (Unit {0}) Piece Fault
reason xs at = reads reason_step none xs at

-- an ASCII byte of a reason
both : ℕ → Bool
both b = is_value b && is_ascii b

module _ (xs : List ℕ) (a : ℕ) where
  ascii_passed : {i j : ℕ} → i ≤ length xs → Passed is_value xs i j → Passed is_ascii xs i j → run_at reason_step (inside a false) xs i ≡ run_at reason_step (inside a false) xs j
  unfolding both
  ascii_passed l v c = skip reason_step both (inside a false) (λ q b e. let w = both_true (is_value b) (is_ascii b) e in rw (w.0, w.1)) xs l (record { from = v.from; inside = v.inside; past = v.past; all = λ k lo hi. rw (v.all k lo hi, c.all k lo hi) })

  obs_passed : {i j : ℕ} → i ≤ length xs → Passed is_value xs i j → run_at reason_step (inside a true) xs i ≡ run_at reason_step (inside a true) xs j
  obs_passed l v = skip reason_step is_value (inside a true) (λ q b e. rw e) xs l v

-- the bytes before r are r
pub part_size : (r : ℕ) (xs : List ℕ) → r < length xs → r ≡ length (take r xs)
part_size r xs l = sym (length-take-le r xs (omega (arith, l)))

-- a skip over the bytes before r, as one over all of them
module _ (xs : List ℕ) (r : ℕ) {at q : ℕ} (k : Skipped is_ascii (take r xs) at q) (a : at ≤ r) (l : r < length xs) where
  size : r ≡ length (take r xs)
  size = part_size r xs l

  within : q ≤ r
  within = omega (arith, k.passed.inside (omega (arith, a, size)), size)

  part_passed : Passed is_ascii xs at q
  part_passed = record {
    from = k.passed.from;
    inside = λ h. omega (arith, within, l);
    past = λ p. absurd (omega (arith, p, a, l));
    all = λ j lo hi. ap is_ascii (sym (get_or-take r xs j 0 (omega (arith, hi, within)))) ∙ k.passed.all j lo hi;
  }

  part_stop : q < r → is_ascii (get_or xs q 0) ≡ false
  part_stop h = ap is_ascii (sym (get_or-take r xs q 0 h)) ∙ k.stop (omega (arith, h, size))

module _ (xs : List ℕ) (at : ℕ) {r : ℕ} (v : Skipped is_value xs at r) where
  pub reason_more : length xs ≤ r → short tt ≡ reason xs at
  reason_more l = go (dec_lt at (length xs))
    where
      go : Dec (at < length xs) → short tt ≡ reason xs at
      go (yes h) =
          rw (run_in reason_step none xs at h, v.passed.all at (omega arith) (omega arith))
          (reads_out reason_step is_value (inside at) (λ obs q b. obs || not (is_ascii b)) (λ obs q b e. rw e) xs (at + 1) _ (omega arith) (λ k lo hi. v.passed.all k (omega arith) (omega arith)))
      go (no h) = rw (run_out reason_step none xs at (omega arith))

  module _ {q : ℕ} (k : Skipped is_ascii (take r xs) at q) (l : r < length xs) where
    c : Passed is_ascii xs at q
    c = part_passed xs r k v.passed.from l

    pub reason_ascii : r ≤ q → got (piece at r) r ≡ reason xs at
    reason_ascii e = go (dec_lt at r)
      where
        go : Dec (at < r) → got (piece at r) r ≡ reason xs at
        go (yes h) =
            rw (run_in reason_step none xs at (omega arith), v.passed.all at (omega arith) h, c.all at (omega arith) (omega arith), ascii_passed xs at {i = at + 1} {j = r} (omega arith) (passed_part (at + 1) r v.passed (omega arith) (omega arith) (omega arith)) (passed_part (at + 1) r c (omega arith) (omega arith) e), run_in reason_step (inside at false) xs r l, v.stop l)
        go (no h) = let u : r ≡ at = omega (arith, v.passed.from) in rw (u, run_in reason_step none xs at (omega arith), rw u at (v.stop l))

    pub reason_obs : q < r → got (empty at) r ≡ reason xs at
    reason_obs e = go (dec_lt at q)
      where
        behind : run_at reason_step (inside at true) xs (q + 1) ≡ run_at reason_step (inside at true) xs r
        behind = obs_passed xs at (omega arith) (passed_part (q + 1) r v.passed (omega (arith, c.from)) (omega arith) (omega arith))

        go : Dec (at < q) → got (empty at) r ≡ reason xs at
        go (yes h) =
            rw (run_in reason_step none xs at (omega arith), v.passed.all at (omega arith) (omega arith), c.all at (omega arith) h, ascii_passed xs at {i = at + 1} {j = q} (omega arith) (passed_part (at + 1) q v.passed (omega arith) (omega arith) (omega arith)) (passed_part (at + 1) q c (omega arith) (omega arith) (omega arith)), run_in reason_step (inside at false) xs q (omega arith), v.passed.all q (omega arith) e, part_stop xs r k v.passed.from l e, behind, run_in reason_step (inside at true) xs r l, v.stop l)
        go (no h) =
            let u : q ≡ at = omega (arith, c.from) in
            let s : is_ascii (get_or xs at 0) ≡ false = rw u at (part_stop xs r k v.passed.from l e) in
            let b : run_at reason_step (inside at true) xs (at + 1) ≡ run_at reason_step (inside at true) xs r = rw u at behind in
            rw (run_in reason_step none xs at (omega arith), v.passed.all at (omega arith) (omega arith), s, b, run_in reason_step (inside at true) xs r l, v.stop l)

pub ruleset reasons = (reason_more, reason_ascii, reason_obs)
