-- A field value: blanks, then the bytes up to the last that is no blank, then blanks (RFC 9110, 5.5; RFC 9112, 5).
-- Assumes nothing.
use Rattle.std.specs.Prelude.{ℕ, zero, suc, ◌+◌, ◌-◌, ◌≤◌, ◌<◌, ◌≡◌, List, true, false, cond, length, get_or}
use Rattle.std.proofs.Common.{arith, sym, ◌∙◌}
use Rattle.std.proofs.Math.Decide.{dec_lt}
use Rattle.std.proofs.lemmas.Bool.{false≢true}
use Rattle.reader.specs.Machine.{keep, before, Step, run_at}
use Rattle.reader.specs.Skip.{Passed, Skipped}
use Rattle.reader.proofs.Skip.{skip}
use Rattle.reader.proofs.Laws.{run_in, run_out}
use Rattle.reader.specs.Answer.{Answer, got, short}
use Rattle.reader.specs.Chain.{reads}
use Rattle.reader.proofs.Chain.{reads_out}
use Rattle.octets.specs.Class.{is_blank, is_value}
use Rattle.parts.specs.declared.Fault.{Fault}
use Rattle.parts.specs.declared.Piece.{Piece}
use Rattle.parts.specs.Answers.{piece}
use Rattle.values.specs.Trim.{Trimmed}

-- before the value; or in it, with where it starts and the end of its last byte that is no blank
pub data Value : Type 0 where
  blanks : Value
  inside : ℕ → ℕ → Value

abbrev pub value_step : Step Value Piece Fault
value_step blanks p b = cond (is_blank b) (keep blanks) (cond (is_value b) (keep (inside p (p + 1))) (before (piece p p)))
value_step (inside v e) p b = cond (is_value b) (keep (inside v (cond (is_blank b) e (p + 1)))) (before (piece v e))

abbrev pub value : List ℕ → ℕ → Answer (Unit {0}) Piece Fault
value xs at = reads value_step blanks xs at

-- a blank may stand in a value
pub blank_value : (b : ℕ) → is_blank b ≡ true → is_value b ≡ true
unfolding is_value
blank_value b e = rw e

module _ (xs : List ℕ) (v : ℕ) where
  -- up to t, where the last byte is no blank: the end is t, whatever it was before
  inside_to : (d i e : ℕ) → i + suc d ≤ length xs → ((k : ℕ) → i ≤ k → k < i + suc d → is_value (get_or xs k 0) ≡ true) → is_blank (get_or xs (i + d) 0) ≡ false → run_at value_step (inside v e) xs i ≡ run_at value_step (inside v (i + suc d)) xs (i + suc d)
  inside_to zero i e h g l =
      let z : i + 0 ≡ i = omega arith in
      let n : i + suc 0 ≡ i + 1 = omega arith in
      let l' : is_blank (get_or xs i 0) ≡ false = rw z at l in
      rw (run_in value_step (inside v e) xs i (omega arith), g i (omega arith) (omega arith), l', n)
  inside_to (suc d) i e h g l =
      let n : i + 1 + suc d ≡ i + suc (suc d) = omega arith in
      let m : i + 1 + d ≡ i + suc d = omega arith in
      let l' : is_blank (get_or xs (i + 1 + d) 0) ≡ false = rw m l in
      rw (run_in value_step (inside v e) xs i (omega arith), g i (omega arith) (omega arith))
      (inside_to d (i + 1) (cond (is_blank (get_or xs i 0)) e (i + 1)) (omega arith) (λ k lo hi. g k (omega arith) (omega arith)) l' ∙ rw n)

  -- blanks leave the end where it is
  inside_blank : (e : ℕ) {i j : ℕ} → i ≤ length xs → Passed is_blank xs i j → run_at value_step (inside v e) xs i ≡ run_at value_step (inside v e) xs j
  inside_blank e l p = skip value_step is_blank (inside v e) (λ q b t. rw (blank_value b t, t)) xs l p

module _ (xs : List ℕ) (at : ℕ) {a r : ℕ} (b : Skipped is_blank xs at a) (v : Skipped is_value xs a r) where
  to_start : at ≤ length xs → run_at value_step blanks xs at ≡ run_at value_step blanks xs a
  to_start h = skip value_step is_blank blanks (λ q c t. rw t) xs h b.passed

  first_in : a < length xs → a < r → run_at value_step blanks xs a ≡ run_at value_step (inside a (a + 1)) xs (a + 1)
  first_in h l = rw (run_in value_step blanks xs a h, b.stop h, v.passed.all a (omega arith) l)

  pub value_more : length xs ≤ r → short tt ≡ value xs at
  value_more l = go (dec_lt at (length xs)) (dec_lt a (length xs))
    where
      go : Dec (at < length xs) → Dec (a < length xs) → short tt ≡ value xs at
      go (yes h) (yes g) =
          rw (to_start (omega arith), first_in g (omega arith))
          (reads_out value_step is_value (inside a) (λ e q b. cond (is_blank b) e (q + 1)) (λ e q b t. rw t) xs (a + 1) (a + 1) (omega arith) (λ k lo hi. v.passed.all k (omega arith) (omega arith)))
      go (yes h) (no g) = rw (to_start (omega arith), run_out value_step blanks xs a (omega arith))
      go (no h) g = rw (run_out value_step blanks xs at (omega arith))

  module _ (l : r < length xs) {t : ℕ} (c : Trimmed xs a r t) where
    trimmed_run : a < t → run_at value_step (inside a (a + 1)) xs (a + 1) ≡ run_at value_step (inside a t) xs t
    trimmed_run h = go (t - (a + 1)) (omega arith)
      where
        go : (d : ℕ) → a + 1 + d ≡ t → run_at value_step (inside a (a + 1)) xs (a + 1) ≡ run_at value_step (inside a t) xs t
        go zero e = let z : a + 1 ≡ t = omega arith in rw z
        go (suc d) e =
            let u : a + 1 + d ≡ t - 1 = omega arith in
            let w : is_blank (get_or xs (a + 1 + d) 0) ≡ false = rw u (c.last h) in
            inside_to xs a d (a + 1) (a + 1) (omega (arith, c.cut.high)) (λ k lo hi. v.passed.all k (omega arith) (omega (arith, c.cut.high))) w ∙ rw e

    -- a value that begins with no blank is not all blank
    some_left : a < r → Dec (a < t) → a < t
    some_left h (yes u) = u
    some_left h (no u) = absurd (false≢true (sym (b.stop (omega arith)) ∙ c.cut.blank a (omega (arith, c.cut.low)) h))

    pub value_end : got (piece a t) r ≡ value xs at
    value_end = go (dec_lt a r)
      where
        start : at ≤ length xs
        start = omega (arith, b.passed.from, v.passed.from)

        rest : Passed is_blank xs t r
        rest = record { from = c.cut.high; inside = λ _. omega arith; past = λ p. omega (arith, p, c.cut.high, l); all = c.cut.blank }

        go : Dec (a < r) → got (piece a t) r ≡ value xs at
        go (yes h) =
            rw (to_start start, first_in (omega arith) h, trimmed_run (some_left h (dec_lt a t)), inside_blank xs a t {i = t} {j = r} (omega (arith, c.cut.high)) rest, run_in value_step (inside a t) xs r l, v.stop l)
        go (no h) =
            let x : r ≡ a = omega (arith, v.passed.from) in
            let y : t ≡ a = omega (arith, c.cut.low, c.cut.high) in
            let w : is_value (get_or xs a 0) ≡ false = rw x at (v.stop l) in
            rw (y, x, to_start start, run_in value_step blanks xs a (omega arith), b.stop (omega arith), w)

pub ruleset values = (value_more, value_end)
