-- A gap: bytes of a class that are passed over before a part is read, as many as there are, which may be none.
-- Assumes nothing.
use Rattle.std.specs.Prelude.{ℕ, suc, ◌+◌, ◌≤◌, ◌<◌, ◌≡◌, refl, List, [], ◌∷◌, ◌++◌, Bool, true, false, cond, length, get_or, drop}
use Rattle.std.proofs.Common.{arith, add-zero, sym, ap, ◌∙◌, length-append, drop_of_length-le, ne_eqb}
use Rattle.std.proofs.Math.Decide.{dec_lt}
use Rattle.std.proofs.Math.ListN.{get_or-append}
use Rattle.reader.specs.Machine.{more, gave, Step, run_at}
use Rattle.reader.specs.Bytes.{drop_in, drop_tail}
use Rattle.reader.specs.Tests.{split, never}
use Rattle.reader.proofs.Laws.{run_in, run_out}
use Rattle.reader.specs.Seq.{first}
use Rattle.reader.specs.Skip.{Skipped}
use Rattle.reader.proofs.Skip.{skip, passed_none, skips}
use Rattle.reader.specs.Answer.{answer, and}
use Rattle.reader.proofs.Answer.{answer_seq}
use Rattle.reader.specs.Chain.{nothing, reads}
use Rattle.octets.specs.Class.{is_blank}
use Rattle.gaps.specs.Gap.{behind_gap, blanks_if, gap_end, gap_known, gap_length, gap_step, is_space, spaces_if}

module _ {F : Type 0} {class : ℕ → Bool} {xs : List ℕ} {at q : ℕ} (k : Skipped class xs at q) where
  over : at ≤ length xs → run_at (gap_step {F = F} class) tt xs at ≡ run_at (gap_step class) tt xs q
  over l = skip (gap_step class) class tt (λ _ b t. rw t) xs l k.passed

  gap_there : q < length xs → run_at (gap_step {F = F} class) tt xs at ≡ gave tt q
  gap_there h = over (omega (arith, k.passed.from)) ∙ rw (run_in (gap_step {F = F} class) tt xs q h, k.stop h)

  gap_out : length xs ≤ q → run_at (gap_step {F = F} class) tt xs at ≡ more tt
  gap_out h = by (dec_lt at (length xs))
    where
      by : Dec (at < length xs) → run_at (gap_step {F = F} class) tt xs at ≡ more tt
      by (yes l) = over (omega arith) ∙ run_out (gap_step class) tt xs q h
      by (no l) = run_out (gap_step class) tt xs at (omega arith)

  -- what is read behind a gap is read where the gap ends
  pub answer_behind : {S A U : Type 0} (known : S → U) (m : Step S A F) (s : S) → answer (gap_known known s) (run_at (behind_gap class m s) (first tt) xs at) ≡ answer known (run_at m s xs q)
  answer_behind known m s = answer_seq (λ _. known s) (λ _. known) (gap_step class) (λ _. s) (λ _. m) tt xs at ∙ by (dec_lt q (length xs))
    where
      by : Dec (q < length xs) → and (answer {A = Unit {0}} {F = F} (λ _. known s) (run_at (gap_step class) tt xs at)) (λ _ i. answer known (run_at m s xs i)) ≡ answer known (run_at m s xs q)
      by (yes h) = rw (gap_there h)
      by (no h) = rw (gap_out (omega arith), run_out m s xs q (omega arith))

  pub reads_behind : {S A : Type 0} (m : Step S A F) (s : S) → reads (behind_gap class m s) (first tt) xs at ≡ reads m s xs q
  reads_behind m s = answer_behind nothing m s

module _ (class : ℕ → Bool) (xs : List ℕ) where
  one_more : {i r : ℕ} → i < length xs → class (get_or xs i 0) ≡ true → Skipped class xs (i + 1) r → Skipped class xs i r
  one_more {i} {r} l e k = record {
    passed = record { from = omega (arith, k.passed.from); inside = λ _. k.passed.inside (omega arith); past = λ p. absurd (omega (arith, l, p)); all = λ n lo hi. by n lo hi (dec_lt i n) };
    stop = k.stop;
  }
    where
      by : (n : ℕ) → i ≤ n → n < r → Dec (i < n) → class (get_or xs n 0) ≡ true
      by n lo hi (yes h) = k.passed.all n (omega arith) hi
      by n lo hi (no h) = let q : n ≡ i = omega arith in rw q e

  end_by : (bs : List ℕ) (i : ℕ) → drop i xs ≡ bs → Skipped class xs i (i + gap_length class bs)
  end_by [] i e = rw add-zero (record { passed = passed_none; stop = λ h. let same : get_or xs i 0 ∷ drop (i + 1) xs ≡ [] = sym (drop_in xs i h) ∙ e in never cc })
  end_by (b ∷ bs) i e = by (end_by bs (i + 1) (drop_tail xs i e)) (dec_lt i (length xs))
    where
      by : Skipped class xs (i + 1) (i + 1 + gap_length class bs) → Dec (i < length xs) → Skipped class xs i (i + cond (class b) (suc (gap_length class bs)) 0)
      by k (no h) = let same : b ∷ bs ≡ [] = sym e ∙ drop_of_length-le xs {i = i} (omega arith) in never cc
      by k (yes h) =
          let same : get_or xs i 0 ∷ drop (i + 1) xs ≡ b ∷ bs = sym (drop_in xs i h) ∙ e in
          let c : get_or xs i 0 ≡ b = cc in
          split (λ n. Skipped class xs i (i + n)) (class b)
          (λ t. let n : i + 1 + gap_length class bs ≡ i + suc (gap_length class bs) = omega arith in rw n at (one_more h (rw c t) k))
          (λ t. rw add-zero (record { passed = passed_none; stop = λ _. rw c t }))

  pub end_skipped : (at : ℕ) → Skipped class xs at (gap_end class xs at)
  end_skipped at = end_by (drop at xs) at refl

-- a gap that ends within an input ends there whatever follows
pub skipped_longer : {class : ℕ → Bool} {xs : List ℕ} {at q : ℕ} (ys : List ℕ) → Skipped class xs at q → q < length xs → Skipped class (xs ++ ys) at q
skipped_longer {class} {xs} {at} {q} ys k h =
    let size : length (xs ++ ys) ≡ length xs + length ys = length-append xs ys in
    record {
      passed = record { from = k.passed.from; inside = λ _. omega (arith, h, size); past = λ p. absurd (omega (arith, p, h, size, k.passed.from)); all = λ n lo hi. ap class (get_or-append xs ys 0 n (omega (arith, h, hi))) ∙ k.passed.all n lo hi };
      stop = λ _. ap class (get_or-append xs ys 0 q h) ∙ k.stop h;
    }

pub space_is : {b : ℕ} → b ≡ 32 → is_space b ≡ true
space_is e = rw e

pub space_is_not : {b : ℕ} → (b ≡ 32 → ⊥) → is_space b ≡ false
space_is_not {b} e = ne_eqb b 32 e

-- where the setting is on, and where it is off
module _ {allowed : Bool} {xs : List ℕ} {at : ℕ} where
  pub spaces_on : {q : ℕ} → allowed ≡ true → Skipped is_space xs at q → Skipped (spaces_if allowed) xs at q
  spaces_on e k = rw e k

  pub spaces_off : allowed ≡ false → Skipped (spaces_if allowed) xs at at
  spaces_off e = rw e (record { passed = passed_none; stop = λ _. refl })

  pub blanks_on : {q : ℕ} → allowed ≡ true → Skipped is_blank xs at q → Skipped (blanks_if allowed) xs at q
  blanks_on e k = rw e k

  pub blanks_off : allowed ≡ false → Skipped (blanks_if allowed) xs at at
  blanks_off e = rw e (record { passed = passed_none; stop = λ _. refl })

pub ruleset gaps = (skips, space_is, space_is_not, spaces_on, spaces_off, blanks_on, blanks_off)
