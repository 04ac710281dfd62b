-- A status code: three digits (RFC 9112, 4).
-- Assumes nothing.
use Rattle.std.specs.Prelude.{ℕ, ◌+◌, ◌-◌, ◌*◌, ◌≤◌, ◌<◌, ◌≡◌, List, true, false, cond, length, get_or}
use Rattle.std.proofs.Common.{arith}
use Rattle.reader.specs.Machine.{keep, give, refuse, Step}
use Rattle.reader.proofs.Skip.{told_true, told_false}
use Rattle.reader.proofs.Laws.{run_in, run_out}
use Rattle.reader.specs.Answer.{Answer, got, short, bad}
use Rattle.reader.specs.Chain.{reads}
use Rattle.reader.proofs.Chain.{reads_none}
use Rattle.octets.specs.Class.{is_digit}
use Rattle.parts.specs.declared.Error.TheVariants.{Status}
use Rattle.parts.specs.declared.Fault.{Fault}
use Rattle.parts.specs.declared.Unread.{Unread}
use Rattle.parts.specs.declared.Unread.TheVariants.{More, Bad}
use Rattle.parts.specs.Answers.{fault}

-- the digits so far, as a number
pub data Code : Type 0 where
  none : Code
  one two : ℕ → Code

-- one digit more
abbrev pub onto : ℕ → ℕ → ℕ
onto v b = v * 10 + (b - 48)

abbrev pub code_step : Step Code ℕ Fault
code_step none p b = cond (is_digit b) (keep (one (onto 0 b))) (refuse (fault Status p))
code_step (one v) p b = cond (is_digit b) (keep (two (onto v b))) (refuse (fault Status p))
code_step (two v) p b = cond (is_digit b) (give (onto v b)) (refuse (fault Status p))

-- the digit at a position is worth v, or the input ends before it, or no digit stands there
abbrev pub IsDigitAt : List ℕ → ℕ → ℕ → Type 0
IsDigitAt xs at v = (at < length xs) × (is_digit (get_or xs at 0) ≡ true) × (v ≡ get_or xs at 0 - 48) × (v < 256)

abbrev pub IsNoDigit : List ℕ → ℕ → Unread Fault → Type 0
IsNoDigit xs at More = length xs ≤ at
IsNoDigit xs at (Bad x) = (at < length xs) × (is_digit (get_or xs at 0) ≡ false) × (x ≡ fault Status at)

abbrev pub code : List ℕ → ℕ → Answer (Unit {0}) ℕ Fault
code xs at = reads code_step none xs at

module _ (xs : List ℕ) (at : ℕ) where
  pub code_not : at < length xs → is_digit (get_or xs at 0) ≡ false → bad (fault Status at) ≡ code xs at
  code_not h d = rw (run_in code_step none xs at h, d)

  module _ (h : at < length xs) (d : is_digit (get_or xs at 0) ≡ true) where
    pub code_one : length xs ≤ at + 1 → short tt ≡ code xs at
    code_one l = rw (run_in code_step none xs at h, d, run_out code_step (one (onto 0 (get_or xs at 0))) xs (at + 1) l)

    pub code_one_not : at + 1 < length xs → is_digit (get_or xs (at + 1) 0) ≡ false → bad (fault Status (at + 1)) ≡ code xs at
    code_one_not l c = rw (run_in code_step none xs at h, d, run_in code_step (one (onto 0 (get_or xs at 0))) xs (at + 1) l, c)

    module _ (l : at + 1 < length xs) (c : is_digit (get_or xs (at + 1) 0) ≡ true) where
      pub code_two : length xs ≤ at + 1 + 1 → short tt ≡ code xs at
      code_two u = rw (run_in code_step none xs at h, d, run_in code_step (one (onto 0 (get_or xs at 0))) xs (at + 1) l, c, run_out code_step (two (onto (onto 0 (get_or xs at 0)) (get_or xs (at + 1) 0))) xs (at + 1 + 1) u)

      module _ (u : at + 1 + 1 < length xs) where
        pub code_two_not : is_digit (get_or xs (at + 1 + 1) 0) ≡ false → bad (fault Status (at + 1 + 1)) ≡ code xs at
        code_two_not f = rw (run_in code_step none xs at h, d, run_in code_step (one (onto 0 (get_or xs at 0))) xs (at + 1) l, c, run_in code_step (two (onto (onto 0 (get_or xs at 0)) (get_or xs (at + 1) 0))) xs (at + 1 + 1) u, f)

        pub code_three : is_digit (get_or xs (at + 1 + 1) 0) ≡ true → {a b v : ℕ} → a ≡ get_or xs at 0 - 48 → b ≡ get_or xs (at + 1) 0 - 48 → v ≡ get_or xs (at + 1 + 1) 0 - 48 → got (a * 100 + b * 10 + v) (at + 1 + 1 + 1) ≡ code xs at
        code_three f {a} {b} {v} x y z =
            let n : a * 100 + b * 10 + v ≡ onto (onto (onto 0 (get_or xs at 0)) (get_or xs (at + 1) 0)) (get_or xs (at + 1 + 1) 0) = omega (arith, x, y, z) in
            rw (n, run_in code_step none xs at h, d, run_in code_step (one (onto 0 (get_or xs at 0))) xs (at + 1) l, c, run_in code_step (two (onto (onto 0 (get_or xs at 0)) (get_or xs (at + 1) 0))) xs (at + 1 + 1) u, f)

pub ruleset codes = (reads_none, code_not, code_one, code_one_not, code_two, code_two_not, code_three, told_true, told_false)
