-- Empty lines before a head (RFC 9112, 2.2), any number of them where the rules allow them.
-- Assumes nothing.
use Rattle.std.specs.Prelude.{ℕ, ◌+◌, ◌≤◌, ◌<◌, ◌≡◌, refl, List, Bool, ◌&&◌, cond, eqb, length, get_or}
use Rattle.std.proofs.Common.{ne_eqb}
use Rattle.reader.specs.Machine.{keep, before, refuse, Step, run_at}
use Rattle.reader.proofs.Laws.{run_in, run_out}
use Rattle.reader.specs.Answer.{Answer, got, short, bad}
use Rattle.reader.specs.Chain.{reads}
use Rattle.parts.specs.declared.Error.TheVariants.{NewLine}
use Rattle.parts.specs.declared.Fault.{Fault}
use Rattle.rules.specs.Rules.{Rules, default}
use Rattle.parts.specs.Answers.{fault}

-- at the start of a line, or behind the CR of an empty one
pub data EmptyLines : Type 0 where
  start cr : EmptyLines

-- by the rules that it reads
abbrev pub empty_lines_by : Bool → Bool → Step EmptyLines (Unit {0}) Fault
empty_lines_by empty lf start p b = cond (empty && eqb b 13) (keep cr) (cond (empty && lf && eqb b 10) (keep start) (before tt))
empty_lines_by empty lf cr p b = cond (eqb b 10) (keep start) (refuse (fault NewLine p))

abbrev pub empty_lines_step : Rules → Step EmptyLines (Unit {0}) Fault
empty_lines_step r = empty_lines_by r.empty_lines r.lf_alone

abbrev pub empty_lines : Rules → List ℕ → ℕ → Answer (Unit {0}) (Unit {0}) Fault
empty_lines r xs at = reads (empty_lines_step r) start xs at

-- empty lines stand from at up to i
pub record Empty (xs : List ℕ) (at i : ℕ) : Type 0 where
  pub runs : run_at (empty_lines_step default) start xs at ≡ run_at (empty_lines_step default) start xs i

pub empty_none : {xs : List ℕ} {at : ℕ} → Empty xs at at
empty_none = record { runs = refl }

module _ {xs : List ℕ} {at i : ℕ} (k : Empty xs at i) where
  pub empty_end : length xs ≤ i → short tt ≡ empty_lines default xs at
  empty_end h = rw (k.runs, run_out (empty_lines_step default) start xs i h)

  module _ (h : i < length xs) where
    pub empty_lf : get_or xs i 0 ≡ 10 → Empty xs at (i + 1)
    empty_lf b = record { runs = rw (k.runs, run_in (empty_lines_step default) start xs i h, b) }

    pub empty_done : (get_or xs i 0 ≡ 10 → ⊥) → (get_or xs i 0 ≡ 13 → ⊥) → got tt i ≡ empty_lines default xs at
    empty_done b c = rw (k.runs, run_in (empty_lines_step default) start xs i h, ne_eqb _ _ c, ne_eqb _ _ b)

    module _ (c : get_or xs i 0 ≡ 13) where
      pub empty_cut : length xs ≤ i + 1 → short tt ≡ empty_lines default xs at
      empty_cut l = rw (k.runs, run_in (empty_lines_step default) start xs i h, c, run_out (empty_lines_step default) cr xs (i + 1) l)

      pub empty_crlf : i + 1 < length xs → get_or xs (i + 1) 0 ≡ 10 → Empty xs at (i + 1 + 1)
      empty_crlf l b = record { runs = rw (k.runs, run_in (empty_lines_step default) start xs i h, c, run_in (empty_lines_step default) cr xs (i + 1) l, b) }

      pub empty_bare : i + 1 < length xs → (get_or xs (i + 1) 0 ≡ 10 → ⊥) → bad (fault NewLine (i + 1)) ≡ empty_lines default xs at
      empty_bare l b = rw (k.runs, run_in (empty_lines_step default) start xs i h, c, run_in (empty_lines_step default) cr xs (i + 1) l, ne_eqb _ _ b)

pub ruleset empties = (empty_none, empty_end, empty_lf, empty_done, empty_cut, empty_crlf, empty_bare)
