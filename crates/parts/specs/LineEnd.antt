-- The end of a line: CR LF, or LF alone where the rules allow it (RFC 9112, 2.2).
-- Assumes nothing.
use Rattle.std.specs.Prelude.{ℕ, ◌+◌, ◌≤◌, ◌<◌, ◌≡◌, List, Bool, ◌&&◌, cond, eqb, length, get_or}
use Rattle.std.proofs.Common.{ne_eqb}
use Rattle.reader.specs.Machine.{keep, give, refuse, Step}
use Rattle.reader.proofs.Laws.{run_in, run_out}
use Rattle.reader.specs.Answer.{Answer, got, short, bad}
use Rattle.reader.specs.Chain.{reads}
use Rattle.reader.proofs.Chain.{reads_none}
use Rattle.parts.specs.declared.Error.{Error}
use Rattle.parts.specs.declared.Fault.{Fault}
use Rattle.rules.specs.Rules.{Rules, default}
use Rattle.parts.specs.Answers.{fault}

-- at the end, or behind its CR
pub data LineEnd : Type 0 where
  begin cr : LineEnd

-- by the one rule that it reads, so that rules which share it have the same step
abbrev pub line_end_by : Bool → Error → Step LineEnd (Unit {0}) Fault
line_end_by lf e begin p b = cond (eqb b 13) (keep cr) (cond (lf && eqb b 10) (give tt) (refuse (fault e p)))
line_end_by lf e cr p b = cond (eqb b 10) (give tt) (refuse (fault e p))

abbrev pub line_end_step : Rules → Error → Step LineEnd (Unit {0}) Fault
line_end_step r e = line_end_by r.lf_alone e

abbrev pub line_end : Rules → Error → List ℕ → ℕ → Answer (Unit {0}) (Unit {0}) Fault
line_end r e xs at = reads (line_end_step r e) begin xs at

module _ (e : Error) (xs : List ℕ) (at : ℕ) where
  module _ (h : at < length xs) where
    pub line_end_lf : get_or xs at 0 ≡ 10 → got tt (at + 1) ≡ line_end default e xs at
    line_end_lf b = rw (run_in (line_end_step default e) begin xs at h, b)

    pub line_end_not : (get_or xs at 0 ≡ 10 → ⊥) → (get_or xs at 0 ≡ 13 → ⊥) → bad (fault e at) ≡ line_end default e xs at
    line_end_not b c = rw (run_in (line_end_step default e) begin xs at h, ne_eqb _ _ c, ne_eqb _ _ b)

    module _ (c : get_or xs at 0 ≡ 13) where
      pub line_end_cut : length xs ≤ at + 1 → short tt ≡ line_end default e xs at
      line_end_cut l = rw (run_in (line_end_step default e) begin xs at h, c, run_out (line_end_step default e) cr xs (at + 1) l)

      pub line_end_crlf : at + 1 < length xs → get_or xs (at + 1) 0 ≡ 10 → got tt (at + 1 + 1) ≡ line_end default e xs at
      line_end_crlf l b = rw (run_in (line_end_step default e) begin xs at h, c, run_in (line_end_step default e) cr xs (at + 1) l, b)

      pub line_end_bare : at + 1 < length xs → (get_or xs (at + 1) 0 ≡ 10 → ⊥) → bad (fault e (at + 1)) ≡ line_end default e xs at
      line_end_bare l b = rw (run_in (line_end_step default e) begin xs at h, c, run_in (line_end_step default e) cr xs (at + 1) l, ne_eqb _ _ b)

pub ruleset line_ends = (reads_none, line_end_lf, line_end_not, line_end_cut, line_end_crlf, line_end_bare)
