-- The single space that parts two parts of a status line (RFC 9112, 4).
-- Assumes nothing.
use Rattle.std.specs.Prelude.{ℕ, ◌+◌, ◌<◌, ◌≡◌, List, ◌&&◌, cond, eqb, length, get_or}
use Rattle.std.proofs.Common.{ne_eqb}
use Rattle.reader.specs.Machine.{give, before, refuse, Step}
use Rattle.reader.proofs.Laws.{run_in}
use Rattle.reader.specs.Answer.{Answer, got, bad}
use Rattle.reader.specs.Chain.{reads}
use Rattle.reader.proofs.Chain.{reads_none}
use Rattle.parts.specs.declared.Error.{Error}
use Rattle.parts.specs.declared.Error.TheVariants.{Status}
use Rattle.parts.specs.declared.Fault.{Fault}
use Rattle.parts.specs.Answers.{fault}
use Rattle.parts.specs.Byte.{byte_step}
use Rattle.rules.specs.Rules.{Rules, default}

abbrev pub space_step : Error → Step (Unit {0}) (Unit {0}) Fault
space_step = byte_step 32

abbrev pub space : Error → List ℕ → ℕ → Answer (Unit {0}) (Unit {0}) Fault
space e xs at = reads (space_step e) tt xs at

module _ (e : Error) (xs : List ℕ) (at : ℕ) where
  pub space_there : at < length xs → get_or xs at 0 ≡ 32 → got tt (at + 1) ≡ space e xs at
  space_there h b = rw (run_in (space_step e) tt xs at h, b)

  pub space_not : at < length xs → (get_or xs at 0 ≡ 32 → ⊥) → bad (fault e at) ≡ space e xs at
  space_not h b = rw (run_in (space_step e) tt xs at h, ne_eqb _ _ b)

-- behind a code: the space before the reason, or, where the rules allow it, the line's end, which is left to be read
abbrev pub behind_code_step : Rules → Step (Unit {0}) (Unit {0}) Fault
behind_code_step r s p b =
    cond (eqb b 32) (give tt)
    (cond (r.code_ends_line && eqb b 13) (before tt)
    (cond (r.code_ends_line && r.lf_alone && eqb b 10) (before tt) (refuse (fault Status p))))

abbrev pub behind_code : Rules → List ℕ → ℕ → Answer (Unit {0}) (Unit {0}) Fault
behind_code r xs at = reads (behind_code_step r) tt xs at

module _ (xs : List ℕ) (at : ℕ) where
  module _ (h : at < length xs) where
    pub behind_space : get_or xs at 0 ≡ 32 → got tt (at + 1) ≡ behind_code default xs at
    behind_space b = rw (run_in (behind_code_step default) tt xs at h, b)

    pub behind_cr : get_or xs at 0 ≡ 13 → got tt at ≡ behind_code default xs at
    behind_cr b = rw (run_in (behind_code_step default) tt xs at h, b)

    pub behind_lf : get_or xs at 0 ≡ 10 → got tt at ≡ behind_code default xs at
    behind_lf b = rw (run_in (behind_code_step default) tt xs at h, b)

    pub behind_not : (get_or xs at 0 ≡ 32 → ⊥) → (get_or xs at 0 ≡ 13 → ⊥) → (get_or xs at 0 ≡ 10 → ⊥) → bad (fault Status at) ≡ behind_code default xs at
    behind_not a b c = rw (run_in (behind_code_step default) tt xs at h, ne_eqb _ _ a, ne_eqb _ _ b, ne_eqb _ _ c)

pub ruleset spaces = (reads_none, space_there, space_not, behind_space, behind_cr, behind_lf, behind_not)
