-- The start of a response: empty lines, then a status line, version SP code SP reason and the line's end (RFC 9112, 4).
-- Assumes nothing.
use Rattle.std.specs.Prelude.{ℕ, ◌≡◌, List, Bool, None, Some}
use Rattle.std.proofs.Common.{sym, ap, ◌∙◌}
use Rattle.reader.specs.Machine.{Step, run_at}
use Rattle.reader.specs.Judged.{pass, judged}
use Rattle.reader.specs.Seq.{Then, first, seq}
use Rattle.reader.specs.Skip.{Skipped}
use Rattle.reader.specs.Answer.{Answer, answer, and, either}
use Rattle.reader.proofs.Answer.{and_same, answer_seq}
use Rattle.reader.specs.Chain.{nothing, reads, ended, part, last, chain}
use Rattle.reader.proofs.Chain.{answer_ended, chain_same, answer_last, answer_chain}
use Rattle.gaps.specs.Gap as gaps
use Rattle.gaps.specs.Gap.{spaces_if, behind_gap}
use Rattle.gaps.proofs.Gap.{reads_behind}
use Rattle.parts.specs.declared.Fault.{Fault}
use Rattle.parts.specs.declared.Error.TheVariants.{Status, Version}
use Rattle.parts.specs.declared.Piece.{Piece}
use Rattle.rules.specs.Rules.{Rules}
use Rattle.parts.specs.LineEnd.{LineEnd, begin, line_end_step, line_end}
use Rattle.parts.specs.EmptyLines.{EmptyLines, start, empty_lines_step, empty_lines}
use Rattle.versions.specs.Version.{name, version_step, version}
use Rattle.spaces.specs.Space.{space_step, space, behind_code_step, behind_code}
use Rattle.status.specs.Code.{Code, code_step, code}
use Rattle.status.specs.Code as codes
use Rattle.status.specs.Reason.{Reason, reason_step, reason}
use Rattle.status.specs.Reason as reasons
use Rattle.statusline.specs.declared.StatusLine.{StatusLine}

-- what each part adds to what is known
abbrev pub unread : StatusLine
unread = record { version = None; code = None; reason = None }

abbrev pub with_version : StatusLine → ℕ → StatusLine
with_version k v = record { version = Some v; code = k.code; reason = k.reason }

abbrev pub with_code : StatusLine → ℕ → StatusLine
with_code k c = record { version = k.version; code = Some c; reason = k.reason }

abbrev pub with_reason : StatusLine → Piece → StatusLine
with_reason k w = record { version = k.version; code = k.code; reason = Some w }

abbrev pub Line : Type 0 → Type 0
Line S = Step S StatusLine (Fault × StatusLine)

-- the states, from the last part to the first
abbrev pub ReasonEnd : Type 0
ReasonEnd = Then Reason Piece LineEnd

abbrev pub Behind : Type 0
Behind = Then (Unit {0}) StatusLine (gaps.Behind ReasonEnd)

abbrev pub Codes : Type 0
Codes = Then (gaps.Behind Code) StatusLine Behind

abbrev pub Spaces : Type 0
Spaces = Then (Unit {0}) StatusLine Codes

abbrev pub Versions : Type 0
Versions = Then (List ℕ) StatusLine Spaces

abbrev pub Starts : Type 0
Starts = Then EmptyLines StatusLine Versions

module _ (r : Rules) where
  -- the spaces behind the one that parts two parts, where there may be several
  abbrev pub more_spaces : ℕ → Bool
  more_spaces = spaces_if r.spaces_in_status_line

  -- a reason is known once its line has ended
  abbrev pub reason_end_step : Step ReasonEnd Piece Fault
  reason_end_step = seq reason_step (λ _. begin) (λ w. judged (λ _. pass w) (λ e. e) (line_end_step r Status))

  abbrev pub gap_reason : Step (gaps.Behind ReasonEnd) Piece Fault
  gap_reason = behind_gap more_spaces reason_end_step (first reasons.none)

  abbrev pub gap_code : Step (gaps.Behind Code) ℕ Fault
  gap_code = behind_gap more_spaces code_step codes.none

  abbrev pub reason_on : StatusLine → Line (gaps.Behind ReasonEnd)
  reason_on k = part k (with_reason k) gap_reason

  abbrev pub behind_on : StatusLine → Line Behind
  behind_on k = seq (part k (λ _. k) (behind_code_step r)) (λ _. first tt) reason_on

  abbrev pub code_on : StatusLine → Line Codes
  code_on k = seq (part k (with_code k) gap_code) (λ _. first tt) behind_on

  abbrev pub space_on : StatusLine → Line Spaces
  space_on k = seq (part k (λ _. k) (space_step Version)) (λ _. first (first tt)) code_on

  abbrev pub version_on : StatusLine → Line Versions
  version_on k = seq (part k (with_version k) version_step) (λ _. first tt) space_on

  abbrev pub status_line_step : Line Starts
  status_line_step = seq (part unread (λ _. unread) (empty_lines_step r)) (λ _. first name) version_on

-- what is known in each state
abbrev pub reason_known : StatusLine → gaps.Behind ReasonEnd → StatusLine
reason_known k _ = k

abbrev pub behind_known : StatusLine → Behind → StatusLine
behind_known k = either (λ _. k) reason_known

abbrev pub code_known : StatusLine → Codes → StatusLine
code_known k = either (λ _. k) behind_known

abbrev pub space_known : StatusLine → Spaces → StatusLine
space_known k = either (λ _. k) code_known

abbrev pub version_known : StatusLine → Versions → StatusLine
version_known k = either (λ _. k) space_known

abbrev pub line_known : Starts → StatusLine
line_known = either (λ _. unread) version_known

abbrev pub status_line : Rules → List ℕ → ℕ → Answer StatusLine StatusLine (Fault × StatusLine)
status_line r xs at = answer line_known (run_at (status_line_step r) (first start) xs at)

-- the same by its parts
module _ (r : Rules) (xs : List ℕ) where
  abbrev pub reason_end : ℕ → Answer (Unit {0}) Piece Fault
  reason_end q = and (reason xs q) (λ w i. ended w (line_end r Status xs i))

  abbrev pub from_reason : StatusLine → ℕ → Answer StatusLine StatusLine (Fault × StatusLine)
  from_reason k q = last k (with_reason k) (reads (gap_reason r) (first tt) xs q)

  abbrev pub from_behind : StatusLine → ℕ → Answer StatusLine StatusLine (Fault × StatusLine)
  from_behind k q = chain k (λ _. k) (behind_code r xs q) from_reason

  abbrev pub from_code : StatusLine → ℕ → Answer StatusLine StatusLine (Fault × StatusLine)
  from_code k q = chain k (with_code k) (reads (gap_code r) (first tt) xs q) from_behind

  abbrev pub from_space : StatusLine → ℕ → Answer StatusLine StatusLine (Fault × StatusLine)
  from_space k q = chain k (λ _. k) (space Version xs q) from_code

  abbrev pub from_version : StatusLine → ℕ → Answer StatusLine StatusLine (Fault × StatusLine)
  from_version k q = chain k (with_version k) (version xs q) from_space

  abbrev pub from_start : ℕ → Answer StatusLine StatusLine (Fault × StatusLine)
  from_start q = chain unread (λ _. unread) (empty_lines r xs q) from_version

  pub reason_end_parts : (q : ℕ) → reads (reason_end_step r) (first reasons.none) xs q ≡ reason_end q
  reason_end_parts q =
      answer_seq nothing (λ _. nothing) reason_step (λ _. begin) (λ w. judged (λ _. pass w) (λ e. e) (line_end_step r Status)) reasons.none xs q
      ∙ and_same (reason xs q) (λ w i. answer_ended w (line_end_step r Status) begin xs i)

  reason_parts : (k : StatusLine) (q : ℕ) → answer (reason_known k) (run_at (reason_on r k) (first tt) xs q) ≡ from_reason k q
  reason_parts k q = answer_last k (with_reason k) (gap_reason r) (first tt) xs q

  behind_parts : (k : StatusLine) (q : ℕ) → answer (behind_known k) (run_at (behind_on r k) (first tt) xs q) ≡ from_behind k q
  behind_parts k q =
      answer_chain k (λ _. k) (behind_code_step r) tt xs q reason_known (λ _. first tt) (reason_on r)
      ∙ chain_same k (λ _. k) (behind_code r xs q) reason_parts

  code_parts : (k : StatusLine) (q : ℕ) → answer (code_known k) (run_at (code_on r k) (first (first tt)) xs q) ≡ from_code k q
  code_parts k q =
      answer_chain k (with_code k) (gap_code r) (first tt) xs q behind_known (λ _. first tt) (behind_on r)
      ∙ chain_same k (with_code k) (reads (gap_code r) (first tt) xs q) behind_parts

  space_parts : (k : StatusLine) (q : ℕ) → answer (space_known k) (run_at (space_on r k) (first tt) xs q) ≡ from_space k q
  space_parts k q =
      answer_chain k (λ _. k) (space_step Version) tt xs q code_known (λ _. first (first tt)) (code_on r)
      ∙ chain_same k (λ _. k) (space Version xs q) code_parts

  version_parts : (k : StatusLine) (q : ℕ) → answer (version_known k) (run_at (version_on r k) (first name) xs q) ≡ from_version k q
  version_parts k q =
      answer_chain k (with_version k) version_step name xs q space_known (λ _. first tt) (space_on r)
      ∙ chain_same k (with_version k) (version xs q) space_parts

  line_parts : (q : ℕ) → status_line r xs q ≡ from_start q
  line_parts q =
      answer_chain unread (λ _. unread) (empty_lines_step r) start xs q version_known (λ _. first name) (version_on r)
      ∙ chain_same unread (λ _. unread) (empty_lines r xs q) version_parts

  -- a part is read where the spaces before it end
  module _ (k : StatusLine) {at q : ℕ} (g : Skipped (more_spaces r) xs at q) {z : Answer StatusLine StatusLine (Fault × StatusLine)} where
    pub code_gapped : z ≡ chain k (with_code k) (code xs q) from_behind → z ≡ from_code k at
    code_gapped e = e ∙ sym (ap (λ a. chain k (with_code k) a from_behind) (reads_behind g code_step codes.none))

    pub reason_gapped : z ≡ last k (with_reason k) (reason_end q) → z ≡ from_reason k at
    reason_gapped e = e ∙ sym (ap (last k (with_reason k)) (reads_behind g (reason_end_step r) (first reasons.none) ∙ reason_end_parts q))

  pub status_line_whole : {z : Answer StatusLine StatusLine (Fault × StatusLine)} (q : ℕ) → z ≡ from_start q → z ≡ status_line r xs q
  status_line_whole q e = e ∙ sym (line_parts q)

pub ruleset gapped = (code_gapped, reason_gapped)
