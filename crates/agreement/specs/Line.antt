-- A line of a header block is read exactly where a field line, an empty line, or one that is passed over stands.
-- Assumes nothing.
use Rattle.reader.specs.Judged.{pass, judged}
use Rattle.reader.specs.Seq.{first}
use Rattle.reader.specs.Branch.{fresh}
use Rattle.exact.specs.Exact.{Relation, Exact}
use Rattle.exact.specs.Judged.{Passes, exact_judged}
use Rattle.exact.specs.Seq.{Both}
use Rattle.exact.proofs.Seq.{exact_seq}
use Rattle.exact.specs.Branch.{Forks, exact_branch}
use Rattle.parts.specs.declared.Fault.{Fault}
use Rattle.parts.specs.declared.Error.TheVariants.{NewLine}
use Rattle.rules.specs.Rules.{Rules}
use Rattle.parts.specs.LineEnd.{begin, line_end_step}
use Rattle.names.specs.Name.{none, name_step}
use Rattle.folds.specs.Folded.{lines_step}
use Rattle.fields.specs.Line.{Kind, end, named, field_step, tried_step, untried, ends, line_step}
use Rattle.leaves.specs.LineEnd.{EndsAt, exact_line_end}
use Rattle.leaves.specs.Name.{Named, exact_name}
use Rattle.leaves.specs.Folded.{Lines, exact_lines}
use Rattle.agreement.specs.Tried.{Tried, exact_tried}

-- a name and a colon, then a value up to its line's end
abbrev pub Fielded : Rules → Relation Kind
Fielded r = Both (Named r) (λ n. Passes {F = Fault} (λ v. pass (named n v)) (Lines r))

-- or an empty line, by the first byte
abbrev pub Lined : Rules → Relation Kind
Lined r = Forks (ends r) (Passes {F = Fault} (λ _. pass end) (EndsAt r)) (Tried r (Fielded r))

module _ (r : Rules) where
  exact_field : Exact (field_step r) (first (first none)) (Fielded r)
  exact_field =
      exact_seq (name_step r) (λ n. fresh) (λ n. judged (λ v. pass (named n v)) (λ e. e) (lines_step r)) (first none) (exact_name r) (λ n.
      exact_judged (λ v. pass (named n v)) (λ e. e) (lines_step r) (exact_lines r))

  pub exact_line : Exact (line_step r) fresh (Lined r)
  exact_line =
      exact_branch (ends r) (judged (λ _. pass end) (λ e. e) (line_end_step r NewLine)) begin (tried_step r) untried
      (exact_judged (λ _. pass end) (λ e. e) (line_end_step r NewLine) (exact_line_end r NewLine)) (exact_tried r exact_field)
