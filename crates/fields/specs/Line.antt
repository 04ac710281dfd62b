-- One line of a header block: a field line (RFC 9112, 5), or the empty line that ends the head.
-- The theorems stand in proofs/LineRead.antt. Assumes nothing.
use Rattle.std.specs.Prelude.{ℕ, List, Bool, ◌&&◌, ◌||◌, eqb, ◌≤◌, length, Ok, Err}
use Rattle.reader.specs.Machine.{Step}
use Rattle.reader.specs.Judged.{pass, judged}
use Rattle.reader.specs.Seq.{Then, first, seq}
use Rattle.reader.specs.Answer.{Answer, got, short, and}
use Rattle.reader.specs.Chain.{reads, ended}
use Rattle.reader.specs.Branch.{Branch, fresh, branch}
use Rattle.reader.specs.Rescued.{Rescued, trying, rescue}
use Rattle.gaps.specs.Gap.{Behind}
use Rattle.parts.specs.declared.Fault.{Fault}
use Rattle.parts.specs.declared.Error.TheVariants.{NewLine}
use Rattle.parts.specs.declared.Piece.{Piece}
use Rattle.rules.specs.Rules.{Rules}
use Rattle.parts.specs.declared.Unread.{Unread}
use Rattle.parts.specs.declared.Unread.TheVariants.{More, Bad}
use Rattle.parts.specs.Answers.{Read, stopped}
use Rattle.parts.specs.LineEnd.{LineEnd, begin, line_end_step}
use Rattle.names.specs.Name.{Name, none, name_step}
use Rattle.fields.specs.declared.Header.{Header}
use Rattle.fields.specs.declared.Line.{Line}
use Rattle.fields.specs.declared.Line.TheVariants as lines
use Rattle.folds.specs.Folded.{LinesState, lines_step, value_lines}
use Rattle.ignored.specs.Rest.{rest_step, behind_byte, rest_of_line}
use Rattle.fields.specs.Wrong.{blamed}

-- what a line is
pub data Kind : Type 0 where
  header : Header → Kind
  end : Kind
  ignored : Kind

abbrev pub named : Piece → Piece → Kind
named n v = header (record { name = n; value = v })

abbrev pub FieldState : Type 0
FieldState = Then Name Piece LinesState

-- a name and a colon, then a value up to its line's end
abbrev pub field_step : Rules → Step FieldState Kind Fault
field_step r = seq (name_step r) (λ n. fresh) (λ n. judged (λ v. pass (named n v)) (λ e. e) (lines_step r))

-- the first byte of a line's end
abbrev pub ends : Rules → ℕ → Bool
ends r b = eqb b 13 || (r.lf_alone && eqb b 10)

-- what is refused of it may be passed over, with the rest of its line
abbrev pub TriedState : Type 0
TriedState = Rescued FieldState (Behind LineEnd) Fault

abbrev pub ignored_step : Rules → Fault → Step (Behind LineEnd) Kind Fault
ignored_step r x = judged (λ _. pass ignored) (λ e. e) (rest_step r (blamed x.error))

abbrev pub tried_step : Rules → Step TriedState Kind Fault
tried_step r = rescue r.ignore_invalid_headers (field_step r) behind_byte (ignored_step r)

abbrev pub untried : TriedState
untried = trying (first (first none)) (first tt)

abbrev pub LineState : Type 0
LineState = Branch LineEnd TriedState

abbrev pub line_step : Rules → Step LineState Kind Fault
line_step r = branch (ends r) (judged (λ _. pass end) (λ e. e) (line_end_step r NewLine)) begin (tried_step r) untried

abbrev pub line : Rules → List ℕ → ℕ → Answer (Unit {0}) Kind Fault
line r xs at = reads (line_step r) fresh xs at

-- the code's answer
abbrev pub kind_of : Line → Kind
kind_of (lines.Header h) = header h
kind_of lines.Ignored = ignored
kind_of lines.End = end

abbrev pub line_of : Read Line → Answer (Unit {0}) Kind Fault
line_of (Ok l) = got (kind_of l.0) l.1
line_of (Err x) = stopped x

-- what a line comes to that is passed over where a byte of it is wrong
abbrev pub rest_of : Unread Fault → List ℕ → ℕ → Answer (Unit {0}) Kind Fault
rest_of More xs at = short tt
rest_of (Bad x) xs at = ended ignored (rest_of_line x.error xs at x.position)

abbrev pub LiesIn : List ℕ → Unread Fault → Type 0
LiesIn xs More = Unit {0}
LiesIn xs (Bad x) = x.position ≤ length xs

-- a line by its parts
module _ (r : Rules) (xs : List ℕ) where
  abbrev pub onward : Piece → ℕ → Answer (Unit {0}) Kind Fault
  onward n q = and (value_lines r xs q) (λ v i. got (named n v) i)

  abbrev pub field : ℕ → Answer (Unit {0}) Kind Fault
  field at = reads (field_step r) (first (first none)) xs at
