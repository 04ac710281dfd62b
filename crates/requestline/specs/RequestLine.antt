-- The start of a request: empty lines, then a request line, method SP target SP version and the line's end (RFC 9112, 3).
-- Assumes nothing.
use Rattle.std.specs.Prelude.{ℕ, ◌≡◌, List, Bool, None, Some}
use Rattle.std.proofs.Common.{sym, ap, ◌∙◌}
use Rattle.reader.specs.Machine.{Step, run_at}
use Rattle.reader.specs.Seq.{Then, first, seq}
use Rattle.reader.specs.Skip.{Skipped}
use Rattle.reader.specs.Answer.{Answer, answer, either}
use Rattle.reader.specs.Chain.{reads, part, last, chain}
use Rattle.reader.proofs.Chain.{chain_same, answer_last, answer_chain}
use Rattle.octets.specs.Class.{is_token}
use Rattle.gaps.specs.Gap.{Behind, spaces_if, behind_gap}
use Rattle.gaps.proofs.Gap.{reads_behind}
use Rattle.parts.specs.declared.Fault.{Fault}
use Rattle.parts.specs.declared.Error.TheVariants.{NewLine, Token}
use Rattle.parts.specs.declared.Piece.{Piece}
use Rattle.rules.specs.Rules.{Rules}
use Rattle.parts.specs.LineEnd.{LineEnd, begin, line_end_step, line_end}
use Rattle.parts.specs.EmptyLines.{EmptyLines, start, empty_lines_step, empty_lines}
use Rattle.words.specs.Word.{Word, word_step, word}
use Rattle.words.specs.Word as words
use Rattle.words.specs.Target.{Target, target_byte, target_step, target}
use Rattle.words.specs.Target as targets
use Rattle.versions.specs.Version.{name, version_step, version}
use Rattle.requestline.specs.declared.RequestLine.{RequestLine}

-- what each part adds to what is known
abbrev pub unread : RequestLine
unread = record { method = None; target = None; version = None }

abbrev pub with_method : RequestLine → Piece → RequestLine
with_method k m = record { method = Some m; target = k.target; version = k.version }

abbrev pub with_target : RequestLine → Piece → RequestLine
with_target k t = record { method = k.method; target = Some t; version = k.version }

abbrev pub with_version : RequestLine → ℕ → RequestLine
with_version k v = record { method = k.method; target = k.target; version = Some v }

abbrev pub Line : Type 0 → Type 0
Line S = Step S RequestLine (Fault × RequestLine)

-- the states, from the last part to the first
abbrev pub Versions : Type 0
Versions = Then (Behind (List ℕ)) RequestLine LineEnd

abbrev pub Targets : Type 0
Targets = Then (Behind Target) RequestLine Versions

abbrev pub Methods : Type 0
Methods = Then Word RequestLine Targets

abbrev pub Starts : Type 0
Starts = Then EmptyLines RequestLine Methods

module _ (r : Rules) where
  -- the spaces behind the one that parts two parts, where there may be several
  abbrev pub more_spaces : ℕ → Bool
  more_spaces = spaces_if r.spaces_in_request_line

  abbrev pub gap_version : Step (Behind (List ℕ)) ℕ Fault
  gap_version = behind_gap more_spaces version_step name

  abbrev pub gap_target : Step (Behind Target) Piece Fault
  gap_target = behind_gap more_spaces (target_step (target_byte r.any_target)) targets.none

  abbrev pub end_step : RequestLine → Line LineEnd
  end_step k = part k (λ _. k) (line_end_step r NewLine)

  abbrev pub version_on : RequestLine → Line Versions
  version_on k = seq (part k (with_version k) gap_version) (λ _. begin) end_step

  abbrev pub target_on : RequestLine → Line Targets
  target_on k = seq (part k (with_target k) gap_target) (λ _. first (first tt)) version_on

  abbrev pub method_on : RequestLine → Line Methods
  method_on k = seq (part k (with_method k) (word_step is_token 32 Token)) (λ _. first (first tt)) target_on

  abbrev pub request_line_step : Line Starts
  request_line_step = seq (part unread (λ _. unread) (empty_lines_step r)) (λ _. first words.none) method_on

-- what is known in each state
abbrev pub end_known : RequestLine → LineEnd → RequestLine
end_known k _ = k

abbrev pub version_known : RequestLine → Versions → RequestLine
version_known k = either (λ _. k) end_known

abbrev pub target_known : RequestLine → Targets → RequestLine
target_known k = either (λ _. k) version_known

abbrev pub method_known : RequestLine → Methods → RequestLine
method_known k = either (λ _. k) target_known

abbrev pub line_known : Starts → RequestLine
line_known = either (λ _. unread) method_known

abbrev pub request_line : Rules → List ℕ → ℕ → Answer RequestLine RequestLine (Fault × RequestLine)
request_line r xs at = answer line_known (run_at (request_line_step r) (first start) xs at)

-- the same by its parts
module _ (r : Rules) (xs : List ℕ) where
  abbrev pub from_end : RequestLine → ℕ → Answer RequestLine RequestLine (Fault × RequestLine)
  from_end k q = last k (λ _. k) (line_end r NewLine xs q)

  abbrev pub from_version : RequestLine → ℕ → Answer RequestLine RequestLine (Fault × RequestLine)
  from_version k q = chain k (with_version k) (reads (gap_version r) (first tt) xs q) from_end

  abbrev pub from_target : RequestLine → ℕ → Answer RequestLine RequestLine (Fault × RequestLine)
  from_target k q = chain k (with_target k) (reads (gap_target r) (first tt) xs q) from_version

  abbrev pub from_method : RequestLine → ℕ → Answer RequestLine RequestLine (Fault × RequestLine)
  from_method k q = chain k (with_method k) (word is_token 32 Token xs q) from_target

  abbrev pub from_start : ℕ → Answer RequestLine RequestLine (Fault × RequestLine)
  from_start q = chain unread (λ _. unread) (empty_lines r xs q) from_method

  end_parts : (k : RequestLine) (q : ℕ) → answer (end_known k) (run_at (end_step r k) begin xs q) ≡ from_end k q
  end_parts k q = answer_last k (λ _. k) (line_end_step r NewLine) begin xs q

  version_parts : (k : RequestLine) (q : ℕ) → answer (version_known k) (run_at (version_on r k) (first (first tt)) xs q) ≡ from_version k q
  version_parts k q =
      answer_chain k (with_version k) (gap_version r) (first tt) xs q end_known (λ _. begin) (end_step r)
      ∙ chain_same k (with_version k) (reads (gap_version r) (first tt) xs q) end_parts

  target_parts : (k : RequestLine) (q : ℕ) → answer (target_known k) (run_at (target_on r k) (first (first tt)) xs q) ≡ from_target k q
  target_parts k q =
      answer_chain k (with_target k) (gap_target r) (first tt) xs q version_known (λ _. first (first tt)) (version_on r)
      ∙ chain_same k (with_target k) (reads (gap_target r) (first tt) xs q) version_parts

  method_parts : (k : RequestLine) (q : ℕ) → answer (method_known k) (run_at (method_on r k) (first words.none) xs q) ≡ from_method k q
  method_parts k q =
      answer_chain k (with_method k) (word_step is_token 32 Token) words.none xs q target_known (λ _. first (first tt)) (target_on r)
      ∙ chain_same k (with_method k) (word is_token 32 Token xs q) target_parts

  line_parts : (q : ℕ) → request_line r xs q ≡ from_start q
  line_parts q =
      answer_chain unread (λ _. unread) (empty_lines_step r) start xs q method_known (λ _. first words.none) (method_on r)
      ∙ chain_same unread (λ _. unread) (empty_lines r xs q) method_parts

  -- a part is read where the spaces before it end
  module _ (k : RequestLine) {at q : ℕ} (g : Skipped (more_spaces r) xs at q) {z : Answer RequestLine RequestLine (Fault × RequestLine)} where
    pub version_gapped : z ≡ chain k (with_version k) (version xs q) from_end → z ≡ from_version k at
    version_gapped e = e ∙ sym (ap (λ a. chain k (with_version k) a from_end) (reads_behind g version_step name))

    pub target_gapped : z ≡ chain k (with_target k) (target (target_byte r.any_target) xs q) from_version → z ≡ from_target k at
    target_gapped e = e ∙ sym (ap (λ a. chain k (with_target k) a from_version) (reads_behind g (target_step (target_byte r.any_target)) targets.none))

  pub request_line_whole : {z : Answer RequestLine RequestLine (Fault × RequestLine)} (q : ℕ) → z ≡ from_start q → z ≡ request_line r xs q
  request_line_whole q e = e ∙ sym (line_parts q)

pub ruleset gapped = (version_gapped, target_gapped)
