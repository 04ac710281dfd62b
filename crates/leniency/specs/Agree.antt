-- Two readers of the same bytes, of which one has more settings on and slots enough, do not disagree about what the other accepts: where the head
-- ends, and what is in it. Where the other passes over lines this asks that no setting makes something else of them.
-- The theorems stand in proofs/Agree.antt. Assumes nothing.
use Rattle.std.specs.Prelude.{ℕ, ◌≡◌, List, true, Ok}
use Rattle.rules.specs.declared.Settings.{Settings}
use Rattle.grammar.specs.Fields.{Field}
use Rattle.parts.specs.Answers.{Passed}

-- the other reader ends there too, gives the same fields and tells the same of the start line
abbrev pub Agrees : {L K : Type 0} → (List ℕ → K → L → Type 0) → List ℕ → ℕ → Passed → K → K → List Field → List Field → Type 0
Agrees {L} Says s q end line line' fs fs' = (end ≡ Ok q) × (fs' ≡ fs) × ((l : L) × Says s line l × Says s line' l)

-- the same settings, and lines that are no headers are passed over
abbrev pub also_ignoring : Settings → Settings
also_ignoring a = record {
  ascii_targets = a.ascii_targets;
  spaces_in_request_line = a.spaces_in_request_line;
  spaces_in_status_line = a.spaces_in_status_line;
  space_before_first_name = a.space_before_first_name;
  spaces_after_name = a.spaces_after_name;
  multiline_headers = a.multiline_headers;
  ignore_invalid_headers_in_requests = true;
  ignore_invalid_headers_in_responses = true;
}
