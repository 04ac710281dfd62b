-- Two heads that say something else with a setting than without it, or what none says without it, and one that then ends elsewhere.
-- The theorems stand in proofs/Readings.antt. Assumes nothing.
use Rattle.std.specs.Prelude.{ℕ, List, Bool, true, false}
use Rattle.rules.specs.declared.Settings.{Settings}
use Rattle.grammar.specs.Fields.{Field}
use Rattle.leniency.specs.Text.{ascii}

-- a reason with a space before it, which is of it by default and not where several spaces may stand there
abbrev pub spaced : List ℕ
spaced = ascii "HTTP/1.0 200  A\r\n\r\n"

-- a value of two lines, the shortest there is
abbrev pub folded : Field
folded = record { name = ascii "A"; value = ascii "b\n c" }

-- lines of a request are passed over, and blanks may stand before its first name or not
abbrev pub passes_over : Bool → Settings
passes_over blanks = record {
  ascii_targets = false;
  spaces_in_request_line = false;
  spaces_in_status_line = false;
  space_before_first_name = blanks;
  spaces_after_name = false;
  multiline_headers = false;
  ignore_invalid_headers_in_requests = true;
  ignore_invalid_headers_in_responses = false;
}

-- a line of a space, which ends the head where blanks may stand before a name, and is passed over where not
abbrev pub spaced_line : List ℕ
spaced_line = ascii "A * HTTP/1.0\n \n"
