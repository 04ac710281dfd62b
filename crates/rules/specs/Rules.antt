-- Where a reading departs from the RFCs' grammar, or for any_code from the codes of RFC 9110, section 15, one field each. Its name is that of
-- its entry in docs/DIFFERENCES.md.
-- Assumes nothing.
use Rattle.std.specs.Prelude.{Bool, true, false}

pub record Rules : Type 0 where
  -- LF alone ends a line of a head
  pub lf_alone : Bool
  -- any number of empty lines may stand before a head
  pub empty_lines : Bool
  -- a target is any row of visible bytes and bytes from 0x80 on that is UTF-8 as a whole
  pub any_target : Bool
  -- no version but 1.0 and 1.1
  pub known_versions : Bool
  -- a status line may end right behind its code
  pub code_ends_line : Bool
  -- a code is any three digits
  pub any_code : Bool
  -- a reason with a byte from 0x80 on is given as empty
  pub obs_reason : Bool
  -- blanks may stand behind a chunk size that has no extension
  pub blank_behind_size : Bool
  -- a chunk extension is a semicolon and any bytes but CR
  pub any_extension : Bool
  -- a chunk size line with no digit is size 0
  pub no_digit : Bool
  -- a chunk size has at most sixteen digits
  pub sixteen_digits : Bool
  -- several spaces may part the parts of a request line
  pub spaces_in_request_line : Bool
  -- several spaces may part the parts of a status line
  pub spaces_in_status_line : Bool
  -- blanks may stand between a start line and the first name, or the empty line, behind it
  pub space_before_first_name : Bool
  -- blanks may stand between a name and its colon
  pub spaces_after_name : Bool
  -- a line that begins with a blank goes on with the value of the line before it
  pub multiline_headers : Bool
  -- a line that is no field line is passed over, and says nothing
  pub ignore_invalid_headers : Bool

-- the RFCs' grammar alone, without what the prose of RFC 9112, section 2.2, lets a recipient do besides (lf_alone, empty_lines); of a target
-- no more is asked than that it is visible, and a code has one of its classes
abbrev pub strict : Rules
strict = record {
  lf_alone = false;
  empty_lines = false;
  any_target = false;
  known_versions = false;
  code_ends_line = false;
  any_code = false;
  obs_reason = false;
  blank_behind_size = false;
  any_extension = false;
  no_digit = false;
  sixteen_digits = false;
  spaces_in_request_line = false;
  spaces_in_status_line = false;
  space_before_first_name = false;
  spaces_after_name = false;
  multiline_headers = false;
  ignore_invalid_headers = false;
}

-- what httparse reads with no setting on
abbrev pub default : Rules
default = record {
  lf_alone = true;
  empty_lines = true;
  any_target = true;
  known_versions = true;
  code_ends_line = true;
  any_code = true;
  obs_reason = true;
  blank_behind_size = true;
  any_extension = true;
  no_digit = true;
  sixteen_digits = true;
  spaces_in_request_line = false;
  spaces_in_status_line = false;
  space_before_first_name = false;
  spaces_after_name = false;
  multiline_headers = false;
  ignore_invalid_headers = false;
}
