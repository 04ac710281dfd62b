-- The five settings for spaces and folds and the one that passes over lines let nothing more be said, but for values with line ends in them: what
-- a head says with some of them on a head says with all of them off.
-- The theorems stand in proofs/Said.antt. Assumes nothing.
use Rattle.std.specs.Prelude.{false}
use Rattle.rules.specs.Rules.{Rules}

-- the rules r with all of them off
abbrev pub without : Rules → Rules
without r = record {
  lf_alone = r.lf_alone;
  empty_lines = r.empty_lines;
  any_target = r.any_target;
  known_versions = r.known_versions;
  code_ends_line = r.code_ends_line;
  any_code = r.any_code;
  obs_reason = r.obs_reason;
  blank_behind_size = r.blank_behind_size;
  any_extension = r.any_extension;
  no_digit = r.no_digit;
  sixteen_digits = r.sixteen_digits;
  spaces_in_request_line = false;
  spaces_in_status_line = false;
  space_before_first_name = false;
  spaces_after_name = false;
  multiline_headers = false;
  ignore_invalid_headers = false;
}
