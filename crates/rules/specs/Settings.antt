-- What the settings change: each is the default with one rule changed, for the messages it is meant for.
-- Assumes nothing.
use Rattle.std.specs.Prelude.{◌≡◌, refl, Bool, true, false, not}
use Rattle.rules.specs.declared.Settings.{Settings}
use Rattle.rules.specs.declared.LineSettings.{LineSettings}
use Rattle.rules.specs.Rules.{Rules, default}

-- the default but for the rules that settings change, in their order in Rules
abbrev pub changed : Bool → Bool → Bool → Bool → Bool → Bool → Bool → Rules
changed t q s f a m i = record {
  lf_alone = default.lf_alone;
  empty_lines = default.empty_lines;
  any_target = t;
  known_versions = default.known_versions;
  code_ends_line = default.code_ends_line;
  any_code = default.any_code;
  obs_reason = default.obs_reason;
  blank_behind_size = default.blank_behind_size;
  any_extension = default.any_extension;
  no_digit = default.no_digit;
  sixteen_digits = default.sixteen_digits;
  spaces_in_request_line = q;
  spaces_in_status_line = s;
  space_before_first_name = f;
  spaces_after_name = a;
  multiline_headers = m;
  ignore_invalid_headers = i;
}

-- of a request
abbrev pub request_rules : Settings → Rules
request_rules s = changed (not s.ascii_targets) s.spaces_in_request_line false s.space_before_first_name false false s.ignore_invalid_headers_in_requests

-- of a response
abbrev pub response_rules : Settings → Rules
response_rules s = changed true false s.spaces_in_status_line s.space_before_first_name s.spaces_after_name s.multiline_headers s.ignore_invalid_headers_in_responses

-- of the lines of headers, behind a start line
abbrev pub line_rules : LineSettings → Rules
line_rules s = changed true false false s.space_before_first_name s.spaces_after_name s.multiline_headers s.ignore_invalid_headers

abbrev pub off : Settings
off = record {
  ascii_targets = false;
  spaces_in_request_line = false;
  spaces_in_status_line = false;
  space_before_first_name = false;
  spaces_after_name = false;
  multiline_headers = false;
  ignore_invalid_headers_in_requests = false;
  ignore_invalid_headers_in_responses = false;
}

-- with all of them off nothing has changed
pub off_request : request_rules off ≡ default
off_request = refl

pub off_response : response_rules off ≡ default
off_response = refl

-- and in no combination do they change another rule
pub record OthersByDefault (r : Rules) : Type 0 where
  pub lf_alone : r.lf_alone ≡ default.lf_alone
  pub empty_lines : r.empty_lines ≡ default.empty_lines
  pub known_versions : r.known_versions ≡ default.known_versions
  pub code_ends_line : r.code_ends_line ≡ default.code_ends_line
  pub any_code : r.any_code ≡ default.any_code
  pub obs_reason : r.obs_reason ≡ default.obs_reason
  pub blank_behind_size : r.blank_behind_size ≡ default.blank_behind_size
  pub any_extension : r.any_extension ≡ default.any_extension
  pub no_digit : r.no_digit ≡ default.no_digit
  pub sixteen_digits : r.sixteen_digits ≡ default.sixteen_digits

pub others_by_default : (t q s f a m i : Bool) → OthersByDefault (changed t q s f a m i)
others_by_default t q s f a m i = record { lf_alone = refl; empty_lines = refl; known_versions = refl; code_ends_line = refl; any_code = refl; obs_reason = refl; blank_behind_size = refl; any_extension = refl; no_digit = refl; sixteen_digits = refl }
