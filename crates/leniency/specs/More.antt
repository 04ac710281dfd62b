-- With more settings on more is allowed and nothing is lost: a head is then one with the same fields. Of a response this asks that its reason
-- begins with no space, since where several spaces stand before a reason none of them is of it; and where lines are passed over it asks that no
-- setting makes something else of them.
-- The theorems stand in proofs/More.antt. Assumes nothing.
use Rattle.std.specs.Prelude.{ℕ, ◌≡◌, List, ◌∷◌, true, false}
use Rattle.rules.specs.declared.Settings.{Settings}
use Rattle.rules.specs.Rules.{Rules}
use Rattle.leniency.specs.Allows.{LinesAllowed}

-- s allows all that r does
pub record Allowed (r s : Rules) : Type 0 where
  pub lines : LinesAllowed r s
  pub any_target : r.any_target ≡ true → s.any_target ≡ true
  pub any_code : r.any_code ≡ true → s.any_code ≡ true
  pub code_ends_line : r.code_ends_line ≡ true → s.code_ends_line ≡ true
  pub spaces_in_request_line : r.spaces_in_request_line ≡ true → s.spaces_in_request_line ≡ true
  pub spaces_in_status_line : r.spaces_in_status_line ≡ true → s.spaces_in_status_line ≡ true
  -- a restriction
  pub known_versions : r.known_versions ≡ false → s.known_versions ≡ false
  -- what is given, not what is read
  pub obs_reason : r.obs_reason ≡ s.obs_reason

-- a reason that begins with no space
abbrev pub NoSpaceFirst : List ℕ → Type 0
NoSpaceFirst w = (u : List ℕ) → w ≡ 0x20 ∷ u → ⊥

-- a reason that begins with no space, where that is asked by s and not by r
abbrev pub KeptReason : Rules → Rules → List ℕ → Type 0
KeptReason r s g = s.spaces_in_status_line ≡ true → r.spaces_in_status_line ≡ false → NoSpaceFirst g

-- each setting that is on in a is on in b, but for ascii_targets, which allows less
pub record More (a b : Settings) : Type 0 where
  pub ascii_targets : b.ascii_targets ≡ true → a.ascii_targets ≡ true
  pub spaces_in_request_line : a.spaces_in_request_line ≡ true → b.spaces_in_request_line ≡ true
  pub spaces_in_status_line : a.spaces_in_status_line ≡ true → b.spaces_in_status_line ≡ true
  pub space_before_first_name : a.space_before_first_name ≡ true → b.space_before_first_name ≡ true
  pub spaces_after_name : a.spaces_after_name ≡ true → b.spaces_after_name ≡ true
  pub multiline_headers : a.multiline_headers ≡ true → b.multiline_headers ≡ true
  pub ignore_invalid_headers_in_requests : a.ignore_invalid_headers_in_requests ≡ true → b.ignore_invalid_headers_in_requests ≡ true
  pub ignore_invalid_headers_in_responses : a.ignore_invalid_headers_in_responses ≡ true → b.ignore_invalid_headers_in_responses ≡ true

-- the rules r, and lines that are no field line are passed over
abbrev pub ignoring : Rules → Rules
ignoring r = record {
  lf_alone = r.lf_alone;
  empty_lines = r.empty_lines;
  any_target = r.any_target;
  known_versions = r.known_versions;
  code_ends_line = r.code_ends_line;
  any_code = r.any_code;
  obs_reason = r.obs_reason;
  blank_behind_size = r.blank_behind_size;
  any_extension = r.any_extension;
  no_digit = r.no_digit;
  sixteen_digits = r.sixteen_digits;
  spaces_in_request_line = r.spaces_in_request_line;
  spaces_in_status_line = r.spaces_in_status_line;
  space_before_first_name = r.space_before_first_name;
  spaces_after_name = r.spaces_after_name;
  multiline_headers = r.multiline_headers;
  ignore_invalid_headers = true;
}
