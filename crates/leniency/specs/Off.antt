-- What each of the five settings for spaces and folds lets stand somewhere does not stand there without it; and with none of them, and no line
-- passed over, the grammar is what it was before there were settings.
-- The theorems stand in proofs/Off.antt. Assumes nothing.
use Rattle.std.specs.Prelude.{◌≡◌, false}
use Rattle.rules.specs.Rules.{Rules}

-- all five are off, and the one for lines that are no field line
pub record AllOff (r : Rules) : Type 0 where
  pub spaces_in_request_line : r.spaces_in_request_line ≡ false
  pub spaces_in_status_line : r.spaces_in_status_line ≡ false
  pub space_before_first_name : r.space_before_first_name ≡ false
  pub spaces_after_name : r.spaces_after_name ≡ false
  pub multiline_headers : r.multiline_headers ≡ false
  pub ignore_invalid_headers : r.ignore_invalid_headers ≡ false
