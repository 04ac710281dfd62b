-- When the lines around a start line may be by some rules whatever they may be by others: what is derived by these is then derived by those, where
-- lines that these pass over are nothing else by those.
-- The theorems stand in proofs/Allows.antt. Assumes nothing.
use Rattle.std.specs.Prelude.{◌≡◌, true}
use Rattle.rules.specs.Rules.{Rules}

-- s allows what r does, in all lines but the start line
pub record LinesAllowed (r s : Rules) : Type 0 where
  pub lf_alone : r.lf_alone ≡ true → s.lf_alone ≡ true
  pub empty_lines : r.empty_lines ≡ true → s.empty_lines ≡ true
  pub space_before_first_name : r.space_before_first_name ≡ true → s.space_before_first_name ≡ true
  pub spaces_after_name : r.spaces_after_name ≡ true → s.spaces_after_name ≡ true
  pub multiline_headers : r.multiline_headers ≡ true → s.multiline_headers ≡ true
  pub ignore_invalid_headers : r.ignore_invalid_headers ≡ true → s.ignore_invalid_headers ≡ true

-- blanks before a first name, behind a name and at the start of a line that goes on with a value stand by s nowhere but where they do by r
pub record NoMoreBlanks (r s : Rules) : Type 0 where
  pub space_before_first_name : s.space_before_first_name ≡ true → r.space_before_first_name ≡ true
  pub spaces_after_name : s.spaces_after_name ≡ true → r.spaces_after_name ≡ true
  pub multiline_headers : s.multiline_headers ≡ true → r.multiline_headers ≡ true

-- a line that r passes over is none that s takes for a field, for the end of a head or for more of a value, which only blanks can make of it
abbrev pub KeptIgnored : Rules → Rules → Type 0
KeptIgnored r s = r.ignore_invalid_headers ≡ true → NoMoreBlanks r s
