-- A NUL in a line that is passed over, or a CR without LF, is an error after all: that of a name where the line was wrong before its colon, and of a value behind it.
-- The theorems stand in proofs/AfterAll.antt. Assumes nothing.
use Rattle.std.specs.Prelude.{ℕ, List}
use Rattle.rules.specs.Rules.{Rules}
use Rattle.parts.specs.declared.Error.{Error}
use Rattle.parts.specs.declared.Error.TheVariants.{HeaderName, HeaderValue}
use Rattle.agreement.specs.Wrong.{LineWrongIs, no_name, no_colon, no_value}

-- the error of a line, by where it is wrong
abbrev pub error_of : {r : Rules} {w rest : List ℕ} → LineWrongIs r w rest → Error
error_of (no_name c ys e i h) = HeaderName
error_of (no_colon n s c ys e i k b f g h) = HeaderName
error_of (no_value n s m c ys e i k b v q) = HeaderValue
