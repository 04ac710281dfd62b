-- What the machines of a field line refuse with: the byte that is wrong, in its place, in a name or in a value.
-- The theorems stand in proofs/Wrong.antt. Assumes nothing.
use Rattle.std.specs.Prelude.{ℕ, ◌≡◌}
use Rattle.parts.specs.declared.Error.{Error}
use Rattle.parts.specs.declared.Error.TheVariants.{HeaderName, HeaderValue, NewLine, Status, Token, TooManyHeaders, Version}
use Rattle.parts.specs.declared.Fault.{Fault}

-- the error for a line that is passed over and wrong after all: that of a name, or of a value
abbrev pub blamed : Error → Error
blamed HeaderName = HeaderName
blamed HeaderValue = HeaderValue
blamed NewLine = HeaderValue
blamed Status = HeaderValue
blamed Token = HeaderValue
blamed TooManyHeaders = HeaderValue
blamed Version = HeaderValue

-- the byte at p is refused with one of the two, which tells p
pub record Wrong (p : ℕ) (x : Fault) : Type 0 where
  pub there : x.position ≡ p
  pub error : blamed x.error ≡ x.error
