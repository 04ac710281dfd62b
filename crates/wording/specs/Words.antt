-- The words for what can be read and what can be wrong with it.
-- Assumes nothing.
use Rattle.std.specs.Prelude.{ℕ, List, codes}
use Rattle.parts.specs.declared.Error.{Error}
use Rattle.parts.specs.declared.Error.TheVariants.{HeaderName, HeaderValue, NewLine, Status, Token, TooManyHeaders, Version}
use Rattle.wording.specs.declared.Kind.{Kind}
use Rattle.wording.specs.declared.Kind.TheVariants.{Request, Response, Headers, Chunk}
use Rattle.wording.specs.declared.Wrong.{Wrong}
use Rattle.wording.specs.declared.Wrong.TheVariants.{Head, Size}

-- what an input is read as
abbrev pub subject : Kind → List ℕ
subject Request = codes "the request's head"
subject Response = codes "the response's head"
subject Headers = codes "the block of headers"
subject Chunk = codes "the chunk's size line"

-- the library's name of an error in a head
abbrev pub error_name : Error → List ℕ
error_name HeaderName = codes "HeaderName"
error_name HeaderValue = codes "HeaderValue"
error_name NewLine = codes "NewLine"
error_name Status = codes "Status"
error_name Token = codes "Token"
error_name TooManyHeaders = codes "TooManyHeaders"
error_name Version = codes "Version"

-- and of any error
abbrev pub name : Wrong → List ℕ
name Size = codes "InvalidChunkSize"
name (Head error) = error_name error
