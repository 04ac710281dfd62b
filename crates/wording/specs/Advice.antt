-- What to do about an error.
-- Assumes nothing.
use Rattle.std.specs.Prelude.{ℕ, List, codes}
use Rattle.expected.specs.declared.Expected.{Expected}
use Rattle.expected.specs.declared.Expected.TheVariants.{LineFeed, Request, Status, Header, Size}
use Rattle.expected.specs.declared.InRequestLine.{InRequestLine}
use Rattle.expected.specs.declared.InRequestLine.TheVariants as request
use Rattle.expected.specs.declared.InStatusLine.{InStatusLine}
use Rattle.expected.specs.declared.InStatusLine.TheVariants as status
use Rattle.expected.specs.declared.InHeader.{InHeader}
use Rattle.expected.specs.declared.InHeader.TheVariants as header

-- advice that several errors share
abbrev pub request_or_response : List ℕ
request_or_response = codes "have the sender write the line as POST /orders HTTP/1.1, then CR LF; if the input is a response, call\n            headread response"

abbrev pub request_parts : List ℕ
request_parts = codes "have the sender write the line as POST /orders HTTP/1.1, then CR LF, with nothing else in it"

abbrev pub escaped_target : List ℕ
escaped_target = codes "have the sender write each byte of a target from 0x80 on as %XX, as in /orders/gr%C3%B6%C3%9Fe"

abbrev pub escaped_space : List ℕ
escaped_space = codes "have the sender speak HTTP/1.1, and write a space in a target as %20"

abbrev pub status_parts : List ℕ
status_parts = codes "have the sender write the line as HTTP/1.1 200 OK, then CR LF"

abbrev pub name_first : List ℕ
name_first = codes "have the sender start each header's line with its name, and the colon right behind it; don't mend the\n            line and pass it on, since the next program may take it for another header"

-- in a request line
abbrev pub for_request_line : InRequestLine → List ℕ
for_request_line request.MethodStart = request_or_response
for_request_line request.Method = request_or_response
for_request_line request.TargetStart = codes "have the sender write one space alone behind the method, as in POST /orders HTTP/1.1"
for_request_line request.SpacedTarget = request_parts
for_request_line request.Target = request_parts
for_request_line request.AsciiTarget = escaped_target
for_request_line request.Utf8Target = escaped_target
for_request_line request.Version = escaped_space
for_request_line request.SpacedVersion = escaped_space
for_request_line request.LineEnd = codes "have the sender end the request line right behind its version, in CR LF"

-- in a status line
abbrev pub for_status_line : InStatusLine → List ℕ
for_status_line status.Version = codes "have the sender speak HTTP/1.1; if the input is a request, call headread request"
for_status_line status.Space = status_parts
for_status_line status.Digit = status_parts
for_status_line status.SpacedDigit = status_parts
for_status_line status.BehindCode = status_parts
for_status_line status.Reason = codes "have the sender leave that byte out"

-- in the headers
abbrev pub for_header : InHeader → List ℕ
for_header header.Start = name_first
for_header header.SpacedStart = name_first
for_header header.StartOrMore = name_first
for_header header.Name = name_first
for_header header.SpacedName = name_first
for_header header.Colon = name_first
for_header header.Value = codes "have the sender leave that byte out; don't pass the head on, since the next program may end the value\n            there"
for_header header.NoNul = codes "have the sender leave that byte out; don't pass the head on, since the next program may end the line\n            there"
for_header header.NoMore = codes "look for a sender that repeats its headers; to read more, call the library with more slots"

-- anywhere
abbrev pub remedy : Expected → List ℕ
remedy LineFeed = codes "have the sender end each line in CR LF and send no other CR; don't pass the input on, since the next\n            program may take what stands behind the CR for a line of its own"
remedy (Request place) = for_request_line place
remedy (Status place) = for_status_line place
remedy (Header place) = for_header place
remedy (Size place) = codes "check that the input starts at the size line; else have the sender write it as 1a2b, then CR LF"
