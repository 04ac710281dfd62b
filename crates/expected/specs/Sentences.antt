-- What was expected, a sentence each.
-- Assumes nothing.
use Rattle.std.specs.Prelude.{ℕ, List, codes}
use Rattle.expected.specs.declared.Expected.{Expected}
use Rattle.expected.specs.declared.Expected.TheVariants.{LineFeed, Request, Status, Header, Size}
use Rattle.expected.specs.declared.InRequestLine.{InRequestLine}
use Rattle.expected.specs.declared.InRequestLine.TheVariants as request
use Rattle.expected.specs.declared.InStatusLine.{InStatusLine}
use Rattle.expected.specs.declared.InStatusLine.TheVariants as status
use Rattle.expected.specs.declared.InHeader.{InHeader}
use Rattle.expected.specs.declared.InHeader.TheVariants as header
use Rattle.expected.specs.declared.InSize.{InSize}
use Rattle.expected.specs.declared.InSize.TheVariants as size

-- in a request line
abbrev pub in_request_line : InRequestLine → List ℕ
in_request_line request.MethodStart = codes "a method, such as POST, in letters, digits and !#$%&'*+-.^_`|~"
in_request_line request.Method = codes "more of the method, in letters, digits and !#$%&'*+-.^_`|~, or a space behind it"
in_request_line request.TargetStart = codes "a target, such as /orders; a second space here makes it empty"
in_request_line request.SpacedTarget = codes "another space, or a target with no control byte in it"
in_request_line request.Target = codes "a target with no blank and no control byte in it, and a space behind it"
in_request_line request.AsciiTarget = codes "a target in visible ASCII, as --ascii-targets asks, and a space behind it"
in_request_line request.Utf8Target = codes "a target in UTF-8 before this space, and what stands there is not UTF-8"
in_request_line request.Version = codes "HTTP/1.0 or HTTP/1.1, right behind the one space that ends the target"
in_request_line request.SpacedVersion = codes "HTTP/1.0 or HTTP/1.1, behind one space or more"
in_request_line request.LineEnd = codes "the line's end, CR LF (shown as \\r\\n), right behind the version"

-- in a status line
abbrev pub in_status_line : InStatusLine → List ℕ
in_status_line status.Version = codes "HTTP/1.0 or HTTP/1.1, at the start of the line"
in_status_line status.Space = codes "a space between the version and the code"
in_status_line status.Digit = codes "a digit, since the code is three digits, right behind one space"
in_status_line status.SpacedDigit = codes "a digit, since the code is three digits, behind one space or more"
in_status_line status.BehindCode = codes "a space and the reason, or the line's end, right behind the three digits of the code"
in_status_line status.Reason = codes "more of the reason, with no control byte but the tab, or the line's end, CR LF (shown as \\r\\n)"

-- in the headers
abbrev pub in_header : InHeader → List ℕ
in_header header.Start = codes "a header's name, or the empty line that ends the headers"
in_header header.SpacedStart = codes "a blank, the first header's name, or the empty line that ends the headers"
in_header header.StartOrMore = codes "a header's name, a blank and more of the value above, or the empty line that ends the headers"
in_header header.Name = codes "the colon, with no blank before it, or more of the name, in letters, digits and !#$%&'*+-.^_`|~"
in_header header.SpacedName = codes "the colon, a blank, or more of the name, in letters, digits and !#$%&'*+-.^_`|~"
in_header header.Colon = codes "the colon, or another blank before it"
in_header header.Value = codes "more of the value, with no control byte but the tab, or the line's end, CR LF (shown as \\r\\n)"
in_header header.NoNul = codes "any byte but NUL (shown as \\x00), since --ignore-invalid-headers passes over no line with one in it"
in_header header.NoMore = codes "the empty line that ends the headers, since headread keeps 100 and this is one more"

-- in the size line of a chunk
abbrev pub in_size : InSize → List ℕ
in_size size.Start = codes "the size, in hexadecimal digits: 0 to 9, a to f or A to F"
in_size size.Digit = codes "a hexadecimal digit, or behind the digits a blank, a ; or the line's end, CR LF (shown as \\r\\n)"
in_size size.NoMoreDigits = codes "a blank, a ; or the line's end, CR LF (shown as \\r\\n), since a size has at most 16 digits"
in_size size.BehindDigits = codes "a blank, a ; or the line's end, CR LF (shown as \\r\\n), behind the digits"

-- anywhere
abbrev pub sentence : Expected → List ℕ
sentence LineFeed = codes "LF (shown as \\n), since a CR (shown as \\r) stands before it"
sentence (Request place) = in_request_line place
sentence (Status place) = in_status_line place
sentence (Header place) = in_header place
sentence (Size place) = in_size place
