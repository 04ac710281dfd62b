-- The plain form of what a call read.
-- Assumes nothing.
use Rattle.std.specs.Prelude.{List, ℕ}
use Rattle.requestline.specs.declared.RequestLine.{RequestLine}
use Rattle.statusline.specs.declared.StatusLine.{StatusLine}
use Rattle.heads.specs.declared.Head.{Head}
use Rattle.blocks.specs.declared.Block.{Block}
use Rattle.agreement.specs.Known.{fields_in}
use Rattle.plain.specs.Plain.{plain_fields, plain_request, plain_response}
use Rattle.places.specs.Lies.{request_of, status_of}

-- by the input, what was read, and the slots
abbrev pub request_form : List ℕ → Head RequestLine → List ℕ → List ℕ
request_form s head slots = plain_request (request_of s head.line) (fields_in s head.count slots)

abbrev pub response_form : List ℕ → Head StatusLine → List ℕ → List ℕ
response_form s head slots = plain_response (status_of s head.line) (fields_in s head.count slots)

abbrev pub block_form : List ℕ → Block → List ℕ → List ℕ
block_form s block slots = plain_fields (fields_in s block.count slots)
