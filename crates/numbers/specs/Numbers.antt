-- The answers and the settings as numbers, for programs in C.
-- Assumes nothing.
use Rattle.std.specs.Prelude.{ℕ, ◌+◌, ◌/◌, ◌%◌, List, [], ◌∷◌, cond, eqb, Err, None, Ok, Option, Some}
use Rattle.rules.specs.declared.Settings.{Settings}
use Rattle.parts.specs.declared.Error.{Error}
use Rattle.parts.specs.declared.Error.TheVariants.{HeaderName, HeaderValue, NewLine, Status, Token, TooManyHeaders, Version}
use Rattle.parts.specs.declared.Unread.TheVariants.{More, Bad}
use Rattle.parts.specs.declared.Piece.{Piece}
use Rattle.parts.specs.Answers.{Passed}
use Rattle.startline.specs.Answers.{number_of}
use Rattle.requestline.specs.declared.RequestLine.{RequestLine}
use Rattle.statusline.specs.declared.StatusLine.{StatusLine}
use Rattle.heads.specs.declared.Head.{Head}
use Rattle.blocks.specs.declared.Block.{Block}
use Rattle.chunks.specs.Chunk.{ChunkSize}

-- each setting has a bit
abbrev pub settings_of : ℕ → Settings
settings_of bits = record {
  ascii_targets = eqb ((bits / 128) % 2) 1;
  spaces_in_request_line = eqb ((bits / 4) % 2) 1;
  spaces_in_status_line = eqb ((bits / 8) % 2) 1;
  space_before_first_name = eqb ((bits / 16) % 2) 1;
  spaces_after_name = eqb (bits % 2) 1;
  multiline_headers = eqb ((bits / 2) % 2) 1;
  ignore_invalid_headers_in_requests = eqb ((bits / 64) % 2) 1;
  ignore_invalid_headers_in_responses = eqb ((bits / 32) % 2) 1;
}

-- the number of each error
abbrev pub error_number : Error → ℕ
error_number HeaderName = 2
error_number HeaderValue = 3
error_number NewLine = 4
error_number Status = 5
error_number Token = 6
error_number TooManyHeaders = 7
error_number Version = 8

-- 0 for complete, 1 for incomplete
abbrev pub kind_of : Passed → ℕ
kind_of (Ok q) = 0
kind_of (Err More) = 1
kind_of (Err (Bad x)) = error_number x.error

-- the end; or 0 where none was reached yet; or where the error lies
abbrev pub position_of : Passed → ℕ
position_of (Ok q) = q
position_of (Err More) = 0
position_of (Err (Bad x)) = x.position

-- what is not known is 0
abbrev pub piece_of : Option Piece → Piece
piece_of (Some p) = p
piece_of None = record { offset = 0; length = 0 }

-- a bit for each part that is known
abbrev pub bit_of : {T : Type 0} → Option T → ℕ → ℕ
bit_of (Some x) bit = bit
bit_of None bit = 0

-- a piece of no length has no place
abbrev pub placed : Piece → Piece
placed p = cond (eqb p.length 0) (record { offset = 0; length = 0 }) p

-- position, count, what is known (1 method, 2 target, 4 version), method, target, minor version
abbrev pub request_numbers : Head RequestLine → List ℕ
request_numbers h =
    position_of h.end ∷ h.count ∷ (bit_of h.line.method 1 + bit_of h.line.target 2 + bit_of h.line.version 4)
    ∷ (piece_of h.line.method).offset ∷ (piece_of h.line.method).length ∷ (piece_of h.line.target).offset ∷ (piece_of h.line.target).length ∷ number_of h.line.version ∷ []

-- position, count, what is known (4 version, 8 code, 16 reason), minor version, code, reason, 0
abbrev pub response_numbers : Head StatusLine → List ℕ
response_numbers h =
    position_of h.end ∷ h.count ∷ (bit_of h.line.version 4 + bit_of h.line.code 8 + bit_of h.line.reason 16)
    ∷ number_of h.line.version ∷ number_of h.line.code ∷ (placed (piece_of h.line.reason)).offset ∷ (placed (piece_of h.line.reason)).length ∷ 0 ∷ []

-- position and count
abbrev pub block_numbers : Block → List ℕ
block_numbers b = position_of b.end ∷ b.count ∷ 0 ∷ 0 ∷ 0 ∷ 0 ∷ 0 ∷ 0 ∷ []

-- 9 for a line that is wrong
abbrev pub size_kind : ChunkSize → ℕ
size_kind (Ok l) = 0
size_kind (Err More) = 1
size_kind (Err (Bad p)) = 9

-- position and size
abbrev pub size_numbers : ChunkSize → List ℕ
size_numbers (Ok l) = l.1 ∷ l.0 ∷ 0 ∷ 0 ∷ 0 ∷ 0 ∷ 0 ∷ 0 ∷ []
size_numbers (Err More) = 0 ∷ 0 ∷ 0 ∷ 0 ∷ 0 ∷ 0 ∷ 0 ∷ 0 ∷ []
size_numbers (Err (Bad p)) = p ∷ 0 ∷ 0 ∷ 0 ∷ 0 ∷ 0 ∷ 0 ∷ 0 ∷ []
