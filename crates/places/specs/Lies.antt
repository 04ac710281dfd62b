-- What a plain form is written of: an answer that is complete, and places that lie in the input.
-- Assumes nothing.
use Rattle.std.specs.Prelude.{ℕ, ◌+◌, ◌*◌, ◌≤◌, List, [], length, None, Ok, Option, Some}
use Rattle.grammar.specs.Message as grammar
use Rattle.parts.specs.declared.Piece.{Piece}
use Rattle.parts.specs.Answers.{Passed}
use Rattle.startline.specs.Answers.{number_of}
use Rattle.requestline.specs.declared.RequestLine.{RequestLine}
use Rattle.statusline.specs.declared.StatusLine.{StatusLine}
use Rattle.heads.specs.declared.Head.{Head}
use Rattle.blocks.specs.declared.Block.{Block}
use Rattle.agreement.specs.Places.{held}
use Rattle.agreement.specs.Known.{fields_in, SlotsInside}
use Rattle.plain.specs.Plain.{OneLine}

-- what is told: of a piece its bytes, of a version the minor number, the major one being 1
abbrev pub bytes_of : List ℕ → Option Piece → List ℕ
bytes_of s (Some a) = held s a
bytes_of s None = []

abbrev pub one_point : ℕ → grammar.Version
one_point n = record { major = 1; minor = n }

abbrev pub request_of : List ℕ → RequestLine → grammar.RequestLine
request_of s k = record { method = bytes_of s k.method; target = bytes_of s k.target; version = one_point (number_of k.version) }

abbrev pub status_of : List ℕ → StatusLine → grammar.StatusLine
status_of s k = record { version = one_point (number_of k.version); code = number_of k.code; reason = bytes_of s k.reason }

-- the reading reached an end
pub data Complete : Passed → Type 0 where
  at : (q : ℕ) → Complete (Ok q)

-- a piece is known, and lies in the input
pub data Lies (s : List ℕ) : Option Piece → Type 0 where
  known : (a : Piece) → a.offset + a.length ≤ length s → Lies s (Some a)

-- a number is known, and is no greater
pub data AtMost (m : ℕ) : Option ℕ → Type 0 where
  known : (n : ℕ) → n ≤ m → AtMost m (Some n)

-- the first count slots are there, and their places lie in the input
pub record SlotsLie (s : List ℕ) (count : ℕ) (slots : List ℕ) : Type 0 where
  pub room : count * 4 ≤ length slots
  pub inside : SlotsInside (length s) count slots

-- all of a request was read and lies in the input; the minor number is a digit
pub record RequestLies (s : List ℕ) (head : Head RequestLine) (slots : List ℕ) : Type 0 where
  pub complete : Complete head.end
  pub method : Lies s head.line.method
  pub target : Lies s head.line.target
  pub version : AtMost 9 head.line.version
  pub headers : SlotsLie s head.count slots

-- all of a response was read and lies in the input; the code has three digits, and each value stands on one line
pub record ResponseLies (s : List ℕ) (head : Head StatusLine) (slots : List ℕ) : Type 0 where
  pub complete : Complete head.end
  pub version : AtMost 9 head.line.version
  pub code : AtMost 999 head.line.code
  pub reason : Lies s head.line.reason
  pub headers : SlotsLie s head.count slots
  pub lines : OneLine (fields_in s head.count slots)

-- and of headers alone
pub record BlockLies (s : List ℕ) (block : Block) (slots : List ℕ) : Type 0 where
  pub complete : Complete block.end
  pub headers : SlotsLie s block.count slots
