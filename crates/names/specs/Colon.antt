-- What stands between a header's name and its colon (RFC 9112, 5.1): spaces and tabs where they are allowed, and nothing else.
-- The theorems stand in proofs/ToColon.antt. Assumes nothing.
use Rattle.std.specs.Prelude.{ℕ, ◌+◌, ◌≤◌, ◌<◌, ◌≡◌, List, Bool, true, Ok, Err, length, get_or}
use Rattle.reader.specs.Answer.{got}
use Rattle.octets.specs.Class.{is_token}
use Rattle.octets.specs.Grammar.{IsTchar, IsBlank}
use Rattle.gaps.specs.Gap.{gap_end}
use Rattle.rules.specs.Rules.{Rules}
use Rattle.parts.specs.declared.Error.TheVariants.{HeaderName}
use Rattle.parts.specs.declared.Unread.TheVariants.{More, Bad}
use Rattle.parts.specs.declared.Piece.{Piece}
use Rattle.parts.specs.Answers.{Passed}
use Rattle.names.specs.Name.{name}

-- each byte from i up to j is a space or a tab, and they are allowed: where they are not there is none
abbrev pub Blanks : Bool → List ℕ → ℕ → ℕ → Type 0
Blanks allowed xs i j = (k : ℕ) → i ≤ k → k < j → (allowed ≡ true) × IsBlank (get_or xs k 0)

-- behind a name's end stands a colon, and before it blanks and nothing else
pub record ToColon (allowed : Bool) (xs : List ℕ) (end : ℕ) : Type 0 where
  pub colon : ℕ
  pub behind : end ≤ colon
  pub inside : colon < length xs
  pub there : get_or xs colon 0 ≡ 0x3A
  pub between : Blanks allowed xs end colon

-- a name: one or more token bytes, and behind them its colon
pub record NameToColon (allowed : Bool) (xs : List ℕ) (a : Piece) : Type 0 where
  pub long : 1 ≤ a.length
  pub tokens : (i : ℕ) → a.offset ≤ i → i < a.offset + a.length → IsTchar (get_or xs i 0)
  pub to_colon : ToColon allowed xs (a.offset + a.length)

-- what is found behind a name's end: its colon, and where it ends; the end of the input, behind blanks; or the first byte that is neither
-- the colon nor a blank that is allowed
abbrev pub BehindName : Bool → List ℕ → ℕ → Passed → Type 0
BehindName allowed xs end (Ok q) = (k : ToColon allowed xs end) × (q ≡ k.colon + 1)
BehindName allowed xs end (Err More) = Blanks allowed xs end (length xs)
BehindName allowed xs end (Err (Bad x)) =
    (x.error ≡ HeaderName) × (end ≤ x.position) × (x.position < length xs) × Blanks allowed xs end x.position
    × (get_or xs x.position 0 ≡ 0x3A → ⊥) × (allowed ≡ true → IsBlank (get_or xs x.position 0) → ⊥)

-- a name that is read is one, up to its colon
module _ (r : Rules) (xs : List ℕ) (at : ℕ) (a : Piece) (q : ℕ) (g : name r xs at ≡ got a q) where
  abbrev pub end : ℕ
  end = gap_end is_token xs (at + 1)
