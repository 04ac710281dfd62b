-- What is not lost where invalid lines are ignored: a block line by line, in bytes.
-- The theorems stand in proofs/Ignored.antt. Assumes nothing.
use Rattle.std.specs.Prelude.{ℕ, ◌≡◌, List, [], ◌∷◌, ◌++◌, Bool, true, false, length}
use Rattle.octets.specs.Grammar.{IsBlank}
use Rattle.rules.specs.Rules.{Rules}
use Rattle.grammar.specs.Rows.{Many, Some}
use Rattle.grammar.specs.Fields.{Field}
use Rattle.grammar.specs.Message.{IsLineEnd, IsFieldLine, IsBeforeFirstName, IsIgnoredLine}
use Rattle.grammar.specs.Message as grammar

-- a byte within a line
pub record IsInner (b : ℕ) : Type 0 where
  pub no_cr : b ≡ 0x0D → ⊥
  pub no_lf : b ≡ 0x0A → ⊥

-- lines that each begin with a blank
pub data Folds (r : Rules) : List ℕ → Type 0 where
  no_more : Folds r []
  one_more : {b : ℕ} {l e w : List ℕ} → IsBlank b → Many IsInner l → IsLineEnd r e → Folds r w → Folds r ((b ∷ l) ++ e ++ w)

-- one line with bytes in it, and, where folds are allowed, lines that go on with it: each begins with a blank
pub record OneField (r : Rules) (w : List ℕ) : Type 0 where
  pub l : List ℕ
  pub e : List ℕ
  pub t : List ℕ
  pub whole : w ≡ l ++ e ++ t
  pub inside : Some IsInner l
  pub ends : IsLineEnd r e
  pub folds : Folds r t
  pub single : r.multiline_headers ≡ false → t ≡ []

-- the line or lines w are a field's, whose end is theirs
pub record Good (r : Rules) (w : List ℕ) (f : Field) : Type 0 where
  pub v : List ℕ
  pub e : List ℕ
  pub whole : w ≡ v ++ e
  pub line : IsFieldLine r v f
  pub ends : IsLineEnd r e

-- A block line by line, from the first field on or behind it. What it gives are the fields of its good lines, each in its place; a line that is
-- not good gives none, and ends at its own end; and the block ends at its first empty line, before which, until there is a field, blanks
-- may stand where they are allowed. A line that begins with a blank is never taken for one that is not good where it may be a first line, nor
-- for the next one where it goes on with a field
pub data LineByLine (r : Rules) : (first : Bool) → List ℕ → List Field → Type 0 where
  over : {first : Bool} {s e : List ℕ} → IsBeforeFirstName r first s → IsLineEnd r e → LineByLine r first (s ++ e) []
  good : {first : Bool} {s w b : List ℕ} {f : Field} {fs : List Field} → IsBeforeFirstName r first s → OneField r w → Good r w f → grammar.NoFoldLeft r b → LineByLine r false b fs → LineByLine r first (s ++ (w ++ b)) (f ∷ fs)
  bad : {first : Bool} {s w b : List ℕ} {fs : List Field} → r.ignore_invalid_headers ≡ true → IsBeforeFirstName r first s → OneField r w → IsIgnoredLine r w → ((f : Field) → Good r w f → ⊥) → grammar.NoBlankLeft r first w → LineByLine r first b fs → LineByLine r first (s ++ (w ++ b)) fs

-- lines with bytes in them, and no empty one
pub data NoneEmpty (r : Rules) : List ℕ → Type 0 where
  no_line : NoneEmpty r []
  line : {l e w : List ℕ} → Some IsInner l → IsLineEnd r e → NoneEmpty r w → NoneEmpty r (l ++ e ++ w)

-- the bytes end with their first empty line
pub record FirstEmpty (r : Rules) (w : List ℕ) : Type 0 where
  pub v : List ℕ
  pub e : List ℕ
  pub whole : w ≡ v ++ e
  pub lines : NoneEmpty r v
  pub ends : IsLineEnd r e

-- what a call was complete on: a start, and behind it a block of these fields
pub record HeadByLine (r : Rules) (s : List ℕ) (q : ℕ) (fields : List Field) : Type 0 where
  pub start : List ℕ
  pub block : List ℕ
  pub behind : List ℕ
  pub whole : s ≡ start ++ block ++ behind
  pub end : q ≡ length (start ++ block)
  pub lines : LineByLine r true block fields
