-- What it is for a rule to make a difference: a byte string is derivable with the rule and not without it; with a restriction it is the
-- other way round.
-- Assumes nothing.
use Rattle.std.specs.Prelude.{ℕ, ◌≡◌, List, Bool, true, false}
use Rattle.rules.specs.Rules.{Rules}
use Rattle.grammar.specs.Fields.{Field}
use Rattle.grammar.specs.Message.{RequestLine, StatusLine, IsHeaderBlock, IsRequestHead, IsResponseHead}
use Rattle.grammar.specs.Chunked.{IsChunkLine}

-- with the rule it is derivable, whatever the other rules are, and without it it is not
abbrev pub Real : (Rules → Bool) → (Rules → Type 0) → Type 0
Real rule D = ((r : Rules) → rule r ≡ true → D r) × ((r : Rules) → rule r ≡ false → D r → ⊥)

-- where no line is passed over, since a line that is none without the rule is then no error
abbrev pub RealUnignored : (Rules → Bool) → (Rules → Type 0) → Type 0
RealUnignored rule D = ((r : Rules) → rule r ≡ true → D r) × ((r : Rules) → rule r ≡ false → r.ignore_invalid_headers ≡ false → D r → ⊥)

-- the other way round
abbrev pub Restricts : (Rules → Bool) → (Rules → Type 0) → Type 0
Restricts rule D = ((r : Rules) → rule r ≡ false → D r) × ((r : Rules) → rule r ≡ true → D r → ⊥)

abbrev pub Request : List ℕ → Rules → Type 0
Request w r = (l : RequestLine) × (fs : List Field) × IsRequestHead r w l fs

abbrev pub Response : List ℕ → Rules → Type 0
Response w r = (l : StatusLine) × (fs : List Field) × IsResponseHead r w l fs

abbrev pub Headers : List ℕ → Rules → Type 0
Headers w r = (fs : List Field) × IsHeaderBlock r true w fs

abbrev pub Chunk : List ℕ → Rules → Type 0
Chunk w r = (n : ℕ) × IsChunkLine r w n
