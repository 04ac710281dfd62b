-- What is derived under `strict` is derived under `default` with the same fields, where the restrictions known_versions, obs_reason
-- and sixteen_digits take nothing away.
-- The theorems stand in proofs/Strict.antt. Assumes nothing.
use Rattle.std.specs.Prelude.{ℕ, ◌≤◌, ◌≡◌, ◌⊎◌, List, [], ◌∷◌, ◌++◌, length}
use Rattle.octets.specs.Grammar.{HEXDIG, IsObsText}
use Rattle.grammar.specs.Rows.{Many}
use Rattle.grammar.specs.Message.{Version, StatusLine}

-- known_versions: 1.0 or 1.1
abbrev pub Known : Version → Type 0
Known v = (v ≡ record { major = 1; minor = 0 }) ⊎ (v ≡ record { major = 1; minor = 1 })

-- and a reason with obs-text is given as empty
pub record Obsolete (w : List ℕ) : Type 0 where
  pub before : List ℕ
  pub byte : ℕ
  pub behind : List ℕ
  pub whole : w ≡ before ++ (byte ∷ behind)
  pub here : IsObsText byte

-- the line with no reason
abbrev pub unreasoned : StatusLine → StatusLine
unreasoned l = record { version = l.version; code = l.code; reason = [] }

-- sixteen_digits: no more than sixteen digits stand at the start
abbrev pub Few : List ℕ → Type 0
Few w = (s x : List ℕ) → w ≡ s ++ x → Many HEXDIG s → length s ≤ 16
