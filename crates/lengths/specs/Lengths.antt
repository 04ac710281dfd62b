-- No line end, field line, ignored line, header block or head is empty.
-- Assumes nothing.
use Rattle.std.specs.Prelude.{ℕ, ◌≤◌, List, ◌∷◌, ◌++◌, Bool, length}
use Rattle.std.proofs.Common.{arith, length-append}
use Rattle.rules.specs.Rules.{Rules}
use Rattle.grammar.specs.Rows.{some}
use Rattle.grammar.specs.Fields.{Field}
use Rattle.grammar.specs.Message.{colon, IsLineEnd, crlf, lf, IsFieldLine, IsIgnoredLine, IsHeaderBlock, head}
use Rattle.grammar.specs.Message as grammar

module _ {r : Rules} where
  pub ends_long : {w : List ℕ} → IsLineEnd r w → 1 ≤ length w
  ends_long crlf = omega arith
  ends_long (lf h) = omega arith

  pub field_long : {w : List ℕ} {f : Field} → IsFieldLine r w f → 2 ≤ length w
  field_long (grammar.IsFieldLine.line {n = n} {s = s} {o = o} {v = v} {t = t} (some x k) b c d e) =
      omega (arith, length-append (n ++ s ++ colon ++ o ++ v) t, length-append (n ++ s ++ colon ++ o) v, length-append (n ++ s ++ colon) o, length-append (n ++ s) colon, length-append n s)

  pub ignored_long : {w : List ℕ} → IsIgnoredLine r w → 1 ≤ length w
  ignored_long (grammar.IsIgnoredLine.no_name h i k d) = omega arith
  ignored_long (grammar.IsIgnoredLine.no_colon {n = n} {s = s} {u = u} {e = e} name b f k d) = omega (arith, length-append (n ++ s) (u ++ e), length-append u e, ends_long d)
  ignored_long (grammar.IsIgnoredLine.no_value {n = n} {s = s} {m = m} {u = u} {e = e} {c = c} name b v h i k d) = omega (arith, length-append (n ++ s ++ colon ++ m) ((c ∷ u) ++ e), length-append (c ∷ u) e)

  pub block_long : {first : Bool} {w : List ℕ} {fs : List Field} → IsHeaderBlock r first w fs → 1 ≤ length w
  block_long (grammar.IsHeaderBlock.end {s = s} {e = e} c d) = omega (arith, length-append s e, ends_long d)
  block_long (grammar.IsHeaderBlock.field {s = s} {w = w} {e = e} {b = b} c f d o k) = omega (arith, length-append s (w ++ e ++ b), length-append (w ++ e) b, block_long k)
  block_long (grammar.IsHeaderBlock.ignored {s = s} {w = w} {b = b} t c l o k) = omega (arith, length-append s (w ++ b), length-append w b, block_long k)

  pub head_long : {L : Type 0} {A : List ℕ → L → Type 0} {w : List ℕ} {l : L} {fs : List Field} → head r A w l fs → 1 ≤ length w
  head_long (grammar.head.message {e = e} {w = w} {c = c} {b = b} x l d k) = omega (arith, length-append (e ++ w ++ c) b, block_long k)
