-- No response with a value over several lines, and so without a plain form, is shorter than the one in Readings.antt.
-- Assumes nothing.
use Rattle.std.specs.Prelude.{ℕ, ◌≤◌, ◌⊎◌, List, [], ◌∷◌, ◌++◌, Bool, length}
use Rattle.std.proofs.Common.{arith, inl, inr, length-append}
use Rattle.octets.specs.Grammar.{IsText}
use Rattle.octets.specs.Grammar as bytes
use Rattle.rules.specs.Rules.{Rules}
use Rattle.grammar.specs.Rows.{Many, none, more, some}
use Rattle.grammar.specs.Fields.{Field}
use Rattle.grammar.specs.Message.{fold, Version, HTTP_version, one_zero, one_one, IsDelimiter, IsStatusCode, StatusLine, IsStatusLine, IsWithinValue, IsFieldLine, IsHeaderBlock, IsResponseHead}
use Rattle.grammar.specs.Message as grammar
use Rattle.lengths.specs.Lengths.{ends_long, block_long}
use Rattle.agreement.specs.Rows.{many_append}
use Rattle.agreement.specs.Tail.{line_parts}
use Rattle.plain.specs.Plain.{one_line, OneLine}
use Rattle.plain.proofs.OneLine.{texts_no_end, value_one_line}
use Rattle.leniency.specs.Text.{ascii}

-- what stands within a value is text, or has a fold in it
text_or_fold : {r : Rules} {m : List ℕ} → IsWithinValue r m → Many IsText m ⊎ (2 ≤ length m)
text_or_fold grammar.IsWithinValue.none = inl none
text_or_fold (grammar.IsWithinValue.more {b = b} {w = w} h j) = by (text_or_fold j)
  where
    by : Many IsText w ⊎ (2 ≤ length w) → Many IsText (b ∷ w) ⊎ (2 ≤ length (b ∷ w))
    by (inl k) = inl (more h k)
    by (inr l) = inr (omega (arith, l))
text_or_fold (grammar.IsWithinValue.folded {w = w} (fold {e = e} {b = b} t d x) j) = inr (omega (arith, length-append (e ++ (b ∷ [])) w, length-append e (b ∷ []), ends_long d))

-- a field is in one line, or its own has six bytes at least: a name, a colon, and two bytes around a line's end and a blank
field_long : {r : Rules} {w : List ℕ} {f : Field} → IsFieldLine r w f → one_line f.value ⊎ (6 ≤ length w)
field_long (grammar.IsFieldLine.line n a i (grammar.IsValueLines.one x) j) = inl (value_one_line x)
field_long (grammar.IsFieldLine.line {s = s} {o = o} {t = t} (some {b = h} {w = n} p q) a i (grammar.IsValueLines.several {b = b} {c = c} {m = m} y u k v) j) = by (text_or_fold k)
  where
    by : Many IsText m ⊎ (2 ≤ length m) → one_line ((b ∷ m) ++ (c ∷ [])) ⊎ (6 ≤ length ((h ∷ n) ++ s ++ grammar.colon ++ o ++ ((b ∷ m) ++ (c ∷ [])) ++ t))
    by (inl k) = inl (texts_no_end (more (bytes.IsText.field u) (many_append k (more (bytes.IsText.field v) none))))
    by (inr l) =
        inr (omega (
          arith,
          l,
          length-append ((h ∷ n) ++ s ++ grammar.colon ++ o ++ ((b ∷ m) ++ (c ∷ []))) t,
          length-append ((h ∷ n) ++ s ++ grammar.colon ++ o) ((b ∷ m) ++ (c ∷ [])),
          length-append ((h ∷ n) ++ s ++ grammar.colon) o,
          length-append ((h ∷ n) ++ s) grammar.colon,
          length-append (h ∷ n) s,
          length-append (b ∷ m) (c ∷ []),
        ))

broken_long : {r : Rules} {first : Bool} {w : List ℕ} {fs : List Field} → IsHeaderBlock r first w fs → (OneLine fs → ⊥) → 8 ≤ length w
broken_long (grammar.IsHeaderBlock.end a e) h = absurd (h tt)
broken_long (grammar.IsHeaderBlock.field {s = s} {w = w} {e = e} {b = b} {f = f} {fs = fs} a d c o k) h = by (field_long d) (λ i. broken_long k i)
  where
    by : one_line f.value ⊎ (6 ≤ length w) → ((OneLine fs → ⊥) → 8 ≤ length b) → 8 ≤ length (s ++ (w ++ e ++ b))
    by (inl u) rest = omega (arith, length-append s (w ++ e ++ b), length-append (w ++ e) b, rest (λ i. h (u, i)))
    by (inr l) rest = omega (arith, l, length-append s (w ++ e ++ b), length-append (w ++ e) b, length-append w e, ends_long c, block_long k)
broken_long (grammar.IsHeaderBlock.ignored {s = s} {w = w} {b = b} t a l o k) h = omega (arith, length-append s (w ++ b), length-append w b, broken_long k h)

version_long : {r : Rules} {w : List ℕ} {v : Version} → HTTP_version r w v → 8 ≤ length w
version_long one_zero = omega arith
version_long one_one = omega arith
version_long (grammar.HTTP_version.other t a b) = omega arith

space_long : {several : Bool} {w : List ℕ} → IsDelimiter several w → 1 ≤ length w
space_long grammar.IsDelimiter.one = omega arith
space_long (grammar.IsDelimiter.more t k) = omega arith

code_long : {r : Rules} {w : List ℕ} {n : ℕ} → IsStatusCode r w n → 3 ≤ length w
code_long (grammar.IsStatusCode.class a b c) = omega arith
code_long (grammar.IsStatusCode.any t a b c) = omega arith

line_long : {r : Rules} {w : List ℕ} {l : StatusLine} → IsStatusLine r w l → 12 ≤ length w
line_long d =
    let P = line_parts d in
    rw P.whole (omega (arith, length-append (P.v ++ P.d ++ P.c) P.w, length-append (P.v ++ P.d) P.c, length-append P.v P.d, version_long P.version, space_long P.delimits, code_long P.code))

-- whatever the rules are
pub shortest_fold : {r : Rules} {w : List ℕ} {l : StatusLine} {fs : List Field} → IsResponseHead r w l fs → (OneLine fs → ⊥) → length (ascii "HTTP/1.0 200\nA:b\n c\n\n") ≤ length w
shortest_fold (grammar.head.message {e = e} {w = w} {c = c} {b = b} x l d k) h = omega (arith, length-append (e ++ w ++ c) b, length-append (e ++ w) c, length-append e w, line_long l, ends_long d, broken_long k h)
