-- A value stands on one line exactly where it is a field value; and where no setting lets it go on over several lines it does.
-- Assumes nothing.
use Rattle.std.specs.Prelude.{ℕ, ◌≡◌, refl, List, [], ◌∷◌, ◌++◌, Bool, false}
use Rattle.std.proofs.Common.{arith, sym, subst, ◌∙◌, append-nil}
use Rattle.std.proofs.lemmas.Bool.{false≢true}
use Rattle.octets.specs.Grammar.{IsFieldVchar, IsText}
use Rattle.octets.specs.Grammar as bytes
use Rattle.rules.specs.Rules.{Rules}
use Rattle.grammar.specs.Rows.{Many, none, more, some}
use Rattle.grammar.specs.Fields.{IsFieldContent, IsFieldValue, Field}
use Rattle.grammar.specs.Fields as fields
use Rattle.grammar.specs.Message.{IsLineEnd, crlf, lf, IsWithinValue, IsValueLines, IsFieldLine, IsHeaderBlock, head}
use Rattle.grammar.specs.Message as grammar
use Rattle.plain.specs.Plain.{one_line, OneLine}

many_append : {c : ℕ → Type 0} {v w : List ℕ} → Many c v → Many c w → Many c (v ++ w)
many_append none k = k
many_append (more x h) k = more x (many_append h k)

left_of : {c : ℕ → Type 0} (v w : List ℕ) → Many c (v ++ w) → Many c v
left_of [] w k = none
left_of (b ∷ v) w (more x k) = more x (left_of v w k)

-- no byte of a field value is LF
vchar_no_end : {b : ℕ} → IsFieldVchar b → b ≡ 0x0A → ⊥
vchar_no_end (bytes.visible h) e = omega (arith, e, h.low)
vchar_no_end (bytes.obsolete h) e = omega (arith, e, h.low)

text_no_end : {b : ℕ} → IsText b → b ≡ 0x0A → ⊥
text_no_end (bytes.IsText.white (bytes.IsBlank.space i)) e = omega (arith, e, i)
text_no_end (bytes.IsText.white (bytes.IsBlank.tab i)) e = omega (arith, e, i)
text_no_end (bytes.IsText.field h) e = vchar_no_end h e

pub texts_no_end : {w : List ℕ} → Many IsText w → one_line w
texts_no_end none = none
texts_no_end (more h k) = more (text_no_end h) (texts_no_end k)

content_text : {v : List ℕ} → IsFieldContent v → Many IsText v
content_text (fields.one h) = more (bytes.IsText.field h) none
content_text (fields.IsFieldContent.more h (some x k) l) = more (bytes.IsText.field h) (many_append (more x k) (more (bytes.IsText.field l) none))

pub value_text : {v : List ℕ} → IsFieldValue v → Many IsText v
value_text fields.none = none
value_text (fields.IsFieldValue.more c k) = many_append (content_text c) (value_text k)

pub value_one_line : {v : List ℕ} → IsFieldValue v → one_line v
value_one_line k = texts_no_end (value_text k)

-- a line's end has an LF
no_end : {r : Rules} {e : List ℕ} → IsLineEnd r e → one_line e → ⊥
no_end crlf (more x (more y k)) = y refl
no_end (lf h) (more x k) = x refl

within_texts : {r : Rules} {m : List ℕ} → IsWithinValue r m → one_line m → Many IsText m
within_texts grammar.IsWithinValue.none k = none
within_texts (grammar.IsWithinValue.more x w) (more y k) = more x (within_texts w k)
within_texts (grammar.IsWithinValue.folded {w = v} (grammar.IsObsFold.fold {e = e} {b = b} t d y) w) k = absurd (no_end d (left_of e (b ∷ []) (left_of (e ++ (b ∷ [])) v k)))

between : {b c : ℕ} {m : List ℕ} → IsFieldVchar b → Many IsText m → IsFieldVchar c → IsFieldValue ((b ∷ m) ++ (c ∷ []))
between h none l = fields.IsFieldValue.more (fields.one h) (fields.IsFieldValue.more (fields.one l) fields.none)
between {b} {c} h (more {b = x} {w = m} i k) l = subst IsFieldValue (append-nil ((b ∷ x ∷ m) ++ (c ∷ []))) (fields.IsFieldValue.more (fields.IsFieldContent.more h (some i k) l) fields.none)

pub one_line_value : {r : Rules} {v : List ℕ} → IsValueLines r v → one_line v → IsFieldValue v
one_line_value (grammar.IsValueLines.one k) o = k
one_line_value (grammar.IsValueLines.several {b = b} {c = c} {m = m} t h w l) (more x o) = between h (within_texts w (left_of m (c ∷ []) o)) l

-- the fields of a head
module _ {r : Rules} (off : r.multiline_headers ≡ false) where
  pub block_off : {first : Bool} {w : List ℕ} {fs : List Field} → IsHeaderBlock r first w fs → OneLine fs
  block_off (grammar.IsHeaderBlock.end c d) = tt
  block_off (grammar.IsHeaderBlock.field c f d o k) = (field_off f, block_off k)
    where
      value_off : {v : List ℕ} → IsValueLines r v → one_line v
      value_off (grammar.IsValueLines.one k) = value_one_line k
      value_off (grammar.IsValueLines.several t h w l) = absurd (false≢true (sym off ∙ t))

      field_off : {w : List ℕ} {f : Field} → IsFieldLine r w f → one_line f.value
      field_off (grammar.IsFieldLine.line n s o v t) = value_off v
  block_off (grammar.IsHeaderBlock.ignored t c l o k) = block_off k
