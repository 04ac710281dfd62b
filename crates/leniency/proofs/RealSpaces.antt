-- Each rule for spaces and folds makes a difference: the byte string is one of its entry in docs/DIFFERENCES.md.
-- Assumes nothing.
use Rattle.std.specs.Prelude.{ℕ, ◌≤◌, ◌≡◌, refl, List, [], ◌∷◌, ◌++◌, Bool, true, false, length, eqb}
use Rattle.std.proofs.Common.{arith, sym, ap, subst, ◌∙◌, append_assoc}
use Rattle.std.proofs.lemmas.Bool.{eqb-false}
use Rattle.reader.specs.Tests.{both_true, clash, never}
use Rattle.octets.specs.Grammar.{IsText}
use Rattle.octets.specs.Grammar as bytes
use Rattle.octets.specs.Class.{among, within, is_digit, is_blank, is_token, is_target}
use Rattle.octets.proofs.Ties.{blank_is_blank, token_is_tchar}
use Rattle.octets.specs.Outside.{differs, space_no_token, colon_no_token, colon_no_blank}
use Rattle.gaps.specs.Gap.{spaces_if}
use Rattle.rules.specs.Rules.{Rules}
use Rattle.grammar.specs.Rows.{Many, none, more, Some, some}
use Rattle.grammar.specs.Fields as fields
use Rattle.grammar.specs.Fields.{IsFieldValue, Field}
use Rattle.grammar.specs.Message.{IsLineEnd, crlf, lf, one_zero, IsRequestTarget, RequestLine, IsRequestLine, IsReasonPhrase, StatusLine, IsAroundValue, IsValueLines, IsIgnorable, IsHeaderBlock, IsResponseHead}
use Rattle.grammar.specs.Message as grammar
use Rattle.lengths.specs.Lengths.{block_long}
use Rattle.leaves.specs.Rows.{In}
use Rattle.agreement.specs.Rows.{many_as, many_append}
use Rattle.agreement.specs.Value.{vchar_above}
use Rattle.agreement.specs.Tail.{Tail}
use Rattle.agreement.specs.Tail as tails
use Rattle.leniency.specs.Text.{ascii}
use Rattle.leniency.proofs.Strict.{ascii_is_text}
use Rattle.leniency.proofs.Allows.{no_blank_block}
use Rattle.leniency.proofs.Off.{blanks_around, one_line}
use Rattle.plain.proofs.OneLine.{value_text}
use Rattle.leniency.specs.Builders.{a_token, a_value, a_target}
use Rattle.leniency.specs.Real.{Real, RealUnignored, Request, Response}
use Rattle.leniency.specs.Shapes.{same_head, same_tail, answer, behind_code_lem}
use Rattle.leniency.specs.Lines.{on_if, Bare, bare, above_ignorable, behind_end, passed, at_cr, at_letter, BehindLetter, behind_letter, BehindColon, behind_colon}
use Rattle.leniency.specs.Lines as lines
use Rattle.leniency.specs.RealHeads.{two_hundred, no_fields, before_end, said, begins_space, no_end, asked}

-- spaces_in_request_line
no_space_target : {r : Rules} {t : List ℕ} → IsRequestTarget r t → (zs ys : List ℕ) → t ++ zs ≡ 32 ∷ ys → ⊥
no_space_target (grammar.IsRequestTarget.visible (some h k)) zs ys e = omega (arith, h.low, same_head e)
no_space_target (grammar.IsRequestTarget.any t (some h k) u) zs ys e = omega (arith, vchar_above h, same_head e)

no_two_spaces : {r : Rules} {w : List ℕ} {l : RequestLine} → r.spaces_in_request_line ≡ false → IsRequestLine r w l → (zs ys : List ℕ) → w ++ zs ≡ 65 ∷ 32 ∷ 32 ∷ ys → ⊥
no_two_spaces f (grammar.IsRequestLine.line {t = t} {e = d} {v = v} (some h none) grammar.IsDelimiter.one k s n) zs ys e = let q : t ++ d ++ v ++ zs ≡ 32 ∷ ys = same_tail (same_tail e) in no_space_target k (d ++ (v ++ zs)) ys (simp append_assoc at q)
no_two_spaces f (grammar.IsRequestLine.line (some h none) (grammar.IsDelimiter.more t i) k s n) zs ys e = clash t f
no_two_spaces f (grammar.IsRequestLine.line (some h (more {b = b} x l)) i k s n) zs ys e = differs is_token space_no_token ((token_is_tchar b).1 x) (same_head (same_tail e))

pub spaces_in_request_line_real : Real (λ r. r.spaces_in_request_line) (Request (ascii "A  * HTTP/1.0\r\n\r\n"))
unfolding is_token is_digit within among
spaces_in_request_line_real = (
  λ r t. (
    record { method = ascii "A"; target = ascii "*"; version = record { major = 1; minor = 0 } },
    [],
    grammar.head.message grammar.IsEmptyLines.none (grammar.IsRequestLine.line (a_token "A" refl) (grammar.IsDelimiter.more t grammar.IsDelimiter.one) (a_target "*" refl) grammar.IsDelimiter.one one_zero) crlf no_fields,
  ),
  λ r f d. let A = asked (ascii "  * HTTP/1.0\r\n\r\n") d.2 refl in no_two_spaces f A.line (A.c ++ A.b) (ascii "* HTTP/1.0\r\n\r\n") A.whole,
)

-- spaces_in_status_line
no_gap : (several : Bool) {g : List ℕ} {x : ℕ} → several ≡ false → Many (In (spaces_if several)) g → 48 ≤ x → (zs ys : List ℕ) → g ++ (x ∷ zs) ≡ 32 ∷ ys → ⊥
no_gap several f none h zs ys e = omega (arith, h, same_head e)
no_gap several f (more {b = b} x k) h zs ys e = clash (both_true several (eqb b 32) x).0 f

pub spaces_in_status_line_real : Real (λ r. r.spaces_in_status_line) (Response (ascii "HTTP/1.0  200 \r\n\r\n"))
spaces_in_status_line_real = (
  λ r t. (said 1 200, [], grammar.head.message grammar.IsEmptyLines.none (grammar.IsStatusLine.no_reason one_zero (grammar.IsDelimiter.more t grammar.IsDelimiter.one) two_hundred grammar.IsDelimiter.one) crlf no_fields),
  λ r f d.
      let A = answer (ascii "TTP/1.0  200 \r\n\r\n") d.2 refl in
      let q = same_tail (same_tail (same_tail (same_tail (same_tail (same_tail (same_tail (same_tail (same_tail A.whole)))))))) in
      no_gap r.spaces_in_status_line f A.line.gap A.line.digit (A.line.y ∷ A.line.z ∷ (A.line.t ++ (A.c ++ A.b))) (ascii "200 \r\n\r\n") q,
)

-- what is behind the line of a response with the code 200 and no reason
pub no_cr_text : {b : ℕ} {ys zs : List ℕ} → IsText b → b ∷ zs ≡ 13 ∷ ys → ⊥
no_cr_text (bytes.IsText.white (bytes.IsBlank.space i)) e = omega (arith, i, same_head e)
no_cr_text (bytes.IsText.white (bytes.IsBlank.tab i)) e = omega (arith, i, same_head e)
no_cr_text (bytes.IsText.field (bytes.visible i)) e = omega (arith, i.low, same_head e)
no_cr_text (bytes.IsText.field (bytes.obsolete i)) e = omega (arith, i.low, same_head e)

no_reason : {r : Rules} {u g : List ℕ} → IsReasonPhrase r u g → (zs ys : List ℕ) → u ++ zs ≡ 13 ∷ ys → ⊥
no_reason (grammar.IsReasonPhrase.ascii (some {b = b} h k)) zs ys e = no_cr_text (ascii_is_text b h) e
no_reason (grammar.IsReasonPhrase.whole t (some h k)) zs ys e = no_cr_text h e
no_reason (grammar.IsReasonPhrase.emptied t none o l) zs ys e = omega (arith, o.low, same_head e)
no_reason (grammar.IsReasonPhrase.emptied t (more h k) o l) zs ys e = no_cr_text h e

behind_tail : {r : Rules} {t g c : List ℕ} → Tail r t g → IsLineEnd r c → (zs ys : List ℕ) → t ++ (c ++ zs) ≡ 32 ∷ 13 ∷ 10 ∷ ys → zs ≡ ys
behind_tail (tails.nothing grammar.IsDelimiter.one) k zs ys e = behind_end k zs ys (same_tail e)
behind_tail {c = c} (tails.nothing (grammar.IsDelimiter.more t s)) k zs ys e = absurd (omega (arith, begins_space s (c ++ zs) 13 (10 ∷ ys) (same_tail e)))
behind_tail {c = c} (tails.reason grammar.IsDelimiter.one x n) k zs ys e = absurd (no_reason x (c ++ zs) (10 ∷ ys) (same_tail e))
behind_tail {c = c} (tails.reason {u = u} (grammar.IsDelimiter.more {w = w} t s) x n) k zs ys e = absurd (omega (arith, begins_space s (u ++ (c ++ zs)) 13 (10 ∷ ys) (sym (append_assoc w u (c ++ zs)) ∙ same_tail e)))
behind_tail (tails.short t) k zs ys e = absurd (no_end 32 refl refl k zs (13 ∷ 10 ∷ ys) e)

pub block_of : {r : Rules} {l : StatusLine} {fs : List Field} (ys : List ℕ) → IsResponseHead r (ascii "HTTP/1.0 200 \r\n" ++ ys) l fs → IsHeaderBlock r true ys fs
block_of {r} {fs = fs} ys d =
    let A = answer (ascii "TTP/1.0 200 \r\n" ++ ys) d refl in
    subst (λ y. IsHeaderBlock r true y fs) (behind_tail A.line.tail A.ends A.b ys (behind_code_lem A (ascii " \r\n" ++ ys) refl refl).1) A.block

pub a_response : {r : Rules} {b : List ℕ} {fs : List Field} → IsHeaderBlock r true b fs → IsResponseHead r (ascii "HTTP/1.0 200 \r\n" ++ b) (said 1 200) fs
a_response b = grammar.head.message grammar.IsEmptyLines.none (grammar.IsStatusLine.no_reason one_zero grammar.IsDelimiter.one two_hundred grammar.IsDelimiter.one) crlf b

-- space_before_first_name: a line of a space is no end without it, and where lines are passed over nothing is left behind it
no_space_before : {r : Rules} {b : List ℕ} {fs : List Field} → Bare r true b fs → b ≡ ascii " \r\n" → ⊥
no_space_before (lines.end crlf) e = eqb-false 13 32 refl (same_head e)
no_space_before (lines.end (lf t)) e = eqb-false 10 32 refl (same_head e)
no_space_before (lines.field (grammar.IsFieldLine.line (some {b = b} h k) s o v t) c i x) e = differs is_token space_no_token ((token_is_tchar b).1 h) (same_head e)
no_space_before (lines.ignored {b = b} t (grammar.IsIgnoredLine.no_name {u = u} {e = c} x i k d) o l) e =
    let q : b ≡ [] = passed k none d b [] (sym (append_assoc u c b) ∙ same_tail e) in
    omega (arith, block_long l, ap length q)
no_space_before (lines.ignored t (grammar.IsIgnoredLine.no_colon (some {b = b} h k) s x u d) o l) e = differs is_token space_no_token ((token_is_tchar b).1 h) (same_head e)
no_space_before (lines.ignored t (grammar.IsIgnoredLine.no_value (some {b = b} h k) s m x i u d) o l) e = differs is_token space_no_token ((token_is_tchar b).1 h) (same_head e)

a_space : Some bytes.IsBlank (ascii " ")
a_space = some (bytes.IsBlank.space refl) none

pub space_before_first_name_real : Real (λ r. r.space_before_first_name) (Response (ascii "HTTP/1.0 200 \r\n \r\n"))
space_before_first_name_real = (
  λ r t. (said 1 200, [], a_response (grammar.IsHeaderBlock.end (grammar.IsBeforeFirstName.blanks t a_space) crlf)),
  λ r f d. no_space_before (bare (block_of (ascii " \r\n") d.2) 32 (ascii "\r\n") refl (λ t h. clash t f)) refl,
)

-- spaces_after_name: without it a line with a space behind its name is passed over or refused
no_space_ignored : {r : Rules} {v : List ℕ} → r.spaces_after_name ≡ false → BehindLetter r v → (zs : List ℕ) → v ++ zs ≡ ascii " :\r\n\r\n" → zs ≡ ascii "\r\n"
no_space_ignored f (lines.no_colon {u = u} {e = c} grammar.IsBehindName.nothing x k d) zs e =
    let spaced : Many IsIgnorable (ascii " :") = more (above_ignorable 0x20 (omega arith)) (more (above_ignorable 0x3A (omega arith)) none) in
    passed k spaced d zs (ascii "\r\n") (sym (append_assoc u c zs) ∙ e)
no_space_ignored f (lines.no_colon (grammar.IsBehindName.blanks y s) x k d) zs e = absurd (clash y f)
no_space_ignored f (lines.no_value grammar.IsBehindName.nothing m x i k d) zs e = absurd (eqb-false 58 32 refl (same_head e))
no_space_ignored f (lines.no_value (grammar.IsBehindName.blanks y s) m x i k d) zs e = absurd (clash y f)

no_space_behind : {r : Rules} {first : Bool} {b : List ℕ} {fs : List Field} → r.spaces_after_name ≡ false → Bare r first b fs → b ≡ ascii "A :\r\n\r\n" → (r.ignore_invalid_headers ≡ true) × (fs ≡ [])
no_space_behind f (lines.end crlf) e = absurd (eqb-false 13 65 refl (same_head e))
no_space_behind f (lines.end (lf t)) e = absurd (eqb-false 10 65 refl (same_head e))
no_space_behind f (lines.field (grammar.IsFieldLine.line (some h none) grammar.IsBehindName.nothing o v t) c i x) e = absurd (eqb-false 58 32 refl (same_head (same_tail e)))
no_space_behind f (lines.field (grammar.IsFieldLine.line (some h none) (grammar.IsBehindName.blanks y s) o v t) c i x) e = absurd (clash y f)
no_space_behind f (lines.field (grammar.IsFieldLine.line (some h (more {b = b} y k)) s o v t) c i x) e = absurd (differs is_token space_no_token ((token_is_tchar b).1 y) (same_head (same_tail e)))
no_space_behind f (lines.ignored {b = b} t l o k) e = let B = behind_letter l 32 space_no_token b (ascii ":\r\n\r\n") e in (t, (at_cr (ascii "\n") k (no_space_ignored f B.1 b B.2)).1)

abbrev field : List ℕ → Field
field value = record { name = ascii "A"; value = value }

space_behind : (r : Rules) → r.spaces_after_name ≡ true → IsResponseHead r (ascii "HTTP/1.0 200 \r\nA :\r\n\r\n") (said 1 200) (field [] ∷ [])
unfolding is_token is_digit within among
space_behind r t =
    a_response
    (grammar.IsHeaderBlock.field grammar.IsBeforeFirstName.nothing (grammar.IsFieldLine.line (a_token "A" refl) (grammar.IsBehindName.blanks t a_space) grammar.IsAroundValue.none (grammar.IsValueLines.one fields.IsFieldValue.none) grammar.IsAroundValue.none) crlf (before_end r) no_fields)

pub spaces_after_name_real : RealUnignored (λ r. r.spaces_after_name) (Response (ascii "HTTP/1.0 200 \r\nA :\r\n\r\n"))
spaces_after_name_real = (
  λ r t. (said 1 200, field [] ∷ [], space_behind r t),
  λ r f off d. clash (no_space_behind f (at_letter (ascii " :\r\n\r\n") (block_of (ascii "A :\r\n\r\n") d.2) refl) refl).0 off,
)

-- and where it is passed over it gives no field
pub spaces_after_name_given : Real (λ r. r.spaces_after_name) (λ r. IsResponseHead r (ascii "HTTP/1.0 200 \r\nA :\r\n\r\n") (said 1 200) (field [] ∷ []))
spaces_after_name_given = (space_behind, λ r f d. let q = (no_space_behind f (at_letter (ascii " :\r\n\r\n") (block_of (ascii "A :\r\n\r\n") d) refl) refl).1 in never cc)

-- multiline_headers: a value and what is around it in one line are text, and so end before a line's end
around_text : {r : Rules} {o v t : List ℕ} → r.multiline_headers ≡ false → IsAroundValue r o → IsValueLines r v → IsAroundValue r t → Many IsText (o ++ v ++ t)
around_text f o v t = many_append (many_append (many_as (λ b. bytes.IsText.white) (blanks_around f o)) (value_text (one_line f v))) (many_as (λ b. bytes.IsText.white) (blanks_around f t))

no_text : {w : List ℕ} → Many IsText w → (zs ys : List ℕ) → w ++ zs ≡ 13 ∷ ys → w ≡ []
no_text none zs ys e = refl
no_text (more h k) zs ys e = absurd (no_cr_text h e)

none_between : (o v t : List ℕ) → o ++ v ++ t ≡ [] → v ≡ []
none_between [] [] t e = refl
none_between [] (b ∷ v) t e = never cc
none_between (b ∷ o) v t e = never cc

no_fold_ignored : {r : Rules} {w : List ℕ} → r.multiline_headers ≡ false → BehindColon r w → (zs ys : List ℕ) → w ++ zs ≡ 13 ∷ ys → ⊥
no_fold_ignored f (lines.spoilt grammar.IsWithinValue.none x i k d) zs ys e = i.no_cr (same_head e)
no_fold_ignored f (lines.spoilt (grammar.IsWithinValue.more h m) x i k d) zs ys e = no_cr_text h e
no_fold_ignored f (lines.spoilt (grammar.IsWithinValue.folded (grammar.fold t j h) m) x i k d) zs ys e = clash t f

-- without it a line that begins with a space is passed over or refused, and gives no value
no_folded : {r : Rules} {first : Bool} {b : List ℕ} {fs : List Field} (ys : List ℕ) → r.multiline_headers ≡ false → Bare r first b fs → b ≡ ascii "A:\r\n " ++ ys → (r.ignore_invalid_headers ≡ true) × ((f : Field) (gs : List Field) → fs ≡ f ∷ gs → f.value ≡ [])
no_folded ys f (lines.end crlf) e = absurd (eqb-false 13 65 refl (same_head e))
no_folded ys f (lines.end (lf t)) e = absurd (eqb-false 10 65 refl (same_head e))
no_folded ys f (lines.field {e = c} {b = b} (grammar.IsFieldLine.line {o = o} {v = v} {t = t} (some {b = a} h none) grammar.IsBehindName.nothing i j l) k y x) e =
    let q : o ++ v ++ t ++ c ++ b ≡ 13 ∷ 10 ∷ 32 ∷ ys = same_tail (same_tail e) in
    let p : (o ++ v ++ t) ++ (c ++ b) ≡ 13 ∷ 10 ∷ 32 ∷ ys = sym (append_assoc (o ++ v ++ t) c b) ∙ q in
    let empty : o ++ v ++ t ≡ [] = no_text (around_text f i j l) (c ++ b) (10 ∷ 32 ∷ ys) p in
    let begins : b ≡ 32 ∷ ys = behind_end k b (32 ∷ ys) (ap (λ y. y ++ (c ++ b)) (sym empty) ∙ p) in
    (on_if (λ off. no_blank_block off x 32 ys begins (bytes.IsBlank.space refl)), λ g gs s. let same : record { name = a ∷ []; value = v } ≡ g = cc in ap (λ (y : Field). y.value) (sym same) ∙ none_between o v t empty)
no_folded ys f (lines.field (grammar.IsFieldLine.line (some h none) (grammar.IsBehindName.blanks y (some {b = b} s m)) i j l) k o x) e = absurd (differs is_blank colon_no_blank ((blank_is_blank b).1 s) (same_head (same_tail e)))
no_folded ys f (lines.field (grammar.IsFieldLine.line (some h (more {b = b} y m)) s i j l) k o x) e = absurd (differs is_token colon_no_token ((token_is_tchar b).1 y) (same_head (same_tail e)))
no_folded ys f (lines.ignored {b = b} t l o k) e = let B = behind_letter l 58 colon_no_token b (ascii "\r\n " ++ ys) e in let C = behind_colon B.1 b (ascii "\r\n " ++ ys) B.2 in absurd (no_fold_ignored f C.1 b (ascii "\n " ++ ys) C.2)

-- a fold, and a value behind it or none
folded : (r : Rules) {v : List ℕ} → r.multiline_headers ≡ true → IsFieldValue v → IsResponseHead r (ascii "HTTP/1.0 200 \r\nA:\r\n " ++ v ++ [] ++ ascii "\r\n" ++ ascii "\r\n") (said 1 200) (field v ∷ [])
unfolding is_token is_digit within among
folded r t k =
    a_response
    (grammar.IsHeaderBlock.field grammar.IsBeforeFirstName.nothing (grammar.IsFieldLine.line (a_token "A" refl) grammar.IsBehindName.nothing (grammar.IsAroundValue.folded (grammar.fold t crlf (bytes.IsBlank.space refl)) grammar.IsAroundValue.none) (grammar.IsValueLines.one k) grammar.IsAroundValue.none) crlf (before_end r) no_fields)

pub multiline_headers_real : RealUnignored (λ r. r.multiline_headers) (Response (ascii "HTTP/1.0 200 \r\nA:\r\n \r\n\r\n"))
multiline_headers_real = (
  λ r t. (said 1 200, field [] ∷ [], folded r t fields.IsFieldValue.none),
  λ r f off d. clash (no_folded (ascii "\r\n\r\n") f (at_letter (ascii ":\r\n \r\n\r\n") (block_of (ascii "A:\r\n \r\n\r\n") d.2) refl) refl).0 off,
)

-- and where it is passed over the value is not given
pub multiline_headers_given : Real (λ r. r.multiline_headers) (λ r. IsResponseHead r (ascii "HTTP/1.0 200 \r\nA:\r\n b\r\n\r\n") (said 1 200) (field (ascii "b") ∷ []))
unfolding is_target within
multiline_headers_given = (
  λ r t. folded r t (a_value "b" refl),
  λ r f d. let q = (no_folded (ascii "b\r\n\r\n") f (at_letter (ascii ":\r\n b\r\n\r\n") (block_of (ascii "A:\r\n b\r\n\r\n") d) refl) refl).1 (field (ascii "b")) [] refl in never cc,
)
