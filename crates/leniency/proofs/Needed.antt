-- What is asked of lines that are passed over, that nothing else is made of them, is needed: without it a block is lost or says something else.
-- Assumes nothing.
use Rattle.std.specs.Prelude.{ℕ, ◌≡◌, refl, ◌↔◌, List, [], ◌∷◌, ◌++◌, true, false}
use Rattle.std.proofs.Common.{arith, sym, ap, subst, ◌∙◌, append_assoc}
use Rattle.std.proofs.lemmas.Bool.{false≢true, eqb-false}
use Rattle.reader.specs.Tests.{clash, never}
use Rattle.octets.specs.Grammar.{IsText}
use Rattle.octets.specs.Grammar as bytes
use Rattle.octets.specs.Class.{among, within, is_digit, is_blank, is_token}
use Rattle.octets.proofs.Ties.{in_range, blank_is_blank, token_is_tchar}
use Rattle.octets.specs.Outside.{differs, space_no_token, colon_no_token, cr_no_blank, colon_no_blank}
use Rattle.rules.specs.Rules.{Rules}
use Rattle.grammar.specs.Rows.{Many, none, more, some}
use Rattle.grammar.specs.Fields as fields
use Rattle.grammar.specs.Fields.{Field}
use Rattle.grammar.specs.Message.{IsLineEnd, crlf, lf, IsObsFold, fold, IsAroundValue, IsIgnorable, IsIgnoredLine, NoFoldLeft, IsHeaderBlock}
use Rattle.grammar.specs.Message as grammar
use Rattle.agreement.specs.Around.{around_append}
use Rattle.leniency.specs.Text.{ascii}
use Rattle.leniency.specs.Allows.{LinesAllowed, KeptIgnored}
use Rattle.leniency.proofs.Allows.{block_as}
use Rattle.leniency.specs.Builders.{a_token}
use Rattle.leniency.specs.Shapes.{same_head, same_tail}
use Rattle.leniency.specs.Lines.{on_if, Bare, above_ignorable, behind_end, only_end, behind_a_space, A_no_blank, at_letter, BehindLetter, behind_letter, BehindColon, behind_colon}
use Rattle.leniency.specs.Lines as lines
use Rattle.leniency.specs.RealHeads.{no_fields, no_end}
use Rattle.leniency.proofs.RealSpaces.{no_cr_text}

a_blank_line : {r : Rules} {u : List ℕ} → Many IsIgnorable u → IsIgnoredLine r ((0x20 ∷ u) ++ ascii "\r\n")
a_blank_line k = grammar.IsIgnoredLine.no_name (λ h. differs is_token space_no_token ((token_is_tchar 0x20).1 h) refl) (above_ignorable 0x20 (omega arith)) k crlf

-- a line of a space is passed over, or ends a block
spaced : {r : Rules} → r.ignore_invalid_headers ≡ true → r.space_before_first_name ≡ false → IsHeaderBlock r true (ascii " \r\n\r\n") []
spaced t off = grammar.IsHeaderBlock.ignored t grammar.IsBeforeFirstName.nothing (a_blank_line none) (λ on. absurd (clash on off)) no_fields

not_spaced : {r : Rules} {fs : List Field} → r.space_before_first_name ≡ true → IsHeaderBlock r true (ascii " \r\n\r\n") fs → ⊥
not_spaced on k =
    let B = behind_a_space 13 (ascii "\n\r\n") on (λ h. differs is_blank cr_no_blank ((blank_is_blank 13).1 h) refl) k refl in
    two_ends (only_end B.1 13 (ascii "\n\r\n") B.2 (λ i. i.no_cr refl)).0 B.2
  where
    two_ends : {r : Rules} {w : List ℕ} → IsLineEnd r w → w ≡ ascii "\r\n\r\n" → ⊥
    two_ends crlf e = never cc
    two_ends (lf t) e = eqb-false 10 13 refl (same_head e)

-- a line with a space behind its name is passed over, or a field
named : {r : Rules} → r.ignore_invalid_headers ≡ true → r.spaces_after_name ≡ false → IsHeaderBlock r true (ascii "A :\r\n\r\n") []
unfolding is_token is_digit within among
named t off =
    grammar.IsHeaderBlock.ignored t grammar.IsBeforeFirstName.nothing
    (grammar.IsIgnoredLine.no_colon (a_token "A" refl) grammar.IsBehindName.nothing
    (λ c v e. (λ q. eqb-false 0x20 0x3A refl (same_head e ∙ q), λ n h. differs is_token space_no_token ((token_is_tchar c).1 h) (sym (same_head e)), λ on. absurd (clash on off)))
    (more (above_ignorable 0x20 (omega arith)) (more (above_ignorable 0x3A (omega arith)) none)) crlf)
    (λ on first c u e h. differs is_blank A_no_blank ((blank_is_blank c).1 h) (sym (same_head e))) no_fields

-- no fold is in an empty line, and none begins with a letter
no_empty_fold : {r : Rules} {f : List ℕ} → IsObsFold r f → (zs ys : List ℕ) → f ++ zs ≡ 13 ∷ 10 ∷ 13 ∷ ys → ⊥
no_empty_fold (fold {b = b} t crlf h) zs ys e = differs is_blank cr_no_blank ((blank_is_blank b).1 h) (same_head (same_tail (same_tail e)))
no_empty_fold (fold t (lf i) h) zs ys e = eqb-false 10 13 refl (same_head e)

no_letter_fold : {r : Rules} {f : List ℕ} → IsObsFold r f → (zs ys : List ℕ) → f ++ zs ≡ 98 ∷ ys → ⊥
no_letter_fold (fold t crlf h) zs ys e = eqb-false 13 98 refl (same_head e)
no_letter_fold (fold t (lf i) h) zs ys e = eqb-false 10 98 refl (same_head e)

-- what can't stand in a value is not behind a colon and before an empty line
nothing_spoilt : {r : Rules} {w : List ℕ} → BehindColon r w → (zs ys : List ℕ) → w ++ zs ≡ 13 ∷ 10 ∷ 13 ∷ ys → ⊥
nothing_spoilt (lines.spoilt grammar.IsWithinValue.none x i k d) zs ys e = i.no_cr (same_head e)
nothing_spoilt (lines.spoilt (grammar.IsWithinValue.more h m) x i k d) zs ys e = no_cr_text h e
nothing_spoilt (lines.spoilt {u = u} {e = a} {c = c} (grammar.IsWithinValue.folded {f = f} {w = w} j m) x i k d) zs ys e =
    let p : f ++ w ++ ((c ∷ u) ++ a) ++ zs ≡ 13 ∷ 10 ∷ 13 ∷ ys = e in
    no_empty_fold j (w ++ (c ∷ (u ++ (a ++ zs)))) ys (simp append_assoc at p)

named_ignored : {r : Rules} {v : List ℕ} → r.spaces_after_name ≡ true → BehindLetter r v → (zs : List ℕ) → v ++ zs ≡ ascii " :\r\n\r\n" → ⊥
named_ignored on (lines.no_colon grammar.IsBehindName.nothing x none d) zs e = no_end 32 refl refl d zs (ascii ":\r\n\r\n") e
named_ignored on (lines.no_colon grammar.IsBehindName.nothing x (more {b = b} {w = w} i k) d) zs e = (x b w refl).2 on (bytes.IsBlank.space (same_head e))
named_ignored on (lines.no_colon (grammar.IsBehindName.blanks y (some s none)) x none d) zs e = no_end 58 refl refl d zs (ascii "\r\n\r\n") (same_tail e)
named_ignored on (lines.no_colon (grammar.IsBehindName.blanks y (some s none)) x (more {b = b} {w = w} i k) d) zs e = (x b w refl).0 (same_head (same_tail e))
named_ignored on (lines.no_colon (grammar.IsBehindName.blanks y (some s (more {b = b} h j))) x k d) zs e = differs is_blank colon_no_blank ((blank_is_blank b).1 h) (same_head (same_tail e))
named_ignored on (lines.no_value grammar.IsBehindName.nothing m x i k d) zs e = eqb-false 58 32 refl (same_head e)
named_ignored on (lines.no_value (grammar.IsBehindName.blanks y (some s none)) m x i k d) zs e = nothing_spoilt (lines.spoilt m x i k d) zs (ascii "\n") (same_tail (same_tail e))
named_ignored on (lines.no_value (grammar.IsBehindName.blanks y (some s (more {b = b} h j))) m x i k d) zs e = differs is_blank colon_no_blank ((blank_is_blank b).1 h) (same_head (same_tail e))

not_named : {r : Rules} {w : List ℕ} {fs : List Field} → r.spaces_after_name ≡ true → Bare r true w fs → w ≡ ascii "A :\r\n\r\n" → fs ≡ [] → ⊥
not_named on (lines.end crlf) e q = eqb-false 13 65 refl (same_head e)
not_named on (lines.end (lf t)) e q = eqb-false 10 65 refl (same_head e)
not_named on (lines.field f d i k) e q = never cc
not_named on (lines.ignored {b = b} t l o k) e q = let B = behind_letter l 32 space_no_token b (ascii ":\r\n\r\n") e in named_ignored on B.1 b B.2

-- a line that begins with a space is passed over, or goes on with the value before it
abbrev field : Field
field = record { name = ascii "A"; value = [] }

folded : {r : Rules} → r.ignore_invalid_headers ≡ true → r.multiline_headers ≡ false → IsHeaderBlock r true (ascii "A:\r\n b\r\n\r\n") (field ∷ [])
unfolding is_token is_digit within among
folded t off =
    grammar.IsHeaderBlock.field grammar.IsBeforeFirstName.nothing (grammar.IsFieldLine.line (a_token "A" refl) grammar.IsBehindName.nothing grammar.IsAroundValue.none (grammar.IsValueLines.one fields.IsFieldValue.none) grammar.IsAroundValue.none) crlf (λ on. absurd (clash on off))
    (grammar.IsHeaderBlock.ignored t grammar.IsBeforeFirstName.nothing (a_blank_line (more (above_ignorable 0x62 (omega arith)) none)) (λ on first. absurd (false≢true first)) no_fields)

letter_text : IsText 98
unfolding within
letter_text = bytes.IsText.field (bytes.visible (in_range 0x21 0x7E 98 refl))

letter_no_blank : is_blank 98 ≡ false
unfolding is_blank among
letter_no_blank = refl

-- behind a fold the letter is of the value, which so is not empty
no_letter_around : {r : Rules} {w c : List ℕ} → IsAroundValue r w → IsLineEnd r c → (zs ys : List ℕ) → w ++ (c ++ zs) ≡ 98 ∷ ys → ⊥
no_letter_around grammar.IsAroundValue.none d zs ys e = no_end 98 refl refl d zs ys e
no_letter_around (grammar.IsAroundValue.more {b = b} h k) d zs ys e = differs is_blank letter_no_blank ((blank_is_blank b).1 h) (same_head e)
no_letter_around {c = c} (grammar.IsAroundValue.folded {f = f} {w = w} j k) d zs ys e = no_letter_fold j (w ++ (c ++ zs)) ys (sym (append_assoc f w (c ++ zs)) ∙ e)

no_fold_around : {r : Rules} {w c : List ℕ} → r.multiline_headers ≡ true → IsAroundValue r w → IsLineEnd r c → (zs ys : List ℕ) → NoFoldLeft r zs → w ++ (c ++ zs) ≡ 13 ∷ 10 ∷ 32 ∷ 98 ∷ ys → ⊥
no_fold_around on grammar.IsAroundValue.none d zs ys left e = left on 32 (98 ∷ ys) (behind_end d zs (32 ∷ 98 ∷ ys) e) (bytes.IsBlank.space refl)
no_fold_around on (grammar.IsAroundValue.more {b = b} h k) d zs ys left e = differs is_blank cr_no_blank ((blank_is_blank b).1 h) (same_head e)
no_fold_around on (grammar.IsAroundValue.folded (fold t crlf h) k) d zs ys left e = no_letter_around k d zs ys (same_tail (same_tail (same_tail e)))
no_fold_around on (grammar.IsAroundValue.folded (fold t (lf i) h) k) d zs ys left e = eqb-false 10 13 refl (same_head e)

-- and no byte of the two lines is one that can't stand in a value
folded_ignored : {r : Rules} {w : List ℕ} → BehindColon r w → (zs : List ℕ) → w ++ zs ≡ ascii "\r\n b\r\n\r\n" → ⊥
folded_ignored (lines.spoilt grammar.IsWithinValue.none x i k d) zs e = i.no_cr (same_head e)
folded_ignored (lines.spoilt (grammar.IsWithinValue.more h m) x i k d) zs e = no_cr_text h e
folded_ignored (lines.spoilt (grammar.IsWithinValue.folded (fold t crlf h) grammar.IsWithinValue.none) x i k d) zs e = x (subst IsText (sym (same_head (same_tail (same_tail (same_tail e))))) letter_text)
folded_ignored (lines.spoilt (grammar.IsWithinValue.folded (fold t crlf h) (grammar.IsWithinValue.more j m)) x i k d) zs e = nothing_spoilt (lines.spoilt m x i k d) zs (ascii "\n") (same_tail (same_tail (same_tail (same_tail e))))
folded_ignored (lines.spoilt {u = u} {e = a} {c = c} (grammar.IsWithinValue.folded (fold t crlf h) (grammar.IsWithinValue.folded {f = f} {w = w} j m)) x i k d) zs e =
    let p : f ++ w ++ ((c ∷ u) ++ a) ++ zs ≡ ascii "b\r\n\r\n" = same_tail (same_tail (same_tail e)) in
    no_letter_fold j (w ++ (c ∷ (u ++ (a ++ zs)))) (ascii "\r\n\r\n") (simp append_assoc at p)
folded_ignored (lines.spoilt (grammar.IsWithinValue.folded (fold t (lf y) h) m) x i k d) zs e = eqb-false 10 13 refl (same_head e)

not_folded : {r : Rules} {b : List ℕ} {fs : List Field} → r.multiline_headers ≡ true → Bare r true b fs → b ≡ ascii "A:\r\n b\r\n\r\n" → fs ≡ field ∷ [] → ⊥
not_folded on (lines.end crlf) e q = eqb-false 13 65 refl (same_head e)
not_folded on (lines.end (lf t)) e q = eqb-false 10 65 refl (same_head e)
not_folded on (lines.field {e = c} {b = b} (grammar.IsFieldLine.line {o = o} {v = v} {t = t} (some {b = a} h none) grammar.IsBehindName.nothing i j l) d y k) e q =
    let same : record { name = a ∷ []; value = v } ≡ field = cc in
    let v_none : v ≡ [] = ap (λ (x : Field). x.value) same in
    let p : o ++ v ++ t ++ c ++ b ≡ ascii "\r\n b\r\n\r\n" = same_tail (same_tail e) in
    let p₁ : o ++ (v ++ (t ++ (c ++ b))) ≡ ascii "\r\n b\r\n\r\n" = simp append_assoc at p in
    no_fold_around on (around_append i l) d b (ascii "\r\n\r\n") y (append_assoc o t (c ++ b) ∙ ap (λ x. o ++ (x ++ (t ++ (c ++ b)))) (sym v_none) ∙ p₁)
not_folded on (lines.field (grammar.IsFieldLine.line (some h none) (grammar.IsBehindName.blanks y (some {b = b} s m)) i j l) d o k) e q = differs is_blank colon_no_blank ((blank_is_blank b).1 s) (same_head (same_tail e))
not_folded on (lines.field (grammar.IsFieldLine.line (some h (more {b = b} y m)) s i j l) d o k) e q = differs is_token colon_no_token ((token_is_tchar b).1 y) (same_head (same_tail e))
not_folded on (lines.ignored {b = b} t l o k) e q = let B = behind_letter l 58 colon_no_token b (ascii "\r\n b\r\n\r\n") e in let C = behind_colon B.1 b (ascii "\r\n b\r\n\r\n") B.2 in folded_ignored C.1 b C.2

-- where s allows what r does, KeptIgnored asks just that each block by r is one by s, with the same fields
pub kept_exactly : {r s : Rules} → LinesAllowed r s → KeptIgnored r s ↔ ((w : List ℕ) (fs : List Field) → IsHeaderBlock r true w fs → IsHeaderBlock s true w fs)
kept_exactly allowed = (
  λ kept w fs k. block_as allowed kept k,
  λ onto t. record {
    space_before_first_name = λ on. on_if (λ off. not_spaced on (onto (ascii " \r\n\r\n") [] (spaced t off)));
    spaces_after_name = λ on. on_if (λ off. not_named on (at_letter (ascii " :\r\n\r\n") (onto (ascii "A :\r\n\r\n") [] (named t off)) refl) refl refl);
    multiline_headers = λ on. on_if (λ off. not_folded on (at_letter (ascii ":\r\n b\r\n\r\n") (onto (ascii "A:\r\n b\r\n\r\n") (field ∷ []) (folded t off)) refl) refl refl);
  },
)
