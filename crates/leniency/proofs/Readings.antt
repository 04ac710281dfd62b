-- Two heads that say something else with a setting than without it, or what none says without it, and one that then ends elsewhere.
-- Assumes nothing.
use Rattle.std.specs.Prelude.{ℕ, ◌≡◌, refl, List, [], ◌∷◌, ◌++◌, true, false}
use Rattle.std.proofs.Common.{arith, sym}
use Rattle.std.proofs.lemmas.Bool.{false≢true, eqb-false}
use Rattle.reader.specs.Tests.{never}
use Rattle.octets.specs.Class.{among, within, is_digit, is_blank, is_token}
use Rattle.octets.specs.Grammar as bytes
use Rattle.octets.proofs.Ties.{in_range, blank_is_blank, token_is_tchar}
use Rattle.octets.specs.Outside.{differs, space_no_token, lf_no_blank}
use Rattle.rules.specs.declared.Settings.{Settings}
use Rattle.rules.specs.Rules.{Rules}
use Rattle.rules.specs.Settings.{request_rules, response_rules, off}
use Rattle.grammar.specs.Rows.{Many, none, more, some}
use Rattle.grammar.specs.Fields.{Field}
use Rattle.grammar.specs.Message.{IsLineEnd, crlf, lf, fold, one_zero, RequestLine, StatusLine, head, IsRequestHead, IsResponseHead}
use Rattle.grammar.specs.Message as grammar
use Rattle.plain.specs.Plain.{OneLine}
use Rattle.plain.proofs.OneLineHead.{head_off}
use Rattle.leniency.specs.Text.{ascii}
use Rattle.leniency.specs.Builders.{a_token, a_code}
use Rattle.leniency.proofs.Said.{no_space_first}
use Rattle.leniency.specs.Shapes.{same_head, same_tail}
use Rattle.leniency.specs.Lines.{above_ignorable, only_end, behind_a_space}
use Rattle.leniency.specs.RealIgnored.{asks}
use Rattle.leniency.proofs.RealIgnored.{asked_block, a_request}
use Rattle.leniency.specs.Readings.{folded, passes_over, spaced, spaced_line}

abbrev several_spaces : Settings
several_spaces = record {
  ascii_targets = false;
  spaces_in_request_line = false;
  spaces_in_status_line = true;
  space_before_first_name = false;
  spaces_after_name = false;
  multiline_headers = false;
  ignore_invalid_headers_in_requests = false;
  ignore_invalid_headers_in_responses = false;
}

abbrev several_lines : Settings
several_lines = record {
  ascii_targets = false;
  spaces_in_request_line = false;
  spaces_in_status_line = false;
  space_before_first_name = false;
  spaces_after_name = false;
  multiline_headers = true;
  ignore_invalid_headers_in_requests = false;
  ignore_invalid_headers_in_responses = false;
}

abbrev answers : List ℕ → StatusLine
answers reason = record { version = record { major = 1; minor = 0 }; code = 200; reason = reason }

pub with_its_space : IsResponseHead (response_rules off) spaced (answers (ascii " A")) []
unfolding within
with_its_space =
    grammar.head.message grammar.IsEmptyLines.none
    (grammar.IsStatusLine.reason one_zero grammar.IsDelimiter.one (a_code 2 0 0 refl) grammar.IsDelimiter.one (grammar.IsReasonPhrase.ascii (some (grammar.IsAsciiText.white (bytes.IsBlank.space refl)) (more (grammar.IsAsciiText.visible (in_range 0x21 0x7E 0x41 refl)) none))) (λ t. absurd (false≢true t)))
    crlf (grammar.IsHeaderBlock.end grammar.IsBeforeFirstName.nothing crlf)

pub without_its_space : IsResponseHead (response_rules several_spaces) spaced (answers (ascii "A")) []
unfolding within
without_its_space =
    grammar.head.message grammar.IsEmptyLines.none
    (grammar.IsStatusLine.reason one_zero grammar.IsDelimiter.one (a_code 2 0 0 refl) (grammar.IsDelimiter.more refl grammar.IsDelimiter.one) (grammar.IsReasonPhrase.ascii (some (grammar.IsAsciiText.visible (in_range 0x21 0x7E 0x41 refl)) none)) (λ t u e. let same : ◌≡◌ {A = ℕ} 0x41 0x20 = same_head e in omega (arith, same)))
    crlf (grammar.IsHeaderBlock.end grammar.IsBeforeFirstName.nothing crlf)

pub its_space_lost : (w : List ℕ) (fs : List Field) → IsResponseHead (response_rules several_spaces) w (answers (ascii " A")) fs → ⊥
its_space_lost w fs h = no_space_first refl h (ascii "A") refl

pub with_its_fold : IsResponseHead (response_rules several_lines) (ascii "HTTP/1.0 200\nA:b\n c\n\n") (answers []) (folded ∷ [])
unfolding is_token is_digit within among
with_its_fold =
    grammar.head.message grammar.IsEmptyLines.none (grammar.IsStatusLine.code_ends refl one_zero grammar.IsDelimiter.one (a_code 2 0 0 refl)) (lf refl)
    (grammar.IsHeaderBlock.field grammar.IsBeforeFirstName.nothing
    (grammar.IsFieldLine.line (a_token "A" refl) grammar.IsBehindName.nothing grammar.IsAroundValue.none
    (grammar.IsValueLines.several refl (bytes.visible (in_range 0x21 0x7E 0x62 refl)) (grammar.IsWithinValue.folded (fold refl (lf refl) (bytes.IsBlank.space refl)) grammar.IsWithinValue.none) (bytes.visible (in_range 0x21 0x7E 0x63 refl)))
    grammar.IsAroundValue.none) (lf refl) (λ t c u e h. differs is_blank lf_no_blank ((blank_is_blank c).1 h) (sym (same_head e))) (grammar.IsHeaderBlock.end grammar.IsBeforeFirstName.nothing (lf refl)))

-- so it has no plain form
pub folded_apart : (fs : List Field) → OneLine (folded ∷ fs) → ⊥
folded_apart fs o = broken o.0
  where
    broken : Many (λ b. b ≡ 0x0A → ⊥) folded.value → ⊥
    broken (more x (more y k)) = y refl

-- and without the setting no head has such a field first, whatever the other rules are
pub no_fold_without : {r : Rules} {L : Type 0} {A : List ℕ → L → Type 0} {w : List ℕ} {l : L} {fs : List Field} → r.multiline_headers ≡ false → head r A w l (folded ∷ fs) → ⊥
no_fold_without {fs = fs} off h = folded_apart fs (head_off off h)

pub ends_with_it : IsRequestHead (request_rules (passes_over true)) spaced_line asks []
ends_with_it = a_request (lf refl) (grammar.IsHeaderBlock.end (grammar.IsBeforeFirstName.blanks refl (some (bytes.IsBlank.space refl) none)) (lf refl))

pub ends_behind_it : IsRequestHead (request_rules (passes_over false)) (spaced_line ++ ascii "\n") asks []
ends_behind_it =
    a_request (lf refl)
    (grammar.IsHeaderBlock.ignored refl grammar.IsBeforeFirstName.nothing (grammar.IsIgnoredLine.no_name (λ h. differs is_token space_no_token ((token_is_tchar 0x20).1 h) refl) (above_ignorable 0x20 (omega arith)) none (lf refl)) (λ t. absurd (false≢true t))
    (grammar.IsHeaderBlock.end grammar.IsBeforeFirstName.nothing (lf refl)))

-- so where lines are passed over a setting more takes a head away
pub its_end_moved : (l : RequestLine) (fs : List Field) → IsRequestHead (request_rules (passes_over true)) (spaced_line ++ ascii "\n") l fs → ⊥
its_end_moved l fs d =
    let S = asked_block (ascii "\n \n\n") d in
    let B = behind_a_space 10 (ascii "\n") refl (λ h. differs is_blank lf_no_blank ((blank_is_blank 10).1 h) refl) S.3 (behind_lf S.2 S.1 (ascii " \n\n") S.4) in
    one_lf (only_end B.1 10 (ascii "\n") B.2 (λ i. i.no_lf refl)).0 B.2
  where
    behind_lf : {r : Rules} {c : List ℕ} → IsLineEnd r c → (zs ys : List ℕ) → c ++ zs ≡ 10 ∷ ys → zs ≡ ys
    behind_lf crlf zs ys e = absurd (eqb-false 13 10 refl (same_head e))
    behind_lf (lf t) zs ys e = same_tail e

    one_lf : {r : Rules} {c : List ℕ} → IsLineEnd r c → c ≡ ascii "\n\n" → ⊥
    one_lf crlf e = eqb-false 13 10 refl (same_head e)
    one_lf (lf t) e = never cc
