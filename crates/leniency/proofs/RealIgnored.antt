-- The rule that passes over lines makes a difference: two byte strings of its entry in docs/DIFFERENCES.md, a request and a response, are heads with it and not without it.
-- Assumes nothing.
use Rattle.std.specs.Prelude.{ℕ, ◌≤◌, ◌≡◌, refl, List, [], ◌∷◌, ◌++◌, Bool, true, false, eqb}
use Rattle.std.proofs.Common.{arith, sym, ap, ◌∙◌, append_assoc}
use Rattle.std.proofs.lemmas.Bool.{eqb-false}
use Rattle.reader.specs.Tests.{clash}
use Rattle.octets.specs.Class.{among, within, is_digit, is_blank, is_token}
use Rattle.octets.proofs.Ties.{blank_is_blank, token_is_tchar}
use Rattle.octets.specs.Outside.{differs, space_no_token, colon_no_token, colon_no_blank}
use Rattle.rules.specs.Rules.{Rules}
use Rattle.grammar.specs.Rows.{none, more, Some, some}
use Rattle.grammar.specs.Fields.{Field}
use Rattle.grammar.specs.Message.{IsLineEnd, crlf, lf, IsDelimiter, one_zero, IsRequestTarget, RequestLine, IsRequestLine, IsHeaderBlock, IsRequestHead}
use Rattle.grammar.specs.Message as grammar
use Rattle.agreement.specs.Rows.{some_as}
use Rattle.agreement.specs.Value.{vchar_above}
use Rattle.leniency.specs.Text.{ascii}
use Rattle.leniency.specs.Builders.{a_token, a_target}
use Rattle.leniency.specs.Real.{Real, Request, Response}
use Rattle.leniency.specs.Shapes.{same_head, same_tail, eight}
use Rattle.leniency.specs.Lines.{Bare, bare, above_ignorable, behind_end}
use Rattle.leniency.specs.Lines as lines
use Rattle.leniency.specs.RealHeads.{no_fields, said, begins_space, asked}
use Rattle.leniency.proofs.RealSpaces.{block_of, a_response}
use Rattle.leniency.specs.RealIgnored.{asks}

-- what is behind the line of a request with the method A, the target * and the version 1.0
target_above : {r : Rules} {t : List ℕ} → IsRequestTarget r t → Some (λ b. 0x21 ≤ b) t
target_above (grammar.IsRequestTarget.visible k) = some_as (λ b h. h.low) k
target_above (grammar.IsRequestTarget.any t k u) = some_as (λ b. vchar_above) k

behind_target : {t : List ℕ} → Some (λ b. 0x21 ≤ b) t → (b : ℕ) (zs ys : List ℕ) → t ++ zs ≡ b ∷ 32 ∷ ys → zs ≡ 32 ∷ ys
behind_target (some h none) b zs ys e = same_tail e
behind_target (some h (more i k)) b zs ys e = absurd (omega (arith, i, same_head (same_tail e)))

behind_space : {several : Bool} {d : List ℕ} → IsDelimiter several d → (b : ℕ) → eqb b 32 ≡ false → (zs ys : List ℕ) → d ++ zs ≡ 32 ∷ b ∷ ys → zs ≡ b ∷ ys
behind_space grammar.IsDelimiter.one b f zs ys e = same_tail e
behind_space (grammar.IsDelimiter.more t k) b f zs ys e = absurd (eqb-false b 32 f (begins_space k zs b ys (same_tail e)))

behind_line : {r : Rules} {v : List ℕ} {l : RequestLine} → IsRequestLine r v l → (zs ys : List ℕ) → v ++ zs ≡ ascii "A * HTTP/1.0" ++ ys → zs ≡ ys
behind_line (grammar.IsRequestLine.line {d = d} {t = t} {e = e} {v = v} (some h none) i k j n) zs ys q =
    let p : d ++ t ++ e ++ v ++ zs ≡ ascii " * HTTP/1.0" ++ ys = same_tail q in
    let behind_method = behind_space i 42 refl (t ++ (e ++ (v ++ zs))) (ascii " HTTP/1.0" ++ ys) (simp append_assoc at p) in
    let behind_both = behind_space j 72 refl (v ++ zs) (ascii "TTP/1.0" ++ ys) (behind_target (target_above k) 42 (e ++ (v ++ zs)) (ascii "HTTP/1.0" ++ ys) behind_method) in
    same_tail (same_tail (same_tail (same_tail (same_tail (same_tail (same_tail (same_tail (ap (λ y. y ++ zs) (sym (eight n).whole) ∙ behind_both))))))))
behind_line (grammar.IsRequestLine.line (some h (more {b = b} x l)) i k j n) zs ys q = absurd (differs is_token space_no_token ((token_is_tchar b).1 x) (same_head (same_tail q)))

pub asked_block : {r : Rules} {l : RequestLine} {fs : List Field} (ys : List ℕ) → IsRequestHead r (ascii "A * HTTP/1.0" ++ ys) l fs → (c b : List ℕ) × IsLineEnd r c × IsHeaderBlock r true b fs × (c ++ b ≡ ys)
asked_block ys d =
    let A = asked (ascii " * HTTP/1.0" ++ ys) d refl in
    (A.c, A.b, A.ends, A.block, behind_line A.line (A.c ++ A.b) ys A.whole)

pub a_request : {r : Rules} {c b : List ℕ} {fs : List Field} → IsLineEnd r c → IsHeaderBlock r true b fs → IsRequestHead r (ascii "A * HTTP/1.0" ++ c ++ b) asks fs
unfolding is_token is_digit within among
a_request c b = grammar.head.message grammar.IsEmptyLines.none (grammar.IsRequestLine.line (a_token "A" refl) grammar.IsDelimiter.one (a_target "*" refl) grammar.IsDelimiter.one one_zero) c b

-- a line of a colon alone is passed over, and else no block begins so
a_colon : (r : Rules) → r.ignore_invalid_headers ≡ true → IsHeaderBlock r true (ascii ":\r\n\r\n") []
a_colon r t =
    grammar.IsHeaderBlock.ignored t grammar.IsBeforeFirstName.nothing (grammar.IsIgnoredLine.no_name (λ h. differs is_token colon_no_token ((token_is_tchar 0x3A).1 h) refl) (above_ignorable 0x3A (omega arith)) none crlf)
    (λ on first c u e h. differs is_blank colon_no_blank ((blank_is_blank c).1 h) (sym (same_head e))) no_fields

no_colon_first : {r : Rules} {first : Bool} {b : List ℕ} {fs : List Field} (ys : List ℕ) → r.ignore_invalid_headers ≡ false → Bare r first b fs → b ≡ 58 ∷ ys → ⊥
no_colon_first ys f (lines.end crlf) e = eqb-false 13 58 refl (same_head e)
no_colon_first ys f (lines.end (lf t)) e = eqb-false 10 58 refl (same_head e)
no_colon_first ys f (lines.field (grammar.IsFieldLine.line (some {b = b} h k) s o v t) d i x) e = differs is_token colon_no_token ((token_is_tchar b).1 h) (same_head e)
no_colon_first ys f (lines.ignored t l o x) e = clash t f

no_colon_block : {r : Rules} {b : List ℕ} {fs : List Field} (ys : List ℕ) → r.ignore_invalid_headers ≡ false → IsHeaderBlock r true b fs → b ≡ 58 ∷ ys → ⊥
no_colon_block ys f k e = no_colon_first ys f (bare k 58 ys e (λ t h. differs is_blank colon_no_blank ((blank_is_blank 58).1 h) refl)) e

pub ignore_invalid_headers_real : Real (λ r. r.ignore_invalid_headers) (Request (ascii "A * HTTP/1.0\r\n:\r\n\r\n"))
ignore_invalid_headers_real = (
  λ r t. (asks, [], a_request crlf (a_colon r t)),
  λ r f d. let S = asked_block (ascii "\r\n:\r\n\r\n") d.2 in no_colon_block (ascii "\r\n\r\n") f S.3 (behind_end S.2 S.1 (ascii ":\r\n\r\n") S.4),
)

-- and of a response
pub ignore_invalid_headers_real_response : Real (λ r. r.ignore_invalid_headers) (Response (ascii "HTTP/1.0 200 \r\n:\r\n\r\n"))
ignore_invalid_headers_real_response = (λ r t. (said 1 200, [], a_response (a_colon r t)), λ r f d. no_colon_block (ascii "\r\n\r\n") f (block_of (ascii ":\r\n\r\n") d.2) refl)
