-- Plain ASCII targets are the default with one rule changed, in both directions (of the other settings Off, More and Said speak); and with all
-- settings off the readers and the definition are the default's.
-- Assumes nothing.
use Rattle.std.specs.Prelude.{ℕ, ◌≡◌, refl, ◌↔◌, List, Bool}
use Rattle.std.proofs.Common.{ap}
use Rattle.std.proofs.lemmas.Bool.{false≢true}
use Rattle.octets.specs.Grammar.{VCHAR}
use Rattle.rules.specs.declared.Settings.{Settings}
use Rattle.rules.specs.Rules.{default}
use Rattle.rules.specs.Settings.{request_rules, response_rules, off, off_request, off_response}
use Rattle.grammar.specs.Rows.{Some}
use Rattle.grammar.specs.Fields.{Field}
use Rattle.grammar.specs.Message.{RequestLine, IsRequestLine, StatusLine, IsRequestHead, IsResponseHead}
use Rattle.grammar.specs.Message as grammar
use Rattle.heads.specs.Calls.{request, response}
use Rattle.leniency.specs.Allows.{LinesAllowed, KeptIgnored}
use Rattle.leniency.proofs.Allows.{head_as}
use Rattle.leniency.proofs.More.{version_as}
use Rattle.plain.specs.Plain.{OneLine}
use Rattle.plain.proofs.OneLineHead.{head_off}
use Rattle.leniency.specs.Settings.{ascii_off, ascii_on}

module _ (q f i : Bool) where
  line_without : {w : List ℕ} {l : RequestLine} → IsRequestLine (ascii_on q f i) w l → IsRequestLine (ascii_off q f i) w l
  line_without (grammar.IsRequestLine.line m d (grammar.IsRequestTarget.visible k) e v) = grammar.IsRequestLine.line m d (grammar.IsRequestTarget.visible k) e (version_as (λ t. t) v)
  line_without (grammar.IsRequestLine.line m d (grammar.IsRequestTarget.any t k u) e v) = absurd (false≢true t)

  line_with : {w : List ℕ} {l : RequestLine} → Some VCHAR l.target → IsRequestLine (ascii_off q f i) w l → IsRequestLine (ascii_on q f i) w l
  line_with k (grammar.IsRequestLine.line m d t e v) = grammar.IsRequestLine.line m d (grammar.IsRequestTarget.visible k) e (version_as (λ t. t) v)

  visible_line : {w : List ℕ} {l : RequestLine} → IsRequestLine (ascii_on q f i) w l → Some VCHAR l.target
  visible_line (grammar.IsRequestLine.line m d (grammar.IsRequestTarget.visible k) e v) = k
  visible_line (grammar.IsRequestLine.line m d (grammar.IsRequestTarget.any t k u) e v) = absurd (false≢true t)

  visible_head : {w : List ℕ} {l : RequestLine} {fs : List Field} → IsRequestHead (ascii_on q f i) w l fs → Some VCHAR l.target
  visible_head (grammar.head.message e k c b) = visible_line k

  lines_without : LinesAllowed (ascii_on q f i) (ascii_off q f i)
  lines_without = record { lf_alone = λ t. t; empty_lines = λ t. t; space_before_first_name = λ t. t; spaces_after_name = λ t. t; multiline_headers = λ t. t; ignore_invalid_headers = λ t. t }

  lines_with : LinesAllowed (ascii_off q f i) (ascii_on q f i)
  lines_with = record { lf_alone = λ t. t; empty_lines = λ t. t; space_before_first_name = λ t. t; spaces_after_name = λ t. t; multiline_headers = λ t. t; ignore_invalid_headers = λ t. t }

  kept_without : KeptIgnored (ascii_on q f i) (ascii_off q f i)
  kept_without t = record { space_before_first_name = λ t. t; spaces_after_name = λ t. t; multiline_headers = λ t. t }

  kept_with : KeptIgnored (ascii_off q f i) (ascii_on q f i)
  kept_with t = record { space_before_first_name = λ t. t; spaces_after_name = λ t. t; multiline_headers = λ t. t }

  -- with it a request is what it is without it, and its target is visible ASCII
  pub ascii_request : {w : List ℕ} {l : RequestLine} {fs : List Field} → IsRequestHead (ascii_on q f i) w l fs ↔ (IsRequestHead (ascii_off q f i) w l fs × Some VCHAR l.target)
  ascii_request = (λ h. (head_as lines_without kept_without (λ w. line_without) h, visible_head h), λ x. head_as lines_with kept_with (λ w. line_with x.1) x.0)

-- of a request no setting for the header lines of a response is asked: its values stand in one line, whatever the settings are
pub request_in_one_line : (s : Settings) {w : List ℕ} {l : RequestLine} {fs : List Field} → IsRequestHead (request_rules s) w l fs → OneLine fs
request_in_one_line s h = head_off refl h

-- with all settings off the readers are the default's, and so is the definition
pub request_off : (n : ℕ) (s : List ℕ) → request (request_rules off) n s ≡ request default n s
request_off n s = ap (λ r. request r n s) off_request

pub response_off : (n : ℕ) (s : List ℕ) → response (response_rules off) n s ≡ response default n s
response_off n s = ap (λ r. response r n s) off_response

pub request_head_off : (w : List ℕ) (l : RequestLine) (fs : List Field) → IsRequestHead (request_rules off) w l fs ≡ IsRequestHead default w l fs
request_head_off w l fs = ap (λ r. IsRequestHead r w l fs) off_request

pub response_head_off : (w : List ℕ) (l : StatusLine) (fs : List Field) → IsResponseHead (response_rules off) w l fs ≡ IsResponseHead default w l fs
response_head_off w l fs = ap (λ r. IsResponseHead r w l fs) off_response
