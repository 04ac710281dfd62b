-- With more settings on more is allowed and nothing is lost: a head is then one with the same fields. Of a response this asks that its reason
-- begins with no space, since where several spaces stand before a reason none of them is of it; and where lines are passed over it asks that no
-- setting makes something else of them.
-- Assumes nothing.
use Rattle.std.specs.Prelude.{ℕ, ◌≡◌, refl, List, [], ◌∷◌, ◌++◌, Bool, true, false, not, eqb}
use Rattle.std.proofs.Common.{arith, sym, subst, ◌∙◌, append_assoc, eqb-true}
use Rattle.std.proofs.lemmas.Bool.{false≢true, eqb-false}
use Rattle.reader.specs.Tests.{clash}
use Rattle.octets.specs.Grammar.{IsObsText, IsText}
use Rattle.rules.specs.declared.Settings.{Settings}
use Rattle.rules.specs.Rules.{Rules}
use Rattle.rules.specs.Settings.{request_rules, response_rules}
use Rattle.grammar.specs.Rows.{Many, none, more}
use Rattle.grammar.specs.Fields.{Field}
use Rattle.grammar.specs.Message.{space, Version, HTTP_version, one_zero, one_one, IsDelimiter, IsStatusSpace, NoSpaceLeft, IsRequestTarget, RequestLine, IsRequestLine, IsStatusCode, StatusLine, IsStatusLine, IsRequestHead, IsResponseHead}
use Rattle.grammar.specs.Message as grammar
use Rattle.agreement.specs.Tail.{Tail, line_parts, parts_line}
use Rattle.agreement.specs.Tail as tails
use Rattle.leniency.specs.Allows.{KeptIgnored}
use Rattle.leniency.proofs.Allows.{head_as}
use Rattle.leniency.specs.More.{Allowed, KeptReason, More, NoSpaceFirst, ignoring}

delimiter_as : {t u : Bool} {w : List ℕ} → (t ≡ true → u ≡ true) → IsDelimiter t w → IsDelimiter u w
delimiter_as f grammar.IsDelimiter.one = grammar.IsDelimiter.one
delimiter_as f (grammar.IsDelimiter.more h k) = grammar.IsDelimiter.more (f h) (delimiter_as f k)

-- one space more
delimiter_on : {several : Bool} {w : List ℕ} → several ≡ true → IsDelimiter several w → IsDelimiter several (w ++ space)
delimiter_on h grammar.IsDelimiter.one = grammar.IsDelimiter.more h grammar.IsDelimiter.one
delimiter_on h (grammar.IsDelimiter.more t k) = grammar.IsDelimiter.more t (delimiter_on h k)

-- the parts of a start line, each by the rules that it asks
module _ {r s : Rules} where
  pub version_as : {w : List ℕ} {v : Version} → (r.known_versions ≡ false → s.known_versions ≡ false) → HTTP_version r w v → HTTP_version s w v
  version_as f one_zero = one_zero
  version_as f one_one = one_one
  version_as f (grammar.HTTP_version.other t a b) = grammar.HTTP_version.other (f t) a b

  pub target_as : {w : List ℕ} → (r.any_target ≡ true → s.any_target ≡ true) → IsRequestTarget r w → IsRequestTarget s w
  target_as f (grammar.IsRequestTarget.visible k) = grammar.IsRequestTarget.visible k
  target_as f (grammar.IsRequestTarget.any t k u) = grammar.IsRequestTarget.any (f t) k u

  pub code_as : {w : List ℕ} {n : ℕ} → (r.any_code ≡ true → s.any_code ≡ true) → IsStatusCode r w n → IsStatusCode s w n
  code_as f (grammar.IsStatusCode.class a b c) = grammar.IsStatusCode.class a b c
  code_as f (grammar.IsStatusCode.any t a b c) = grammar.IsStatusCode.any (f t) a b c

module _ {r s : Rules} (allowed : Allowed r s) where
  request_line_as : {w : List ℕ} {l : RequestLine} → IsRequestLine r w l → IsRequestLine s w l
  request_line_as (grammar.IsRequestLine.line m d t e v) = grammar.IsRequestLine.line m (delimiter_as allowed.spaces_in_request_line d) (target_as allowed.any_target t) (delimiter_as allowed.spaces_in_request_line e) (version_as allowed.known_versions v)

  -- a reason that is given as empty is given so with any spaces before it
  module _ {v : List ℕ} {c : ℕ} (given : s.obs_reason ≡ true) (several : s.spaces_in_status_line ≡ true) (here : IsObsText c) (behind : Many IsText v) where
    emptied_as : {e u : List ℕ} → IsStatusSpace s e → Many IsText u → Tail s (e ++ (u ++ (c ∷ v))) []
    emptied_as d none = tails.reason d (grammar.IsReasonPhrase.emptied given none here behind) (λ t u e. let same : c ≡ 0x20 = cc in omega (arith, here.low, same))
    emptied_as {e} d (more {b = b} {w = w} x k) = by (eqb b 0x20) refl (emptied_as (delimiter_on several d) k)
      where
        by : (t : Bool) → eqb b 0x20 ≡ t → Tail s ((e ++ space) ++ (w ++ (c ∷ v))) [] → Tail s (e ++ (b ∷ (w ++ (c ∷ v)))) []
        by true h j = subst (λ y. Tail s (e ++ (y ∷ (w ++ (c ∷ v)))) []) (sym (eqb-true b 0x20 h)) (subst (λ y. Tail s y []) (append_assoc e space (w ++ (c ∷ v))) j)
        by false h j = tails.reason d (grammar.IsReasonPhrase.emptied given (more x k) here behind) (λ t u i. let same : b ≡ 0x20 = cc in eqb-false b 0x20 h same)

  left_as : {w : List ℕ} → KeptReason r s w → NoSpaceLeft r w → NoSpaceLeft s w
  left_as {w} kept left on = by r.spaces_in_status_line refl
    where
      by : (t : Bool) → r.spaces_in_status_line ≡ t → NoSpaceFirst w
      by true e = left e
      by false e = kept on e

  tail_as : {w g : List ℕ} → KeptReason r s g → Tail r w g → Tail s w g
  tail_as kept (tails.reason d (grammar.IsReasonPhrase.ascii k) l) = tails.reason (delimiter_as allowed.spaces_in_status_line d) (grammar.IsReasonPhrase.ascii k) (left_as kept l)
  tail_as kept (tails.reason d (grammar.IsReasonPhrase.whole t k) l) = tails.reason (delimiter_as allowed.spaces_in_status_line d) (grammar.IsReasonPhrase.whole (sym allowed.obs_reason ∙ t) k) (left_as kept l)
  tail_as kept (tails.reason {d = e} d (grammar.IsReasonPhrase.emptied {u = u} {v = v} {c = c} t k o m) l) = by s.spaces_in_status_line refl
    where
      given : s.obs_reason ≡ true
      given = sym allowed.obs_reason ∙ t

      by : (x : Bool) → s.spaces_in_status_line ≡ x → Tail s (e ++ (u ++ (c ∷ v))) []
      by true on = emptied_as given on o m (delimiter_as allowed.spaces_in_status_line d) k
      by false off = tails.reason (delimiter_as allowed.spaces_in_status_line d) (grammar.IsReasonPhrase.emptied given k o m) (λ on. absurd (clash on off))
  tail_as kept (tails.nothing d) = tails.nothing (delimiter_as allowed.spaces_in_status_line d)
  tail_as kept (tails.short t) = tails.short (allowed.code_ends_line t)

  status_line_as : {w : List ℕ} {l : StatusLine} → KeptReason r s l.reason → IsStatusLine r w l → IsStatusLine s w l
  status_line_as {l = l} kept d =
      let P = line_parts d in
      subst (λ y. IsStatusLine s y l) (sym P.whole) (parts_line (version_as allowed.known_versions P.version) (delimiter_as allowed.spaces_in_status_line P.delimits) (code_as allowed.any_code P.code) (tail_as kept P.tail))

  pub more_requests : {w : List ℕ} {l : RequestLine} {fs : List Field} → KeptIgnored r s → IsRequestHead r w l fs → IsRequestHead s w l fs
  more_requests lines h = head_as allowed.lines lines (λ w. request_line_as) h

  pub more_responses : {w : List ℕ} {l : StatusLine} {fs : List Field} → KeptIgnored r s → KeptReason r s l.reason → IsResponseHead r w l fs → IsResponseHead s w l fs
  more_responses lines kept h = head_as allowed.lines lines (λ w. status_line_as kept) h

off_too : (t u : Bool) → (u ≡ true → t ≡ true) → not t ≡ true → not u ≡ true
off_too true u f h = absurd (false≢true h)
off_too false true f h = absurd (false≢true (f refl))
off_too false false f h = refl

module _ {a b : Settings} (on : More a b) {w : List ℕ} {fs : List Field} where
  pub request_more : {l : RequestLine} → KeptIgnored (request_rules a) (request_rules b) → IsRequestHead (request_rules a) w l fs → IsRequestHead (request_rules b) w l fs
  request_more = more_requests (record {
    lines = record { lf_alone = λ t. t; empty_lines = λ t. t; space_before_first_name = on.space_before_first_name; spaces_after_name = λ t. t; multiline_headers = λ t. t; ignore_invalid_headers = on.ignore_invalid_headers_in_requests };
    any_target = off_too a.ascii_targets b.ascii_targets on.ascii_targets;
    any_code = λ t. t;
    code_ends_line = λ t. t;
    spaces_in_request_line = on.spaces_in_request_line;
    spaces_in_status_line = λ t. t;
    known_versions = λ t. t;
    obs_reason = refl;
  })

  pub response_more : {l : StatusLine} → KeptIgnored (response_rules a) (response_rules b) → (b.spaces_in_status_line ≡ true → a.spaces_in_status_line ≡ false → NoSpaceFirst l.reason) → IsResponseHead (response_rules a) w l fs → IsResponseHead (response_rules b) w l fs
  response_more = more_responses (record {
    lines = record { lf_alone = λ t. t; empty_lines = λ t. t; space_before_first_name = on.space_before_first_name; spaces_after_name = on.spaces_after_name; multiline_headers = on.multiline_headers; ignore_invalid_headers = on.ignore_invalid_headers_in_responses };
    any_target = λ t. t;
    any_code = λ t. t;
    code_ends_line = λ t. t;
    spaces_in_request_line = λ t. t;
    spaces_in_status_line = on.spaces_in_status_line;
    known_versions = λ t. t;
    obs_reason = refl;
  })

module _ (r : Rules) where
  with_ignoring : Allowed r (ignoring r)
  with_ignoring = record {
    lines = record { lf_alone = λ t. t; empty_lines = λ t. t; space_before_first_name = λ t. t; spaces_after_name = λ t. t; multiline_headers = λ t. t; ignore_invalid_headers = λ t. refl };
    any_target = λ t. t;
    any_code = λ t. t;
    code_ends_line = λ t. t;
    spaces_in_request_line = λ t. t;
    spaces_in_status_line = λ t. t;
    known_versions = λ t. t;
    obs_reason = refl;
  }

  same_lines : KeptIgnored r (ignoring r)
  same_lines t = record { space_before_first_name = λ t. t; spaces_after_name = λ t. t; multiline_headers = λ t. t }

  -- what is a head with the setting off is one with it on, the same bytes with the same fields: the end of a head does not move
  pub ignoring_moves_nothing : ((w : List ℕ) (l : RequestLine) (fs : List Field) → IsRequestHead r w l fs → IsRequestHead (ignoring r) w l fs) × ((w : List ℕ) (l : StatusLine) (fs : List Field) → IsResponseHead r w l fs → IsResponseHead (ignoring r) w l fs)
  ignoring_moves_nothing = (λ w l fs. more_requests with_ignoring same_lines, λ w l fs. more_responses with_ignoring same_lines (λ on off. absurd (clash on off)))
