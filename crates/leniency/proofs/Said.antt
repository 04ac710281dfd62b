-- The five settings for spaces and folds and the one that passes over lines let nothing more be said, but for values with line ends in them: what
-- a head says with some of them on a head says with all of them off.
-- Assumes nothing.
use Rattle.std.specs.Prelude.{ℕ, ◌≡◌, refl, ◌↔◌, List, Bool, true}
use Rattle.std.proofs.lemmas.Bool.{false≢true}
use Rattle.reader.specs.Tests.{never}
use Rattle.rules.specs.Rules.{Rules}
use Rattle.grammar.specs.Fields.{Field}
use Rattle.grammar.specs.Message.{RequestLine, IsRequestLine, IsReasonPhrase, StatusLine, IsStatusLine, IsHeaderBlock, head, IsRequestHead, IsResponseHead}
use Rattle.grammar.specs.Message as grammar
use Rattle.leniency.proofs.Allows.{line_end_as, empty_lines_as}
use Rattle.plain.specs.Plain.{OneLine}
use Rattle.plain.proofs.OneLine.{one_line_value}
use Rattle.plain.proofs.OneLineHead.{head_off}
use Rattle.leniency.specs.More.{Allowed, NoSpaceFirst}
use Rattle.leniency.proofs.More.{version_as, target_as, code_as, more_requests, more_responses}
use Rattle.leniency.specs.Said.{without}

-- with several spaces behind a code no reason begins with one
reason_first : {r : Rules} {w g : List ℕ} → NoSpaceFirst w → IsReasonPhrase r w g → NoSpaceFirst g
reason_first f (grammar.IsReasonPhrase.ascii k) = f
reason_first f (grammar.IsReasonPhrase.whole t k) = f
reason_first f (grammar.IsReasonPhrase.emptied t k o l) = λ u e. never cc

line_first : {r : Rules} {w : List ℕ} {l : StatusLine} → r.spaces_in_status_line ≡ true → IsStatusLine r w l → NoSpaceFirst l.reason
line_first on (grammar.IsStatusLine.reason v d c e x n) = reason_first (n on) x
line_first on (grammar.IsStatusLine.no_reason v d c e) = λ u e. never cc
line_first on (grammar.IsStatusLine.code_ends t v d c) = λ u e. never cc

pub no_space_first : {r : Rules} {w : List ℕ} {l : StatusLine} {fs : List Field} → r.spaces_in_status_line ≡ true → IsResponseHead r w l fs → NoSpaceFirst l.reason
no_space_first on (grammar.head.message e l c b) = line_first on l

module _ {r : Rules} where
  reason_without : {w g : List ℕ} → IsReasonPhrase r w g → IsReasonPhrase (without r) w g
  reason_without (grammar.IsReasonPhrase.ascii k) = grammar.IsReasonPhrase.ascii k
  reason_without (grammar.IsReasonPhrase.whole t k) = grammar.IsReasonPhrase.whole t k
  reason_without (grammar.IsReasonPhrase.emptied t k o l) = grammar.IsReasonPhrase.emptied t k o l

  -- the same said with single spaces, a colon right behind each name, and nothing around a value
  request_line_without : {w : List ℕ} {l : RequestLine} → IsRequestLine r w l → (v : List ℕ) × IsRequestLine (without r) v l
  request_line_without (grammar.IsRequestLine.line m d t e v) = (_, grammar.IsRequestLine.line m grammar.IsDelimiter.one (target_as (λ t. t) t) grammar.IsDelimiter.one (version_as (λ t. t) v))

  status_line_without : {w : List ℕ} {l : StatusLine} → IsStatusLine r w l → (v : List ℕ) × IsStatusLine (without r) v l
  status_line_without (grammar.IsStatusLine.reason v d c e x n) = (_, grammar.IsStatusLine.reason (version_as (λ t. t) v) grammar.IsDelimiter.one (code_as (λ t. t) c) grammar.IsDelimiter.one (reason_without x) (λ t. absurd (false≢true t)))
  status_line_without (grammar.IsStatusLine.no_reason v d c e) = (_, grammar.IsStatusLine.no_reason (version_as (λ t. t) v) grammar.IsDelimiter.one (code_as (λ t. t) c) grammar.IsDelimiter.one)
  status_line_without (grammar.IsStatusLine.code_ends t v d c) = (_, grammar.IsStatusLine.code_ends t (version_as (λ t. t) v) grammar.IsDelimiter.one (code_as (λ t. t) c))

  block_without : {first : Bool} {w : List ℕ} {fs : List Field} → IsHeaderBlock r first w fs → OneLine fs → (v : List ℕ) × IsHeaderBlock (without r) first v fs
  block_without (grammar.IsHeaderBlock.end a e) i = (_, grammar.IsHeaderBlock.end grammar.IsBeforeFirstName.nothing (line_end_as (λ t. t) e))
  block_without (grammar.IsHeaderBlock.field a (grammar.IsFieldLine.line n s o v t) e l b) i =
      (_, grammar.IsHeaderBlock.field grammar.IsBeforeFirstName.nothing (grammar.IsFieldLine.line n grammar.IsBehindName.nothing grammar.IsAroundValue.none (grammar.IsValueLines.one (one_line_value v i.0)) grammar.IsAroundValue.none) (line_end_as (λ t. t) e) (λ t. absurd (false≢true t)) (block_without b i.1).1)
  block_without (grammar.IsHeaderBlock.ignored t a l o b) i = block_without b i

  head_without : {L : Type 0} {A B : List ℕ → L → Type 0} {w : List ℕ} {l : L} {fs : List Field} → ((u : List ℕ) → A u l → (v : List ℕ) × B v l) → head r A w l fs → OneLine fs → (v : List ℕ) × head (without r) B v l fs
  head_without f (grammar.head.message {w = u} e l c b) i = (_, grammar.head.message (empty_lines_as (λ t. t) (λ t. t) e) (f u l).1 (line_end_as (λ t. t) c) (block_without b i).1)

  allowed : Allowed (without r) r
  allowed = record {
    lines = record { lf_alone = λ t. t; empty_lines = λ t. t; space_before_first_name = λ t. absurd (false≢true t); spaces_after_name = λ t. absurd (false≢true t); multiline_headers = λ t. absurd (false≢true t); ignore_invalid_headers = λ t. absurd (false≢true t) };
    any_target = λ t. t;
    any_code = λ t. t;
    code_ends_line = λ t. t;
    spaces_in_request_line = λ t. absurd (false≢true t);
    spaces_in_status_line = λ t. absurd (false≢true t);
    known_versions = λ t. t;
    obs_reason = refl;
  }

-- what a request says with no line end in a value is what a request says with all of them off
pub request_said : (r : Rules) (l : RequestLine) (fs : List Field) → (((w : List ℕ) × IsRequestHead r w l fs) × OneLine fs) ↔ ((w : List ℕ) × IsRequestHead (without r) w l fs)
request_said r l fs = (λ x. head_without (λ u. request_line_without) x.0.1 x.1, λ x. ((x.0, more_requests allowed (λ t. absurd (false≢true t)) x.1), head_off refl x.1))

-- and of a response, but that no reason begins with a space where several may stand before it
pub response_said : (r : Rules) (l : StatusLine) (fs : List Field) → (((w : List ℕ) × IsResponseHead r w l fs) × OneLine fs) ↔ (((w : List ℕ) × IsResponseHead (without r) w l fs) × (r.spaces_in_status_line ≡ true → NoSpaceFirst l.reason))
response_said r l fs = (λ x. (head_without (λ u. status_line_without) x.0.1 x.1, λ on. no_space_first on x.0.1), λ x. ((x.0.0, more_responses allowed (λ t. absurd (false≢true t)) (λ on off. x.1 on) x.0.1), head_off refl x.0.1))
