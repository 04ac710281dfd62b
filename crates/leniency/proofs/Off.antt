-- What each of the five settings for spaces and folds lets stand somewhere does not stand there without it; and with none of them, and no line
-- passed over, the grammar is what it was before there were settings.
-- Assumes nothing.
use Rattle.std.specs.Prelude.{ℕ, ◌≡◌, refl, ◌↔◌, List, [], ◌++◌, Bool, false}
use Rattle.std.proofs.Common.{sym, subst, append-nil}
use Rattle.reader.specs.Tests.{clash}
use Rattle.rules.specs.Rules.{Rules}
use Rattle.grammar.specs.Rows.{none, more}
use Rattle.grammar.specs.Fields.{OWS, IsFieldValue, Field}
use Rattle.grammar.specs.Message.{space, colon, fold, IsDelimiter, IsBehindName, IsAroundValue, IsValueLines, IsBeforeFirstName, RequestLine, StatusLine, IsRequestHead, IsResponseHead}
use Rattle.grammar.specs.Message as grammar
use Rattle.agreement.specs.Around.{around_blanks}
use Rattle.leniency.specs.Before as before
use Rattle.leniency.specs.Off.{AllOff}

-- of a request line and of a status line, each by its rule
pub one_space : {several : Bool} {w : List ℕ} → several ≡ false → IsDelimiter several w → w ≡ space
one_space f grammar.IsDelimiter.one = refl
one_space f (grammar.IsDelimiter.more t k) = absurd (clash t f)

module _ {r : Rules} where
  pub nothing_before : {first : Bool} {w : List ℕ} → r.space_before_first_name ≡ false → IsBeforeFirstName r first w → w ≡ []
  nothing_before f grammar.IsBeforeFirstName.nothing = refl
  nothing_before f (grammar.IsBeforeFirstName.blanks t k) = absurd (clash t f)

  pub nothing_behind : {w : List ℕ} → r.spaces_after_name ≡ false → IsBehindName r w → w ≡ []
  nothing_behind f grammar.IsBehindName.nothing = refl
  nothing_behind f (grammar.IsBehindName.blanks t k) = absurd (clash t f)

  pub blanks_around : {w : List ℕ} → r.multiline_headers ≡ false → IsAroundValue r w → OWS w
  blanks_around f grammar.IsAroundValue.none = none
  blanks_around f (grammar.IsAroundValue.more b k) = more b (blanks_around f k)
  blanks_around f (grammar.IsAroundValue.folded (fold t e b) k) = absurd (clash t f)

  pub one_line : {v : List ℕ} → r.multiline_headers ≡ false → IsValueLines r v → IsFieldValue v
  one_line f (grammar.IsValueLines.one k) = k
  one_line f (grammar.IsValueLines.several t b m c) = absurd (clash t f)

-- from the grammar to that of before
module _ {r : Rules} (off : AllOff r) where
  request_line_from : {w : List ℕ} {l : RequestLine} → grammar.IsRequestLine r w l → before.IsRequestLine r w l
  request_line_from (grammar.IsRequestLine.line m grammar.IsDelimiter.one t grammar.IsDelimiter.one v) = before.IsRequestLine.line m t v
  request_line_from (grammar.IsRequestLine.line m grammar.IsDelimiter.one t (grammar.IsDelimiter.more x k) v) = absurd (clash x off.spaces_in_request_line)
  request_line_from (grammar.IsRequestLine.line m (grammar.IsDelimiter.more x k) t d v) = absurd (clash x off.spaces_in_request_line)

  status_line_from : {w : List ℕ} {l : StatusLine} → grammar.IsStatusLine r w l → before.IsStatusLine r w l
  status_line_from (grammar.IsStatusLine.reason v grammar.IsDelimiter.one c grammar.IsDelimiter.one x n) = before.IsStatusLine.reason v c x
  status_line_from (grammar.IsStatusLine.reason v grammar.IsDelimiter.one c (grammar.IsDelimiter.more y k) x n) = absurd (clash y off.spaces_in_status_line)
  status_line_from (grammar.IsStatusLine.reason v (grammar.IsDelimiter.more y k) c d x n) = absurd (clash y off.spaces_in_status_line)
  status_line_from (grammar.IsStatusLine.no_reason v grammar.IsDelimiter.one c grammar.IsDelimiter.one) = before.IsStatusLine.no_reason v c
  status_line_from (grammar.IsStatusLine.no_reason v grammar.IsDelimiter.one c (grammar.IsDelimiter.more y k)) = absurd (clash y off.spaces_in_status_line)
  status_line_from (grammar.IsStatusLine.no_reason v (grammar.IsDelimiter.more y k) c d) = absurd (clash y off.spaces_in_status_line)
  status_line_from (grammar.IsStatusLine.code_ends t v grammar.IsDelimiter.one c) = before.IsStatusLine.code_ends t v c
  status_line_from (grammar.IsStatusLine.code_ends t v (grammar.IsDelimiter.more y k) c) = absurd (clash y off.spaces_in_status_line)

  field_line_from : {w : List ℕ} {f : Field} → grammar.IsFieldLine r w f → before.IsFieldLine w f
  field_line_from (grammar.IsFieldLine.line {n = n} {o = o} {v = v} {t = t} h grammar.IsBehindName.nothing a x b) =
      subst (λ y. before.IsFieldLine (y ++ colon ++ o ++ v ++ t) (record { name = n; value = v })) (sym (append-nil n)) (before.IsFieldLine.line h (blanks_around off.multiline_headers a) (one_line off.multiline_headers x) (blanks_around off.multiline_headers b))
  field_line_from (grammar.IsFieldLine.line h (grammar.IsBehindName.blanks t k) a x b) = absurd (clash t off.spaces_after_name)

  block_from : {first : Bool} {w : List ℕ} {fs : List Field} → grammar.IsHeaderBlock r first w fs → before.IsHeaderBlock r w fs
  block_from (grammar.IsHeaderBlock.end grammar.IsBeforeFirstName.nothing e) = before.IsHeaderBlock.end e
  block_from (grammar.IsHeaderBlock.end (grammar.IsBeforeFirstName.blanks t k) e) = absurd (clash t off.space_before_first_name)
  block_from (grammar.IsHeaderBlock.field grammar.IsBeforeFirstName.nothing f e o b) = before.IsHeaderBlock.field (field_line_from f) e (block_from b)
  block_from (grammar.IsHeaderBlock.field (grammar.IsBeforeFirstName.blanks t k) f e o b) = absurd (clash t off.space_before_first_name)
  block_from (grammar.IsHeaderBlock.ignored t a l o b) = absurd (clash t off.ignore_invalid_headers)

  head_from : {L : Type 0} {A B : List ℕ → L → Type 0} {w : List ℕ} {l : L} {fs : List Field} → ((v : List ℕ) → A v l → B v l) → grammar.head r A w l fs → before.head r B w l fs
  head_from f (grammar.head.message {w = v} x k y z) = before.head.message x (f v k) y (block_from z)

-- and back, whatever the settings are but for a reason's spaces and folds
module _ {r : Rules} where
  request_line_to : {w : List ℕ} {l : RequestLine} → before.IsRequestLine r w l → grammar.IsRequestLine r w l
  request_line_to (before.IsRequestLine.line m t v) = grammar.IsRequestLine.line m grammar.IsDelimiter.one t grammar.IsDelimiter.one v

  status_line_to : {w : List ℕ} {l : StatusLine} → r.spaces_in_status_line ≡ false → before.IsStatusLine r w l → grammar.IsStatusLine r w l
  status_line_to f (before.IsStatusLine.reason v c x) = grammar.IsStatusLine.reason v grammar.IsDelimiter.one c grammar.IsDelimiter.one x (λ t. absurd (clash t f))
  status_line_to f (before.IsStatusLine.no_reason v c) = grammar.IsStatusLine.no_reason v grammar.IsDelimiter.one c grammar.IsDelimiter.one
  status_line_to f (before.IsStatusLine.code_ends t v c) = grammar.IsStatusLine.code_ends t v grammar.IsDelimiter.one c

  field_line_to : {w : List ℕ} {f : Field} → before.IsFieldLine w f → grammar.IsFieldLine r w f
  field_line_to (before.IsFieldLine.line {n = n} {o = o} {v = v} {t = t} h a x b) =
      subst (λ y. grammar.IsFieldLine r (y ++ colon ++ o ++ v ++ t) (record { name = n; value = v })) (append-nil n) (grammar.IsFieldLine.line h grammar.IsBehindName.nothing (around_blanks a) (grammar.IsValueLines.one x) (around_blanks b))

  block_to : {first : Bool} {w : List ℕ} {fs : List Field} → r.multiline_headers ≡ false → before.IsHeaderBlock r w fs → grammar.IsHeaderBlock r first w fs
  block_to g (before.IsHeaderBlock.end e) = grammar.IsHeaderBlock.end grammar.IsBeforeFirstName.nothing e
  block_to g (before.IsHeaderBlock.field f e b) = grammar.IsHeaderBlock.field grammar.IsBeforeFirstName.nothing (field_line_to f) e (λ t. absurd (clash t g)) (block_to g b)

  head_to : {L : Type 0} {A B : List ℕ → L → Type 0} {w : List ℕ} {l : L} {fs : List Field} → r.multiline_headers ≡ false → ((v : List ℕ) → B v l → A v l) → before.head r B w l fs → grammar.head r A w l fs
  head_to g f (before.head.message {w = v} x k y z) = grammar.head.message x (f v k) y (block_to g z)

-- with all of them off a head is what it was before, whatever the other rules are
pub request_before : {r : Rules} → AllOff r → {w : List ℕ} {l : RequestLine} {fs : List Field} → IsRequestHead r w l fs ↔ before.head r (before.IsRequestLine r) w l fs
request_before off = (λ h. head_from off (λ w. request_line_from off) h, λ h. head_to off.multiline_headers (λ w. request_line_to) h)

pub response_before : {r : Rules} → AllOff r → {w : List ℕ} {l : StatusLine} {fs : List Field} → IsResponseHead r w l fs ↔ before.head r (before.IsStatusLine r) w l fs
response_before off = (λ h. head_from off (λ w. status_line_from off) h, λ h. head_to off.multiline_headers (λ w. status_line_to off.spaces_in_status_line) h)

pub headers_before : {r : Rules} → AllOff r → {first : Bool} {w : List ℕ} {fs : List Field} → grammar.IsHeaderBlock r first w fs ↔ before.IsHeaderBlock r w fs
headers_before off = (block_from off, block_to off.multiline_headers)
