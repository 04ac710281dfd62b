-- The plain form of a head has at most twice as many bytes: a blank and a line end at most are longer than what was read.
-- Assumes nothing.
use Rattle.std.specs.Prelude.{ℕ, ◌+◌, ◌*◌, ◌≤◌, ◌≡◌, refl, List, ◌++◌, Bool, length}
use Rattle.std.proofs.Common.{arith, length-append}
use Rattle.rules.specs.Rules.{Rules}
use Rattle.grammar.specs.Fields.{Field}
use Rattle.grammar.specs.Message.{space, colon, CRLF, IsDelimiter, Version, HTTP_version, RequestLine, IsRequestLine, IsStatusCode, IsReasonPhrase, StatusLine, IsStatusLine, IsFieldLine, IsHeaderBlock, IsRequestHead, IsResponseHead}
use Rattle.grammar.specs.Message as grammar
use Rattle.lengths.specs.Lengths.{ends_long, field_long}
use Rattle.plain.specs.Plain.{plain_version, plain_code, plain_field, plain_fields, plain_request_line, plain_status_line, plain_request, plain_response}

-- a name, a colon and a value
field_room : {r : Rules} {w : List ℕ} {f : Field} → IsFieldLine r w f → length (plain_field f) ≤ length w + 3
field_room (grammar.IsFieldLine.line {n = n} {s = s} {o = o} {v = v} {t = t} a e b c d) =
    omega (arith, length-append (n ++ colon ++ space ++ v) CRLF, length-append (n ++ colon ++ space) v, length-append (n ++ colon) space, length-append n colon, length-append (n ++ s ++ colon ++ o ++ v) t, length-append (n ++ s ++ colon ++ o) v, length-append (n ++ s ++ colon) o, length-append (n ++ s) colon, length-append n s)

-- the spaces between two parts are one or more
delimiter_long : {several : Bool} {d : List ℕ} → IsDelimiter several d → 1 ≤ length d
delimiter_long grammar.IsDelimiter.one = omega arith
delimiter_long (grammar.IsDelimiter.more h k) = omega arith

module _ {r : Rules} where
  pub block_short : {first : Bool} {w : List ℕ} {fs : List Field} → IsHeaderBlock r first w fs → length (plain_fields fs) ≤ length w * 2
  block_short (grammar.IsHeaderBlock.end {s = s} {e = e} c d) = omega (arith, ends_long d, length-append s e)
  block_short (grammar.IsHeaderBlock.field {s = s} {w = w} {e = e} {b = b} {f = f} {fs = fs} c l d o k) =
      omega (arith, field_room l, field_long l, ends_long d, block_short k, length-append (plain_field f) (plain_fields fs), length-append s (w ++ e ++ b), length-append (w ++ e) b, length-append w e)
  block_short (grammar.IsHeaderBlock.ignored {s = s} {w = w} {b = b} t c l o k) = omega (arith, block_short k, length-append s (w ++ b), length-append w b)

  version_eight : {w : List ℕ} {v : Version} → HTTP_version r w v → length w ≡ 8
  version_eight grammar.HTTP_version.one_zero = refl
  version_eight grammar.HTTP_version.one_one = refl
  version_eight (grammar.HTTP_version.other t a b) = refl

  code_three : {w : List ℕ} {n : ℕ} → IsStatusCode r w n → length w ≡ 3
  code_three (grammar.IsStatusCode.class a b c) = refl
  code_three (grammar.IsStatusCode.any t a b c) = refl

  reason_given : {w g : List ℕ} → IsReasonPhrase r w g → length g ≤ length w
  reason_given (grammar.IsReasonPhrase.ascii k) = omega arith
  reason_given (grammar.IsReasonPhrase.whole t k) = omega arith
  reason_given (grammar.IsReasonPhrase.emptied t a b c) = omega arith

  request_line_room : {w : List ℕ} {l : RequestLine} → IsRequestLine r w l → length (plain_request_line l) ≤ length w + 2
  request_line_room (grammar.IsRequestLine.line {m = m} {d = d} {t = t} {e = e} {v = v} {n = n} a x b y c) =
      omega (arith, version_eight c, delimiter_long x, delimiter_long y, length-append (m ++ space ++ t ++ space ++ plain_version n) CRLF, length-append (m ++ space ++ t ++ space) (plain_version n), length-append (m ++ space ++ t) space, length-append (m ++ space) t, length-append m space, length-append (m ++ d ++ t ++ e) v, length-append (m ++ d ++ t) e, length-append (m ++ d) t, length-append m d)

  -- a space that was not there is one byte more
  status_line_room : {w : List ℕ} {l : StatusLine} → IsStatusLine r w l → length (plain_status_line l) ≤ length w + 3
  status_line_room (grammar.IsStatusLine.reason {v = v} {d = d} {c = c} {e = e} {w = w} {g = g} {n = n} {k = k} a x b y z i) =
      omega (arith, version_eight a, code_three b, delimiter_long x, delimiter_long y, reason_given z, length-append (plain_version n ++ space ++ plain_code k ++ space ++ g) CRLF, length-append (plain_version n ++ space ++ plain_code k ++ space) g, length-append (v ++ d ++ c ++ e) w, length-append (v ++ d ++ c) e, length-append (v ++ d) c, length-append v d)
  status_line_room (grammar.IsStatusLine.no_reason {v = v} {d = d} {c = c} {e = e} a x b y) = omega (arith, version_eight a, code_three b, delimiter_long x, delimiter_long y, length-append (v ++ d ++ c) e, length-append (v ++ d) c, length-append v d)
  status_line_room (grammar.IsStatusLine.code_ends {v = v} {d = d} {c = c} t a x b) = omega (arith, version_eight a, code_three b, delimiter_long x, length-append (v ++ d) c, length-append v d)

  status_line_long : {w : List ℕ} {l : StatusLine} → IsStatusLine r w l → 12 ≤ length w
  status_line_long (grammar.IsStatusLine.reason {v = v} {d = d} {c = c} {e = e} {w = w} a x b y z i) = omega (arith, version_eight a, code_three b, delimiter_long x, length-append (v ++ d ++ c ++ e) w, length-append (v ++ d ++ c) e, length-append (v ++ d) c, length-append v d)
  status_line_long (grammar.IsStatusLine.no_reason {v = v} {d = d} {c = c} {e = e} a x b y) = omega (arith, version_eight a, code_three b, delimiter_long x, length-append (v ++ d ++ c) e, length-append (v ++ d) c, length-append v d)
  status_line_long (grammar.IsStatusLine.code_ends {v = v} {d = d} {c = c} t a x b) = omega (arith, version_eight a, code_three b, delimiter_long x, length-append (v ++ d) c, length-append v d)

  pub request_short : {w : List ℕ} {l : RequestLine} {fs : List Field} → IsRequestHead r w l fs → length (plain_request l fs) ≤ length w * 2
  request_short (grammar.head.message {e = e} {w = w} {c = c} {b = b} {l = l} {fs = fs} x d y k) =
      omega (arith, request_line_room d, ends_long y, block_short k, length-append (plain_request_line l) (plain_fields fs), length-append (e ++ w ++ c) b, length-append (e ++ w) c, length-append e w)

  pub response_short : {w : List ℕ} {l : StatusLine} {fs : List Field} → IsResponseHead r w l fs → length (plain_response l fs) ≤ length w * 2
  response_short (grammar.head.message {e = e} {w = w} {c = c} {b = b} {l = l} {fs = fs} x d y k) =
      omega (arith, status_line_room d, status_line_long d, ends_long y, block_short k, length-append (plain_status_line l) (plain_fields fs), length-append (e ++ w ++ c) b, length-append (e ++ w) c, length-append e w)
