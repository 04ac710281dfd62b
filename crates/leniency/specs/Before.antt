-- The grammar as it is with none of the five settings for spaces and folds, and no line passed over: single spaces, a colon right behind a name,
-- a value in one line, and nothing but field lines.
-- Assumes nothing.
use Rattle.std.specs.Prelude.{ℕ, ◌≡◌, List, [], ◌∷◌, ◌++◌, true}
use Rattle.rules.specs.Rules.{Rules}
use Rattle.grammar.specs.Fields.{OWS, IsFieldName, IsFieldValue, Field}
use Rattle.grammar.specs.Message.{space, colon, IsLineEnd, IsEmptyLines, Version, HTTP_version, IsMethod, IsRequestTarget, RequestLine, IsStatusCode, IsReasonPhrase, StatusLine}

-- 3: request-line = method SP request-target SP HTTP-version
pub data IsRequestLine (r : Rules) : List ℕ → RequestLine → Type 0 where
  line : {m t v : List ℕ} {n : Version} → IsMethod m → IsRequestTarget r t → HTTP_version r v n → IsRequestLine r (m ++ space ++ t ++ space ++ v) (record { method = m; target = t; version = n })

-- 4: status-line = HTTP-version SP status-code SP [ reason-phrase ]
pub data IsStatusLine (r : Rules) : List ℕ → StatusLine → Type 0 where
  reason : {v c w g : List ℕ} {n : Version} {k : ℕ} → HTTP_version r v n → IsStatusCode r c k → IsReasonPhrase r w g → IsStatusLine r (v ++ space ++ c ++ space ++ w) (record { version = n; code = k; reason = g })
  no_reason : {v c : List ℕ} {n : Version} {k : ℕ} → HTTP_version r v n → IsStatusCode r c k → IsStatusLine r (v ++ space ++ c ++ space) (record { version = n; code = k; reason = [] })
  code_ends : {v c : List ℕ} {n : Version} {k : ℕ} → r.code_ends_line ≡ true → HTTP_version r v n → IsStatusCode r c k → IsStatusLine r (v ++ space ++ c) (record { version = n; code = k; reason = [] })

-- 5: field-line = field-name ":" OWS field-value OWS
pub data IsFieldLine : List ℕ → Field → Type 0 where
  line : {n o v t : List ℕ} → IsFieldName n → OWS o → IsFieldValue v → OWS t → IsFieldLine (n ++ colon ++ o ++ v ++ t) (record { name = n; value = v })

-- 2.1: *( field-line CRLF ) CRLF
pub data IsHeaderBlock (r : Rules) : List ℕ → List Field → Type 0 where
  end : {e : List ℕ} → IsLineEnd r e → IsHeaderBlock r e []
  field : {w e b : List ℕ} {f : Field} {fs : List Field} → IsFieldLine w f → IsLineEnd r e → IsHeaderBlock r b fs → IsHeaderBlock r (w ++ e ++ b) (f ∷ fs)

-- 2.1: start-line CRLF *( field-line CRLF ) CRLF
pub data head (r : Rules) {L : Type 0} (start_line : List ℕ → L → Type 0) : List ℕ → L → List Field → Type 0 where
  message : {e w c b : List ℕ} {l : L} {fs : List Field} → IsEmptyLines r e → start_line w l → IsLineEnd r c → IsHeaderBlock r b fs → head r start_line (e ++ w ++ c ++ b) l fs
