-- The plain form of a head: its fields written with no more than the RFCs ask for, and no leniency but those that a field itself has.
-- Assumes nothing.
use Rattle.std.specs.Prelude.{ℕ, ◌+◌, ◌/◌, ◌%◌, ◌≡◌, List, [], ◌∷◌, ◌++◌}
use Rattle.grammar.specs.Rows.{Many}
use Rattle.grammar.specs.Fields.{Field}
use Rattle.grammar.specs.Message.{space, colon, CRLF, Version, HTTP_name, RequestLine, StatusLine}

-- a value that stands on one line; only these have a place in a plain form
abbrev pub one_line : List ℕ → Type 0
one_line v = Many (λ b. b ≡ 0x0A → ⊥) v

abbrev pub OneLine : List Field → Type 0
OneLine [] = Unit {0}
OneLine (f ∷ fs) = one_line f.value × OneLine fs

-- HTTP/ and two digits with a dot between, of which the first is 1 under default
abbrev pub plain_version : Version → List ℕ
plain_version v = HTTP_name ++ (0x2F ∷ (0x30 + v.major) ∷ 0x2E ∷ (0x30 + v.minor) ∷ [])

-- three digits
abbrev pub plain_code : ℕ → List ℕ
plain_code n = (0x30 + n / 100) ∷ (0x30 + n / 10 % 10) ∷ (0x30 + n % 10) ∷ []

-- a name, a colon, one space, a value, CR LF
abbrev pub plain_field : Field → List ℕ
plain_field f = f.name ++ colon ++ space ++ f.value ++ CRLF

-- and an empty line behind the last
abbrev pub plain_fields : List Field → List ℕ
plain_fields [] = CRLF
plain_fields (f ∷ fs) = plain_field f ++ plain_fields fs

abbrev pub plain_request_line : RequestLine → List ℕ
plain_request_line l = l.method ++ space ++ l.target ++ space ++ plain_version l.version ++ CRLF

abbrev pub plain_status_line : StatusLine → List ℕ
plain_status_line l = plain_version l.version ++ space ++ plain_code l.code ++ space ++ l.reason ++ CRLF

abbrev pub plain_request : RequestLine → List Field → List ℕ
plain_request l fs = plain_request_line l ++ plain_fields fs

abbrev pub plain_response : StatusLine → List Field → List ℕ
plain_response l fs = plain_status_line l ++ plain_fields fs
