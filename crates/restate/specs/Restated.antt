-- What restating an input comes to: the plain form of the head at its start, wherever there is one that fits.
-- The theorems stand in proofs/Restated.antt. Assumes nothing.
use Rattle.std.specs.Prelude.{ℕ, ◌≤◌, ◌<◌, ◌≡◌, List, ◌++◌, length, drop, Err, Ok}
use Rattle.rules.specs.declared.Settings.{Settings}
use Rattle.rules.specs.Rules.{default}
use Rattle.rules.specs.Settings.{request_rules, response_rules}
use Rattle.grammar.specs.Fields.{Field}
use Rattle.grammar.specs.Message.{IsRequestHead, IsResponseHead}
use Rattle.agreement.specs.Promises.{BlockAlone}
use Rattle.plain.specs.Plain.{OneLine, plain_request, plain_response, plain_fields}
use Rattle.wording.specs.declared.Kind.{Kind}
use Rattle.wording.specs.declared.Kind.TheVariants.{Request, Response, Headers, Chunk}
use Rattle.writer.specs.declared.Unwritten.TheVariants.{Unwritable}
use Rattle.writer.specs.Promise.{Writing}

-- a head has at most as many fields as are kept
abbrev pub most : ℕ
most = 100

-- Head is what the grammar calls a head, Default what it calls one by default, plain a head's plain form, old what was lent before, and last stand
-- the answer and what was lent after
pub data Restated {L : Type 0} (Head Default : List ℕ → L → List Field → Type 0) (plain : L → List Field → List ℕ) (s old : List ℕ) : Writing → List ℕ → Type 0 where
  -- the input begins with a head w, and its plain form, which is a head with the same fields, by default too, stands at its start
  form : {w : List ℕ} (t : List ℕ) {l : L} {fs : List Field} {n : ℕ} {new : List ℕ} → s ≡ w ++ t → Head w l fs → Head (plain l fs) l fs → Default (plain l fs) l fs → n ≡ length (plain l fs) → new ≡ plain l fs ++ drop n old → Restated Head Default plain s old (Ok n) new
  -- the input begins with no head that has at most so many fields, whose values stand on one line each and whose plain form fits what was
  -- lent, which is as it was
  nothing : {r : Writing} → ((n : ℕ) → r ≡ Ok n → ⊥) → ((w t : List ℕ) (l : L) (fs : List Field) → s ≡ w ++ t → Head w l fs → length fs ≤ most → OneLine fs → length old < length (plain l fs)) → Restated Head Default plain s old r old

-- what was asked for: a kind of head, by the rules that the settings choose, or a chunk size line, which has no plain form
pub data Restatement (settings : Settings) (s old : List ℕ) : Kind → Writing → List ℕ → Type 0 where
  request : {r : Writing} {new : List ℕ} → Restated (IsRequestHead (request_rules settings)) (IsRequestHead default) plain_request s old r new → Restatement settings s old Request r new
  response : {r : Writing} {new : List ℕ} → Restated (IsResponseHead (response_rules settings)) (IsResponseHead default) plain_response s old r new → Restatement settings s old Response r new
  headers : {r : Writing} {new : List ℕ} → Restated BlockAlone BlockAlone (λ l fs. plain_fields fs) s old r new → Restatement settings s old Headers r new
  chunk : Restatement settings s old Chunk (Err Unwritable) old
