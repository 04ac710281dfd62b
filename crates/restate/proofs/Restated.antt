-- What restating an input comes to: the plain form of the head at its start, wherever there is one that fits.
-- Assumes nothing.
use Rattle.std.specs.Prelude.{ℕ, ◌/◌, ◌≤◌, ◌<◌, ◌≡◌, refl, List, ◌++◌, Bool, true, false, ltb, length, Err, Ok}
use Rattle.std.proofs.Common.{sym, ap, subst, ◌∙◌, ltb-true, ltb-false}
use Rattle.reader.specs.Tests.{never}
use Rattle.rules.specs.declared.Settings.{Settings}
use Rattle.rules.specs.Rules.{Rules, default}
use Rattle.rules.specs.Settings.{request_rules, response_rules}
use Rattle.grammar.specs.Fields.{Field}
use Rattle.grammar.specs.Message.{IsRequestHead, IsResponseHead}
use Rattle.requestline.specs.declared.RequestLine.{RequestLine}
use Rattle.statusline.specs.declared.StatusLine.{StatusLine}
use Rattle.heads.specs.declared.Head.{Head}
use Rattle.blocks.specs.declared.Block.{Block}
use Rattle.agreement.specs.Known.{fields_in}
use Rattle.agreement.specs.Starts.{request_fixed, response_fixed}
use Rattle.agreement.specs.Promises.{HeadPromise, BlockAlone}
use Rattle.plain.proofs.OneLine.{block_off}
use Rattle.plain.proofs.OneLineHead.{head_off}
use Rattle.plain.specs.Plain.{OneLine, plain_request, plain_response, plain_fields}
use Rattle.places.specs.Lies.{request_of, status_of, Complete, RequestLies, ResponseLies, BlockLies}
use Rattle.wording.specs.declared.Kind.{Kind}
use Rattle.wording.specs.declared.Kind.TheVariants.{Request, Response, Headers, Chunk}
use Rattle.writer.specs.declared.Unwritten.{Unwritten}
use Rattle.writer.specs.declared.Unwritten.TheVariants.{Needs, Unwritable, TooLong}
use Rattle.writer.specs.Promise.{Writing, request_form, response_form, block_form, PlainPromise, written, needs, unwritable, too_long}
use Rattle.onereading.specs.Statements.{CanBeWritten}
use Rattle.onereading.specs.RoundTrip.{RequestPromise, ResponsePromise, by_default, by_own, BlockPromise}
use Rattle.onereading.proofs.RoundTrip.{default_takes, own_takes, request_told, request_written, request_plain, status_told, response_written, response_plain, headers_written, headers_plain}
use Rattle.restate.specs.Restated.{Restated, Restatement, chunk, form, headers, most, nothing, request, response}
use Rattle.parts.specs.Answers.{Passed}

-- why nothing was written is not that something was
unwritten : (u : Unwritten) (m : ℕ) → Err u ≡ Ok m → ⊥
unwritten u m e = never cc

module _ {L K : Type 0} {rules : Rules} {Head : List ℕ → L → List Field → Type 0} {Says : List ℕ → K → L → Type 0} {In : List ℕ → K → Type 0} (told : List ℕ → K → L) (plain : L → List Field → List ℕ)
    (told_said : (z : List ℕ) (k : K) (w : List ℕ) (l : L) (fs : List Field) → Head w l fs → Says z k l → told z k ≡ l)
    {s slots : List ℕ} {end : Passed} {line : K} {count : ℕ} {new : List ℕ} (P : HeadPromise rules Head Says In s slots end line count new) (many : length slots ≡ 400) where
  abbrev plainly : List ℕ
  plainly = plain (told s line) (fields_in s count new)

  -- where nothing was written, a head that fits has no room
  short_of_room : (out : List ℕ) {r : Writing} → ((q : ℕ) → end ≡ Ok q → OneLine (fields_in s count new) → CanBeWritten plainly out r) → ((n : ℕ) → r ≡ Ok n → ⊥) → (w t : List ℕ) (l : L) (fs : List Field) → s ≡ w ++ t → Head w l fs → length fs ≤ most → OneLine fs → length out < length (plain l fs)
  short_of_room out can not w t l fs e h f o = subst (λ y. length out < length y) same (by (ltb (length out) (length plainly)) refl)
    where
      fits : length fs ≤ length slots / 4
      fits = subst (λ y. length fs ≤ y / 4) (sym many) f

      same : plainly ≡ plain l fs
      same = let A = P.accepts w t l fs e h fits in ap (λ y. plain y (fields_in s count new)) (told_said s line w l fs h A.1) ∙ ap (plain l) A.2

      by : (b : Bool) → ltb (length out) (length plainly) ≡ b → length out < length plainly
      by true t = ltb-true (length out) (length plainly) t
      by false t = absurd (not (length plainly) ((can (length w) (P.accepts w _ l fs e h fits).0 (subst OneLine (sym (P.accepts w _ l fs e h fits).2) o)).0 (ltb-false (length out) (length plainly) t)))

  restated : {Default : List ℕ → L → List Field → Type 0} {Writable : Type 0} {out : List ℕ} {r : Writing} {out' : List ℕ} → PlainPromise s Writable plainly out r out' → (Writable → ((q : ℕ) × (end ≡ Ok q)) × OneLine (fields_in s count new)) → ((q : ℕ) → end ≡ Ok q → OneLine (fields_in s count new) → CanBeWritten plainly out r) →
      ((q : ℕ) → end ≡ Ok q → OneLine (fields_in s count new) → Head plainly (told s line) (fields_in s count new) × Default plainly (told s line) (fields_in s count new)) → Restated Head Default plain s out r out'
  restated (written v l h e) reach can head =
      let q = (reach v).0 in
      let H = P.complete q.0 q.1 in
      let plain_heads = head q.0 q.1 (reach v).1 in
      form H.rest H.whole (subst (λ y. Head H.bytes y (fields_in s count new)) (sym (told_said s line H.bytes H.said (fields_in s count new) H.head H.says)) H.head) plain_heads.0 plain_heads.1 l e
  restated {out = out} (needs {n = n} v l h g) reach can head = nothing (unwritten (Needs n)) (short_of_room out can (unwritten (Needs n)))
  restated {out = out} (unwritable v) reach can head = nothing (unwritten Unwritable) (short_of_room out can (unwritten Unwritable))
  restated {out = out} (too_long v l g h) reach can head = nothing (unwritten TooLong) (short_of_room out can (unwritten TooLong))

end_of : {e : Passed} → Complete e → (q : ℕ) × (e ≡ Ok q)
end_of (Complete.at q) = (q, refl)

module _ {s slots : List ℕ} {out : List ℕ} {r : Writing} {out' new : List ℕ} where
  pub restated_request : (settings : Settings) {head : Head RequestLine} → RequestPromise (request_rules settings) s slots head new → length slots ≡ 400 → PlainPromise s (RequestLies s head new) (request_form s head new) out r out' → Restated (IsRequestHead (request_rules settings)) (IsRequestHead default) plain_request s out r out'
  restated_request settings P m W =
      let fixed = request_fixed settings in
      restated request_of plain_request (request_told fixed) P m W (λ v. let q = end_of v.complete in (q, head_off refl (P.complete q.0 q.1).head)) (λ q e o. request_written fixed refl P e W) (λ q e o. (request_plain fixed refl P e own_takes, request_plain fixed refl P e default_takes))

  pub restated_response : (settings : Settings) {head : Head StatusLine} → ResponsePromise (response_rules settings) s slots head new → length slots ≡ 400 → PlainPromise s (ResponseLies s head new) (response_form s head new) out r out' → Restated (IsResponseHead (response_rules settings)) (IsResponseHead default) plain_response s out r out'
  restated_response settings P m W =
      let fixed = response_fixed settings in
      restated status_of plain_response (status_told fixed) P m W (λ v. (end_of v.complete, v.lines)) (λ q e o. response_written fixed P e o W) (λ q e o. (response_plain fixed P e o by_own, response_plain fixed P e o by_default))

  pub restated_headers : {block : Block} → BlockPromise s slots block new → length slots ≡ 400 → PlainPromise s (BlockLies s block new) (block_form s block new) out r out' → Restated BlockAlone BlockAlone (λ l fs. plain_fields fs) s out r out'
  restated_headers P m W =
      restated (λ z k. k) (λ l fs. plain_fields fs) (λ z k w l fs h a. refl) P m W (λ v. let q = end_of v.complete in (q, block_off refl (P.complete q.0 q.1).head)) (λ q e o. headers_written P e W) (λ q e o. (headers_plain P e default, headers_plain P e default))

module _ {settings : Settings} {s old : List ℕ} {kind : Kind} where
  pub as_request : kind ≡ Request → {r : Writing} {new : List ℕ} → Restated (IsRequestHead (request_rules settings)) (IsRequestHead default) plain_request s old r new → Restatement settings s old kind r new
  as_request e {r} {new} x = subst (λ k. Restatement settings s old k r new) (sym e) (request x)

  pub as_response : kind ≡ Response → {r : Writing} {new : List ℕ} → Restated (IsResponseHead (response_rules settings)) (IsResponseHead default) plain_response s old r new → Restatement settings s old kind r new
  as_response e {r} {new} x = subst (λ k. Restatement settings s old k r new) (sym e) (response x)

  pub as_headers : kind ≡ Headers → {r : Writing} {new : List ℕ} → Restated BlockAlone BlockAlone (λ l fs. plain_fields fs) s old r new → Restatement settings s old kind r new
  as_headers e {r} {new} x = subst (λ k. Restatement settings s old k r new) (sym e) (headers x)

  pub as_chunk : kind ≡ Chunk → {r : Writing} → r ≡ Err Unwritable → Restatement settings s old kind r old
  as_chunk e {r} f = subst (λ k. Restatement settings s old k r old) (sym e) (subst (λ y. Restatement settings s old Chunk y old) (sym f) chunk)

pub ruleset restatements = (restated_request, restated_response, restated_headers, as_request, as_response, as_headers, as_chunk)
