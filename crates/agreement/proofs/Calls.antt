-- The readers of the calls are exact for the grammar, and so the calls keep their promises.
-- Assumes nothing.
use Rattle.std.specs.Prelude.{ℕ, ◌+◌, ◌-◌, ◌/◌, ◌≤◌, ◌≡◌, refl, List, [], ◌++◌, true, false, length, take, Err, Ok}
use Rattle.std.proofs.Common.{arith, sym, ap, subst, ◌∙◌}
use Rattle.reader.specs.Tests.{never}
use Rattle.reader.specs.Seq.{first}
use Rattle.reader.specs.Answer.{got, short, bad, lapwise}
use Rattle.reader.proofs.Answer.{answered, answered_bad, bad_stays}
use Rattle.rules.specs.Rules.{Rules, default}
use Rattle.rules.specs.declared.Settings.{Settings}
use Rattle.rules.specs.Settings.{request_rules, response_rules}
use Rattle.grammar.specs.Fields.{Field}
use Rattle.grammar.specs.Message.{IsHeaderBlock, IsRequestLine, IsRequestHead, IsStatusLine, IsResponseHead}
use Rattle.parts.specs.declared.Fault.{Fault}
use Rattle.parts.specs.declared.Unread.TheVariants.{More, Bad}
use Rattle.parts.specs.EmptyLines.{start}
use Rattle.parts.specs.Answers.{Passed}
use Rattle.fields.specs.declared.Header.{Header}
use Rattle.blocks.specs.declared.Block.{Block}
use Rattle.blocks.specs.Slots.{filled}
use Rattle.blocks.specs.Block.{Blocks, block_step, block}
use Rattle.blocks.specs.Block as blocks
use Rattle.requestline.specs.declared.RequestLine.{RequestLine}
use Rattle.statusline.specs.declared.StatusLine.{StatusLine}
use Rattle.requestline.specs.RequestLine as requests
use Rattle.statusline.specs.StatusLine as statuses
use Rattle.startline.specs.Answers.{tell}
use Rattle.heads.specs.Head.{Heads, Known, given, Told}
use Rattle.heads.specs.Calls.{request, response}
use Rattle.agreement.specs.Block.{exact_block}
use Rattle.agreement.specs.StartLine.{exact_request_line, exact_status_line}
use Rattle.agreement.specs.Places.{at_start}
use Rattle.agreement.specs.Fields.{fields_of, block_derived, block_read, block_over, few_fields, Each, fields_in, HeaderIs, fields_are}
use Rattle.agreement.specs.Colons.{HeaderToColon, SlotsToColon, SlotsAtOnce}
use Rattle.agreement.proofs.Colons.{fields_to_colon, slots_at_once}
use Rattle.agreement.specs.FieldLine.{HeaderIn}
use Rattle.agreement.proofs.Inside.{request_line_in, status_line_in}
use Rattle.agreement.specs.Full.{request_refuses, status_refuses, block_full}
use Rattle.agreement.specs.Starts.{Fixed}
use Rattle.agreement.specs.Known.{RequestSays, StatusSays, RequestInside, StatusInside}
use Rattle.agreement.specs.Request.{request_derived, request_read}
use Rattle.agreement.specs.Response.{response_derived, response_read}
use Rattle.agreement.specs.Exactly.{Found, Exactly, Lies}
use Rattle.agreement.proofs.Exactly.{exactly, given_over, head_lies}
use Rattle.agreement.proofs.Decided.{over_bad, head_fault, block_fault, fault_promise, request_takes, status_takes}
use Rattle.agreement.specs.Promises.{HeadPromise, FaultAt, FaultPromise, BlockAlone, SaysNothing, LiesNowhere}
use Rattle.agreement.proofs.Kept.{kept}
use Rattle.agreement.specs.Calls.{alone, headers_of}

module _ {r : Rules} (fixed : Fixed r) (n : ℕ) where
  pub request_exactly : Exactly (IsRequestHead r) RequestSays n (request r n)
  unfolding request
  request_exactly =
      exactly r n (requests.request_line_step r) requests.line_known (first start) (exact_request_line r) (request_refuses r) (IsRequestLine r) RequestSays
      (λ z w rest k h g. request_derived fixed h g) (λ z e l c rest g h a b d. request_read fixed h a b d)

  pub response_exactly : Exactly (IsResponseHead r) StatusSays n (response r n)
  unfolding response
  response_exactly =
      exactly r n (statuses.status_line_step r) statuses.line_known (first start) (exact_status_line r) (status_refuses r) (IsStatusLine r) StatusSays
      (λ z w rest k h g. response_derived fixed h g) (λ z e l c rest g h a b d. response_read fixed h a b d)

module _ (r : Rules) (n : ℕ) where
  request_lies : Lies r (RequestInside r) (request r n)
  unfolding request
  request_lies = head_lies r n (requests.request_line_step r) requests.line_known (first start) (RequestInside r) (request_line_in r)

  response_lies : Lies r StatusInside (response r n)
  unfolding response
  response_lies = head_lies r n (statuses.status_line_step r) statuses.line_known (first start) StatusInside (status_line_in r)

got_block : (b : Blocks) (k : Unit {0}) (hs : List Header) (q : ℕ) → ◌≡◌ {A = Heads (Unit {0})} (alone b) (got (k, hs) q) → b ≡ got hs q
got_block (got x p) k hs q e = let u : ◌≡◌ {A = Known (Unit {0})} (tt, x) (k, hs) = cc in let v : p ≡ q = cc in rw v (ap (λ y. got y.1 q) u)
got_block (short x) k hs q e = never cc
got_block (bad x) k hs q e = never cc

module _ (n : ℕ) where
  found_block : (z : List ℕ) (k : Unit {0}) (hs : List Header) (q : ℕ) → headers_of n z ≡ got (k, hs) q → Found BlockAlone SaysNothing n z k hs q
  found_block z k hs q e =
      let P = (exact_block default n).sound 0 z hs q (answered (lapwise (λ hs _. hs)) _ (got_block (block default n [] z 0) k hs q e)) in
      let A = block_derived (record { before = []; whole = P.whole; place = refl }) P.holds in
      record {
        w = P.w;
        rest = P.rest;
        l = tt;
        whole = P.whole;
        place = omega (arith, P.place);
        head = subst (λ y. IsHeaderBlock default true P.w (fields_of z y)) (sym A.whole) A.block;
        says = tt;
        fits = A.fits (omega arith);
      }

  pub headers_exactly : Exactly BlockAlone SaysNothing n (headers_of n)
  headers_exactly = record {
    sound = found_block;
    complete = λ w rest l fs h f.
        let F = block_read (w ++ rest) default n (at_start w rest) h [] refl (omega (arith, f)) in
        let q : 0 + length w ≡ length w = omega arith in
        record { k = tt; hs = F.new; says = tt; holds = F.holds; answers = ap alone F.answers ∙ ap (got (tt, F.new)) q };
    too_many = λ w rest l fs h f.
        let F = block_over (w ++ rest) default n (at_start w rest) h [] refl (omega arith) (omega (arith, f)) in
        let j : n - 0 ≡ n = omega arith in
        (F.position, record { k = tt; hs = F.new; says = tt; holds = F.holds ∙ ap (λ y. take y fs) j; answers = ap alone F.answers });
    few = λ z. subst (λ y. length y ≤ n) (sym (given_over tt (block default n [] z 0))) (few_fields z default n [] 0 (omega arith));
    full = λ z x e. let u = answered_bad (lapwise (λ hs _. hs)) _ (over_bad {K = Unit {0}} tt (block default n [] z 0) x e) in (block_full default n z (x.0, x.1.1) u.0 u.1).full;
    stays = λ s u x e. ap alone (bad_stays (lapwise (λ hs _. hs)) (block_step default n) s u ([], first tt) 0 (over_bad {K = Unit {0}} tt (block default n [] s 0) x e));
  }

headers_lie : (n : ℕ) → Lies default LiesNowhere (headers_of n)
headers_lie n = record {
  line = λ z. tt;
  fields = λ z. subst (Each (HeaderIn (length z))) (same z) (fields_in z default n [] 0 tt);
  are = λ z. subst (Each (HeaderIs z default)) (same z) (fields_are z default n [] 0 tt);
  colons = λ z. subst (Each (HeaderToColon z default)) (same z) (fields_to_colon z default n [] 0 tt);
}
  where
    same : (z : List ℕ) → blocks.given (block default n [] z 0) ≡ given (headers_of n z)
    same z = sym (given_over tt (block default n [] z 0))

module _ {r : Rules} (fixed : Fixed r) {s old : List ℕ} {end : Passed} {count : ℕ} {new : List ℕ} where
  pub request_promise : {line : RequestLine} → Told (request r (length old / 4) s) end line count old new → HeadPromise r (IsRequestHead r) RequestSays (RequestInside r) s old end line count new
  request_promise T = kept (request_exactly fixed (length old / 4)) (request_lies r (length old / 4)) T

  pub response_promise : {line : StatusLine} → Told (response r (length old / 4) s) end line count old new → HeadPromise r (IsResponseHead r) StatusSays StatusInside s old end line count new
  response_promise T = kept (response_exactly fixed (length old / 4)) (response_lies r (length old / 4)) T

-- where each error of a reader lies
module _ (r : Rules) (n : ℕ) where
  pub request_at : (z : List ℕ) (x : Fault × Known RequestLine) → request r n z ≡ bad x → FaultAt r n (request r n) z x.0
  unfolding request
  request_at = head_fault r n (requests.request_line_step r) requests.line_known (first start) (request_refuses r) (request_takes r)

  pub response_at : (z : List ℕ) (x : Fault × Known StatusLine) → response r n z ≡ bad x → FaultAt r n (response r n) z x.0
  unfolding response
  response_at = head_fault r n (statuses.status_line_step r) statuses.line_known (first start) (status_refuses r) (status_takes r)

module _ (r : Rules) {s old : List ℕ} {end : Passed} {count : ℕ} {new : List ℕ} where
  pub request_fault : {line : RequestLine} → Told (request r (length old / 4) s) end line count old new → FaultPromise r (length old / 4) (request r (length old / 4)) s end
  request_fault T = fault_promise (request_at r (length old / 4)) T

  pub response_fault : {line : StatusLine} → Told (response r (length old / 4) s) end line count old new → FaultPromise r (length old / 4) (response r (length old / 4)) s end
  response_fault T = fault_promise (response_at r (length old / 4)) T

tell_alone : (end : Passed) (hs : List Header) → tell end (tt, hs) ≡ alone (blocks.tell end hs)
tell_alone (Ok q) hs = refl
tell_alone (Err More) hs = refl
tell_alone (Err (Bad e)) hs = refl

pub alone_told : {b : Blocks} {r : Block} {old new : List ℕ} → blocks.Told b r old new → Told (alone b) r.end tt r.count old new
alone_told {b} {r} {old} T =
    let g : given (alone b) ≡ blocks.given b = given_over tt b in
    record {
      answer = ap (λ y. tell r.end (tt, y)) g ∙ tell_alone r.end (blocks.given b) ∙ ap alone T.answer;
      count_is = T.count ∙ ap length (sym g);
      slots = T.slots ∙ ap (λ y. filled y old) (sym g);
    }

pub headers_promise : {s old : List ℕ} {r : Block} {new : List ℕ} → blocks.Told (block default (length old / 4) [] s 0) r old new → HeadPromise default BlockAlone SaysNothing LiesNowhere s old r.end tt r.count new
headers_promise {s} {old} T = kept (headers_exactly (length old / 4)) (headers_lie (length old / 4)) (alone_told T)

pub headers_fault : {s old : List ℕ} {r : Block} {new : List ℕ} → blocks.Told (block default (length old / 4) [] s 0) r old new → FaultPromise default (length old / 4) (headers_of (length old / 4)) s r.end
headers_fault {s} {old} T = fault_promise (block_fault default (length old / 4)) (alone_told T)

-- between a name and its colon nothing stands in a request, whatever is set, in headers alone, and in a response without spaces after names;
-- in a response with them, spaces and tabs
module _ {L K : Type 0} {Head : List ℕ → L → List Field → Type 0} {Says : List ℕ → K → L → Type 0} {In : List ℕ → K → Type 0} {s old : List ℕ} {end : Passed} {line : K} {count : ℕ} {new : List ℕ} where
  pub request_colons : (settings : Settings) → HeadPromise (request_rules settings) Head Says In s old end line count new → SlotsAtOnce s count new
  request_colons settings P = slots_at_once s count new P.colons

  pub headers_colons : HeadPromise default Head Says In s old end line count new → SlotsAtOnce s count new
  headers_colons P = slots_at_once s count new P.colons

  pub response_colons_off : (settings : Settings) → settings.spaces_after_name ≡ false → HeadPromise (response_rules settings) Head Says In s old end line count new → SlotsAtOnce s count new
  response_colons_off settings e P = slots_at_once s count new (rw e at P.colons)

  pub response_colons : (settings : Settings) → HeadPromise (response_rules settings) Head Says In s old end line count new → SlotsToColon settings.spaces_after_name s count new
  response_colons settings P = P.colons
