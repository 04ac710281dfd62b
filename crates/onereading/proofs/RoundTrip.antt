-- What was read can be written; a call on what was written is complete at its end and gives the same fields back; and written again
-- these are the same bytes.
-- Assumes nothing.
use Rattle.std.specs.Prelude.{ℕ, ◌*◌, ◌/◌, ◌≤◌, ◌≡◌, refl, List, ◌++◌, true, false, length, take, drop, Err, None, Ok, Option, Some}
use Rattle.std.proofs.Common.{arith, sym, ap, subst, ◌∙◌, length-append, take_at}
use Rattle.rules.specs.Rules.{Rules, strict, default}
use Rattle.grammar.specs.Rows.{Many}
use Rattle.grammar.specs.Fields.{Field}
use Rattle.grammar.specs.Message.{Version, IsRequestTarget, IsRequestHead, IsStatusCode, IsResponseHead, IsHeaderBlock}
use Rattle.grammar.specs.Message as grammar
use Rattle.parts.specs.declared.Piece.{Piece}
use Rattle.parts.specs.Answers.{Passed}
use Rattle.requestline.specs.declared.RequestLine.{RequestLine}
use Rattle.statusline.specs.declared.StatusLine.{StatusLine}
use Rattle.heads.specs.declared.Head.{Head}
use Rattle.blocks.specs.declared.Block.{Block}
use Rattle.agreement.specs.Starts.{Fixed, default_fixed}
use Rattle.agreement.specs.Known.{Holds, Counts, RequestSays, StatusSays, Inside, fields_in}
use Rattle.agreement.proofs.Kept.{fields_counted}
use Rattle.agreement.specs.Promises.{HeadPromise, BlockAlone, SaysNothing}
use Rattle.plain.proofs.OneLine.{block_off}
use Rattle.plain.proofs.OneLineHead.{head_off}
use Rattle.plain.specs.Plain.{OneLine, plain_code, plain_request, plain_response, plain_fields}
use Rattle.plain.proofs.Derived.{plain_block, plain_request_under, target_default, plain_request_strict, plain_response_own, plain_response_derived, plain_response_strict}
use Rattle.startline.specs.Answers.{number_of}
use Rattle.plain.specs.Short.{request_short, response_short, block_short}
use Rattle.places.specs.Lies.{bytes_of, one_point, request_of, status_of, Complete, Lies, AtMost, RequestLies, ResponseLies, BlockLies}
use Rattle.writer.specs.declared.Unwritten.TheVariants.{Unwritable}
use Rattle.writer.specs.Promise.{Writing, request_form, response_form, block_form, PlainPromise, was_written, refused, writes, asks}
use Rattle.onereading.specs.Statements.{CanBeWritten, ReadBack, WrittenAgain}
use Rattle.onereading.proofs.Derivation.{request_one, response_one}
use Rattle.onereading.specs.RoundTrip.{Again, BlockPromise, RequestPromise, ResponsePromise, Takes, by_default, by_own}

-- a kind of head, by the rules of the first call and (with a prime) of the second: how a call tells its line, what is told, and the plain
-- form of it
module _ {L K : Type 0} {Head Head' : List ℕ → L → List Field → Type 0} {Says : List ℕ → K → L → Type 0} {In : List ℕ → K → Type 0} (told : List ℕ → K → L) (plain : L → List Field → List ℕ) (told_said : (z : List ℕ) (k : K) (w : List ℕ) (l : L) (fs : List Field) → Head w l fs → Says z k l → told z k ≡ l)
    (told_said' : (z : List ℕ) (k : K) (w : List ℕ) (l : L) (fs : List Field) → Head' w l fs → Says z k l → told z k ≡ l) (derived : (w : List ℕ) (l : L) (fs : List Field) → Head w l fs → OneLine fs → Head' (plain l fs) l fs) where
  -- a call is complete, with values that stand on one line each
  module _ {r : Rules} {s old : List ℕ} {end : Passed} {line : K} {count : ℕ} {new : List ℕ} (P : HeadPromise r Head Says In s old end line count new) {q : ℕ} (e : end ≡ Ok q) (o : OneLine (fields_in s count new)) where
    abbrev form : List ℕ
    form = plain (told s line) (fields_in s count new)

    said : told s line ≡ (P.complete q e).said
    said = let H = P.complete q e in told_said s line H.bytes H.said (fields_in s count new) H.head H.says

    form_derived : Head' form (told s line) (fields_in s count new)
    form_derived =
        let H = P.complete q e in
        subst (λ y. Head' (plain y (fields_in s count new)) y (fields_in s count new)) (sym said) (derived H.bytes H.said (fields_in s count new) H.head o)

    -- with room its plain form is written, and without it is asked for, since it is at most twice as long as what was read
    can_write : ((w : List ℕ) (l : L) (fs : List Field) → Head w l fs → length (plain l fs) ≤ length w * 2) → {Writable : Type 0} {out : List ℕ} {x : Writing} {out' : List ℕ} → PlainPromise s Writable form out x out' → Writable → CanBeWritten form out x
    can_write short W v =
        let H = P.complete q e in
        let l : length form ≤ length H.bytes * 2 = subst (λ y. length (plain y (fields_in s count new)) ≤ length H.bytes * 2) (sym said) (short H.bytes H.said (fields_in s count new) H.head) in
        (writes W v, asks W v (omega (arith, l, ap length H.whole, length-append H.bytes H.rest)))

    -- its plain form is written over out, and what begins with the bytes written is read by a call with slots enough
    module _ {Writable : Type 0} {out : List ℕ} {x : Writing} {out' : List ℕ} {n : ℕ} (W : PlainPromise s Writable form out x out') (w : x ≡ Ok n) where
      bytes_written : take n out' ≡ form
      bytes_written = let y = was_written W w in ap (take n) y.3 ∙ take_at form (drop n out) n (sym y.1)

      module _ {r' : Rules} {In' : List ℕ → K → Type 0} (t : List ℕ) {z old' : List ℕ} {end' : Passed} {line' : K} {count' : ℕ} {new' : List ℕ} (b : z ≡ take n out' ++ t) (Q : HeadPromise r' Head' Says In' z old' end' line' count' new') (room : count ≤ length old' / 4) where
        back : ReadBack Says told s line count new n z end' line' count' new'
        back =
            let y = was_written W w in
            let A = Q.accepts form t (told s line) (fields_in s count new) (b ∙ ap (λ y. y ++ t) bytes_written) form_derived (omega (arith, room, fields_counted s count new)) in
            let l = told_said' z line' form (told s line) (fields_in s count new) form_derived A.1 in
            record {
              end = A.0 ∙ ap Ok (sym y.1);
              says_again = A.1;
              line_again = l;
              fields_again = A.2;
            }

        -- and what was read back is written once more, with room enough
        again : {Writable₂ : Type 0} {out₂ : List ℕ} {r₂ : Writing} {out₂' : List ℕ} → PlainPromise z Writable₂ (plain (told z line') (fields_in z count' new')) out₂ r₂ out₂' → Writable₂ → n ≤ length out₂ → WrittenAgain n out' r₂ out₂'
        again {out₂ = out₂} {out₂' = out₂'} X v h =
            let once = was_written W w in
            let f : plain (told z line') (fields_in z count' new') ≡ form = ap (λ y. plain y (fields_in z count' new')) back.line_again ∙ ap (plain (told s line)) back.fields_again in
            let m : length (plain (told z line') (fields_in z count' new')) ≡ n = ap length f ∙ sym once.1 in
            let e = writes X v (omega (arith, m, h)) ∙ ap Ok m in
            let y = was_written X e in
            (e, ap (take n) y.3 ∙ take_at (plain (told z line') (fields_in z count' new')) (drop n out₂) n m ∙ f ∙ sym bytes_written)

-- what a call said in places is what the writer finds there
bytes_held : (z : List ℕ) (a : Option Piece) {w : List ℕ} → Holds z a w → bytes_of z a ≡ w
bytes_held z (Some a) h = h
bytes_held z None h = absurd h

number_counted : (a : Option ℕ) {n : ℕ} → Counts a n → number_of a ≡ n
number_counted (Some a) h = h
number_counted None h = absurd h

held_lies : (Such : List ℕ → Type 0) (z : List ℕ) (a : Option Piece) (w : List ℕ) → Holds z a w → Inside Such z a → Lies z a
held_lies Such z (Some a) w h i = Lies.known a i.0
held_lies Such z None w h i = absurd h

counted_most : (m : ℕ) (a : Option ℕ) {n : ℕ} → Counts a n → n ≤ m → AtMost m a
counted_most m (Some a) h l = AtMost.known a (omega (arith, h, l))
counted_most m None h l = absurd h

reached : {e : Passed} {q : ℕ} → e ≡ Ok q → Complete e
reached {q = q} h = subst Complete (sym h) (Complete.at q)

version_is : (n : ℕ) (v : Version) → v.major ≡ 1 → n ≡ v.minor → one_point n ≡ v
version_is n v h e = ap (λ y. record { major = y; minor = n }) (sym h) ∙ ap (λ y. record { major = v.major; minor = y }) e

pub request_told : {r : Rules} → Fixed r → (z : List ℕ) (k : RequestLine) (w : List ℕ) (l : grammar.RequestLine) (fs : List Field) → IsRequestHead r w l fs → RequestSays z k l → request_of z k ≡ l
request_told fixed z k w l fs h a =
    ap (λ y. record { method = y; target = bytes_of z k.target; version = one_point (number_of k.version) }) (bytes_held z k.method a.method)
    ∙ ap (λ y. record { method = l.method; target = y; version = one_point (number_of k.version) }) (bytes_held z k.target a.target)
    ∙ ap (λ y. record { method = l.method; target = l.target; version = y }) (version_is (number_of k.version) l.version (request_one fixed h).0 (number_counted k.version a.version))

pub default_takes : {r : Rules} → Takes r default
default_takes t = target_default

pub own_takes : {r : Rules} → Takes r r
own_takes t h = h

module _ {r r' : Rules} (fixed : Fixed r) (takes : Takes r r') where
  request_derived : (w : List ℕ) (l : grammar.RequestLine) (fs : List Field) → IsRequestHead r w l fs → OneLine fs → IsRequestHead r' (plain_request l fs) l fs
  request_derived w l fs h o = plain_request_under o fixed.known_versions (takes l.target) h

-- no setting lets a value of a request go on over several lines
module _ {r : Rules} (fixed : Fixed r) (off : r.multiline_headers ≡ false) {s old : List ℕ} {head : Head RequestLine} {new : List ℕ} (P : RequestPromise r s old head new) {q : ℕ} (e : head.end ≡ Ok q) where
  -- every complete answer can be written
  pub request_writable : RequestLies s head new
  request_writable =
      let H = P.complete q e in
      record {
        complete = reached e;
        method = held_lies grammar.IsMethod s head.line.method H.said.method H.says.method P.inside.0.method;
        target = held_lies (IsRequestTarget r) s head.line.target H.said.target H.says.target P.inside.0.target;
        version = counted_most 9 head.line.version H.says.version (request_one fixed H.head).1;
        headers = record { room = omega (arith, P.within.0, P.within.1); inside = P.inside.1 };
      }

  pub request_written : {out : List ℕ} {x : Writing} {out' : List ℕ} → PlainPromise s (RequestLies s head new) (request_form s head new) out x out' → CanBeWritten (request_form s head new) out x
  request_written W = can_write request_of plain_request (request_told fixed) (request_told default_fixed) (request_derived fixed default_takes) P e (head_off off (P.complete q e).head) (λ w l fs. request_short) W request_writable

  -- what is written is a head under all rules that take its target, with the same fields: under default, under the same, and under strict if
  -- the target is strict
  pub request_plain : {r' : Rules} → Takes r r' → IsRequestHead r' (request_form s head new) (request_of s head.line) (fields_in s head.count new)
  request_plain {r'} takes =
      let H = P.complete q e in
      let fs : List Field = fields_in s head.count new in
      subst (λ y. IsRequestHead r' (plain_request y fs) y fs) (sym (request_told fixed s head.line H.bytes H.said fs H.head H.says)) (request_derived fixed takes H.bytes H.said fs H.head (head_off off H.head))

  pub request_plain_strict : IsRequestTarget strict (request_of s head.line).target → IsRequestHead strict (request_form s head new) (request_of s head.line) (fields_in s head.count new)
  request_plain_strict t = plain_request_strict (head_off off (P.complete q e).head) (request_plain default_takes) t

module _ {r r' : Rules} (fixed : Fixed r) (fixed' : Fixed r') (off : r.multiline_headers ≡ false) (off' : r'.multiline_headers ≡ false) (takes : Takes r r') {s old : List ℕ} {head : Head RequestLine} {new : List ℕ} (P : RequestPromise r s old head new) {q : ℕ} (e : head.end ≡ Ok q) {Writable : Type 0} {out : List ℕ} {x : Writing} {out' : List ℕ} {n : ℕ} (W : PlainPromise s Writable (request_form s head new) out x out') (w : x ≡ Ok n) (t : List ℕ) {z old' : List ℕ} {head' : Head RequestLine} {new' : List ℕ} (b : z ≡ take n out' ++ t) (Q : RequestPromise r' z old' head' new') (room : head.count ≤ length old' / 4) where
  -- a call on the bytes written, with anything behind them, is complete at their end and gives the same fields back
  pub request_back : ReadBack RequestSays request_of s head.line head.count new n z head'.end head'.line head'.count new'
  request_back = back request_of plain_request (request_told fixed) (request_told fixed') (request_derived fixed takes) P e (head_off off (P.complete q e).head) W w t b Q room

  -- what was read back is written as the same bytes
  pub request_again : {out₂ : List ℕ} {r₂ : Writing} {out₂' : List ℕ} → PlainPromise z (RequestLies z head' new') (request_form z head' new') out₂ r₂ out₂' → n ≤ length out₂ → WrittenAgain n out' r₂ out₂'
  request_again X h = again request_of plain_request (request_told fixed) (request_told fixed') (request_derived fixed takes) P e (head_off off (P.complete q e).head) W w t b Q room X (request_writable fixed' off' Q request_back.end) h

pub status_told : {r : Rules} → Fixed r → (z : List ℕ) (k : StatusLine) (w : List ℕ) (l : grammar.StatusLine) (fs : List Field) → IsResponseHead r w l fs → StatusSays z k l → status_of z k ≡ l
status_told fixed z k w l fs h a =
    ap (λ y. record { version = y; code = number_of k.code; reason = bytes_of z k.reason }) (version_is (number_of k.version) l.version (response_one fixed h).0 (number_counted k.version a.version))
    ∙ ap (λ y. record { version = l.version; code = y; reason = bytes_of z k.reason }) (number_counted k.code a.code)
    ∙ ap (λ y. record { version = l.version; code = l.code; reason = y }) (bytes_held z k.reason a.reason)

again_fixed : {r r' : Rules} → Fixed r → Again r r' → Fixed r'
again_fixed fixed by_default = default_fixed
again_fixed fixed by_own = fixed

response_derived : {r r' : Rules} → Fixed r → Again r r' → (w : List ℕ) (l : grammar.StatusLine) (fs : List Field) → IsResponseHead r w l fs → OneLine fs → IsResponseHead r' (plain_response l fs) l fs
response_derived fixed by_default w l fs h o = plain_response_derived o fixed.known_versions fixed.obs_reason h
response_derived fixed by_own w l fs h o = plain_response_own o h

-- a response has a plain form where its values stand on one line each, which they do unless a setting lets them go on over several
module _ {r : Rules} (fixed : Fixed r) {s old : List ℕ} {head : Head StatusLine} {new : List ℕ} (P : ResponsePromise r s old head new) {q : ℕ} (e : head.end ≡ Ok q) where
  pub response_lines : r.multiline_headers ≡ false → OneLine (fields_in s head.count new)
  response_lines off = head_off off (P.complete q e).head

  module _ (o : OneLine (fields_in s head.count new)) where
    -- every such answer that is complete can be written
    pub response_writable : ResponseLies s head new
    response_writable =
        let H = P.complete q e in
        let d = response_one fixed H.head in
        record {
          complete = reached e;
          version = counted_most 9 head.line.version H.says.version d.1;
          code = counted_most 999 head.line.code H.says.code d.2;
          reason = held_lies (Many grammar.IsAsciiText) s head.line.reason H.said.reason H.says.reason P.inside.0.reason;
          headers = record { room = omega (arith, P.within.0, P.within.1); inside = P.inside.1 };
          lines = o;
        }

    pub response_written : {out : List ℕ} {x : Writing} {out' : List ℕ} → PlainPromise s (ResponseLies s head new) (response_form s head new) out x out' → CanBeWritten (response_form s head new) out x
    response_written W = can_write status_of plain_response (status_told fixed) (status_told default_fixed) (response_derived fixed by_default) P e o (λ w l fs. response_short) W response_writable

    -- what is written is a head with the same fields under default and under its own rules, and under strict if the code is strict
    pub response_plain : {r' : Rules} → Again r r' → IsResponseHead r' (response_form s head new) (status_of s head.line) (fields_in s head.count new)
    response_plain a = form_derived status_of plain_response (status_told fixed) (status_told (again_fixed fixed a)) (response_derived fixed a) P e o

    pub response_plain_strict : IsStatusCode strict (plain_code (status_of s head.line).code) (status_of s head.line).code → IsResponseHead strict (response_form s head new) (status_of s head.line) (fields_in s head.count new)
    response_plain_strict c = plain_response_strict o (response_plain by_default) c

  -- and no other: where a value goes on over several lines, nothing is written, and no head without multi-line headers gives these fields
  pub response_unwritten : (OneLine (fields_in s head.count new) → ⊥) → {form out : List ℕ} {x : Writing} {out' : List ℕ} → PlainPromise s (ResponseLies s head new) form out x out' → (x ≡ Err Unwritable) × (out' ≡ out)
  response_unwritten n W = refused W (λ y. n y.lines)

  pub response_no_plain : (OneLine (fields_in s head.count new) → ⊥) → {r' : Rules} → r'.multiline_headers ≡ false → (w : List ℕ) (l : grammar.StatusLine) → IsResponseHead r' w l (fields_in s head.count new) → ⊥
  response_no_plain n off w l h = n (head_off off h)

module _ {r r' : Rules} (fixed : Fixed r) (a : Again r r') {s old : List ℕ} {head : Head StatusLine} {new : List ℕ} (P : ResponsePromise r s old head new) {q : ℕ} (e : head.end ≡ Ok q) {out : List ℕ} {x : Writing} {out' : List ℕ} {n : ℕ} (W : PlainPromise s (ResponseLies s head new) (response_form s head new) out x out') (w : x ≡ Ok n) (t : List ℕ) {z old' : List ℕ} {head' : Head StatusLine} {new' : List ℕ} (b : z ≡ take n out' ++ t) (Q : ResponsePromise r' z old' head' new') (room : head.count ≤ length old' / 4) where
  -- a call on the bytes written, with anything behind them, is complete at their end and gives the same fields back
  pub response_back : ReadBack StatusSays status_of s head.line head.count new n z head'.end head'.line head'.count new'
  response_back = back status_of plain_response (status_told fixed) (status_told (again_fixed fixed a)) (response_derived fixed a) P e (was_written W w).0.lines W w t b Q room

  -- what was read back is written as the same bytes
  pub response_again : {out₂ : List ℕ} {r₂ : Writing} {out₂' : List ℕ} → PlainPromise z (ResponseLies z head' new') (response_form z head' new') out₂ r₂ out₂' → n ≤ length out₂ → WrittenAgain n out' r₂ out₂'
  response_again X h = again status_of plain_response (status_told fixed) (status_told (again_fixed fixed a)) (response_derived fixed a) P e (was_written W w).0.lines W w t b Q room X (response_writable (again_fixed fixed a) Q response_back.end (subst OneLine (sym response_back.fields_again) (was_written W w).0.lines)) h

module _ {s old : List ℕ} {block : Block} {new : List ℕ} (P : BlockPromise s old block new) {q : ℕ} (e : block.end ≡ Ok q) where
  -- every complete answer can be written
  pub headers_writable : BlockLies s block new
  headers_writable = record { complete = reached e; headers = record { room = omega (arith, P.within.0, P.within.1); inside = P.inside.1 } }

  pub headers_written : {out : List ℕ} {r : Writing} {out' : List ℕ} → PlainPromise s (BlockLies s block new) (block_form s block new) out r out' → CanBeWritten (block_form s block new) out r
  headers_written W = can_write {Head' = BlockAlone} (λ z k. k) (λ l fs. plain_fields fs) (λ z k w l fs h a. refl) (λ z k w l fs h a. refl) (λ w l fs. plain_block) P e (block_off refl (P.complete q e).head) (λ w l fs. block_short) W headers_writable

  -- what is written is a block under strict with the same fields, and so under all rules
  pub headers_plain : (rules : Rules) → IsHeaderBlock rules true (block_form s block new) (fields_in s block.count new)
  headers_plain rules = let h = (P.complete q e).head in plain_block h (block_off refl h)

module _ {s old : List ℕ} {block : Block} {new : List ℕ} (P : BlockPromise s old block new) {q : ℕ} (e : block.end ≡ Ok q) {Writable : Type 0} {out : List ℕ} {r : Writing} {out' : List ℕ} {n : ℕ} (W : PlainPromise s Writable (block_form s block new) out r out') (w : r ≡ Ok n) (t : List ℕ) {z old' : List ℕ} {block' : Block} {new' : List ℕ} (b : z ≡ take n out' ++ t) (Q : BlockPromise z old' block' new') (room : block.count ≤ length old' / 4) where
  -- a call on the bytes written, with anything behind them, is complete at their end and gives the same fields back
  pub headers_back : ReadBack {L = Unit {0}} {K = Unit {0}} SaysNothing (λ z k. k) s tt block.count new n z block'.end tt block'.count new'
  headers_back = back (λ z k. k) (λ l fs. plain_fields fs) (λ z k w l fs h a. refl) (λ z k w l fs h a. refl) (λ w l fs. plain_block) P e (block_off refl (P.complete q e).head) W w t b Q room

  -- what was read back is written as the same bytes
  pub headers_again : {out₂ : List ℕ} {r₂ : Writing} {out₂' : List ℕ} → PlainPromise z (BlockLies z block' new') (block_form z block' new') out₂ r₂ out₂' → n ≤ length out₂ → WrittenAgain n out' r₂ out₂'
  headers_again X h = again (λ z k. k) (λ l fs. plain_fields fs) (λ z k w l fs h a. refl) (λ z k w l fs h a. refl) (λ w l fs. plain_block) P e (block_off refl (P.complete q e).head) W w t b Q room X (headers_writable Q headers_back.end) h
