-- An error says where it lies: two calls' answers beside each other.
-- Assumes nothing.
use Rattle.std.specs.Prelude.{ℕ, ◌+◌, ◌*◌, ◌/◌, ◌≡◌, refl, List, [], ◌++◌, length, take, drop, Err}
use Rattle.std.proofs.Common.{sym, ap, subst, ◌∙◌, arith, length-append}
use Rattle.reader.specs.Answer.{got, short, bad}
use Rattle.reader.specs.Known.{known_of}
use Rattle.rules.specs.Rules.{Rules, default}
use Rattle.lengths.specs.Lengths.{ends_long, field_long}
use Rattle.parts.specs.declared.Fault.{Fault}
use Rattle.parts.specs.declared.Unread.TheVariants.{More, Bad}
use Rattle.parts.specs.Answers.{Passed}
use Rattle.fields.specs.declared.Header.{Header}
use Rattle.blocks.specs.declared.Block.{Block}
use Rattle.blocks.specs.Slots.{filled}
use Rattle.blocks.specs.Block.{block}
use Rattle.blocks.specs.Block as blocks
use Rattle.requestline.specs.declared.RequestLine.{RequestLine}
use Rattle.statusline.specs.declared.StatusLine.{StatusLine}
use Rattle.heads.specs.Head.{Heads, given, Told}
use Rattle.heads.specs.Calls.{request, response}
use Rattle.chunks.specs.Chunk.{ChunkSize, chunk, size_of}
use Rattle.agreement.proofs.Kept.{told_got, told_line}
use Rattle.agreement.specs.Promises.{Waits, FaultPromise}
use Rattle.agreement.specs.Calls.{headers_of}
use Rattle.agreement.proofs.Calls.{alone_told, request_fault, response_fault, headers_fault}
use Rattle.agreement.proofs.Chunk.{chunk_fault_promise}
use Rattle.onereading.specs.Statements.{SaysWhere, SizeSaysWhere}
use Rattle.onereading.specs.Blocks.{slots_again}
use Rattle.onereading.proofs.Stays.{told_same, told_more, size_same, size_waits}

given_known : {K : Type 0} (a : Heads K) → given a ≡ (known_of a).1
given_known (got k q) = refl
given_known (short k) = refl
given_known (bad x) = refl

module _ {K : Type 0} {r : Rules} {n : ℕ} {read : List ℕ → Heads K} {s : List ℕ} {x : Fault} (F : FaultPromise r n read s (Err (Bad x))) {line line' : K} {count count' : ℕ} {old old' new new' : List ℕ} {z : List ℕ} {end' : Passed} (T : Told (read s) (Err (Bad x)) line count old new) (U : Told (read z) end' line' count' old' new') where
  waited : Waits (read z) → end' ≡ Err More
  waited w = told_more end' (line', given (read z)) w.0 (U.answer ∙ w.1)

  -- a call that knows what the first one told
  knows : (k : K) (hs : List Header) → known_of (read s) ≡ (k, hs) → known_of (read z) ≡ (k, hs) → (line' ≡ line) × (count' ≡ count) × (new' ≡ take (count * 4) new ++ drop (count * 4) old')
  knows k hs a b =
      let g : given (read s) ≡ hs = given_known (read s) ∙ ap (λ y. y.1) a in
      let h : given (read z) ≡ hs = given_known (read z) ∙ ap (λ y. y.1) b in
      let c : count ≡ length hs = T.count_is ∙ ap length g in (
        sym (told_line U) ∙ ap (λ y. y.0) (b ∙ sym a) ∙ told_line T,
        U.count_is ∙ ap length h ∙ sym c,
        U.slots ∙ ap (λ y. filled y old') h ∙ slots_again hs old old' ∙ ap (λ y. take (length hs * 4) y ++ drop (length hs * 4) old') (sym (T.slots ∙ ap (λ y. filled y old) g)) ∙ ap (λ y. take (y * 4) new ++ drop (y * 4) old') (sym c),
      )

  pub says_where : SaysWhere r s x line count new z end' line' count' old' new'
  says_where =
      let A = F.placed x refl in
      record {
        before = λ k l e. waited (subst (λ y. Waits (read y)) (sym e) (A.before k l));
        there = λ o u e. told_same T (subst (λ a. Told a end' line' count' old' new') (ap read e ∙ A.there o u) U);
        full = λ o k l m e.
            let O = A.too_many o in
            knows O.known O.headers (ap known_of O.told) (ap known_of (ap read e ∙ O.waits k m (omega (arith, l, length-append O.line O.end, field_long O.is_line, ends_long O.is_end))));
        begins = λ o w d e.
            let O = A.too_many o in
            let b : read z ≡ got (O.known, O.headers) (x.position + length w) = ap read e ∙ O.begins w d in
            let k = knows O.known O.headers (ap known_of O.told) (ap known_of b) in
            ((told_got end' line' O.known (given (read z)) O.headers (x.position + length w) (U.answer ∙ b)).0, k.0, k.1, k.2);
      }

module _ (r : Rules) (s z : List ℕ) {x : Fault} {count count' : ℕ} {old old' new new' : List ℕ} {end' : Passed} where
  pub request_where : {line line' : RequestLine} → Told (request r (length old / 4) s) (Err (Bad x)) line count old new → Told (request r (length old / 4) z) end' line' count' old' new' → SaysWhere r s x line count new z end' line' count' old' new'
  request_where T U = says_where (request_fault r T) T U

  pub response_where : {line line' : StatusLine} → Told (response r (length old / 4) s) (Err (Bad x)) line count old new → Told (response r (length old / 4) z) end' line' count' old' new' → SaysWhere r s x line count new z end' line' count' old' new'
  response_where T U = says_where (response_fault r T) T U

pub headers_where : (s z : List ℕ) {x : Fault} {b b' : Block} {old old' new new' : List ℕ} → b.end ≡ Err (Bad x) → blocks.Told (block default (length old / 4) [] s 0) b old new → blocks.Told (block default (length old / 4) [] z 0) b' old' new' → SaysWhere {K = Unit {0}} default s x tt b.count new z b'.end tt b'.count old' new'
headers_where s z {x} {b} {old = old} {new = new} e T U =
    says_where {read = headers_of (length old / 4)} (subst (FaultPromise default (length old / 4) (headers_of (length old / 4)) s) e (headers_fault T)) (subst (λ y. Told (headers_of (length old / 4) s) y tt b.count old new) e (alone_told T)) (alone_told U)

pub chunk_where : (s z : List ℕ) {p : ℕ} {r' : ChunkSize} → size_of (Err (Bad p)) ≡ chunk default s → size_of r' ≡ chunk default z → SizeSaysWhere s p z r'
chunk_where s z {p} {r'} T U =
    let A = (chunk_fault_promise T).placed p refl in
    record {
      before = λ k l e. size_waits r' (U ∙ ap (chunk default) e ∙ A.before k l);
      there = λ u e. size_same (Err (Bad p)) r' (sym (U ∙ ap (chunk default) e ∙ A.there u));
    }
