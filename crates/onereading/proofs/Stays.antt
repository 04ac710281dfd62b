-- An answer never changes when more bytes arrive: what each call told on s it tells on s and anything behind it.
-- Assumes nothing.
use Rattle.std.specs.Prelude.{ℕ, ◌*◌, ◌≤◌, ◌≡◌, refl, List, [], ◌++◌, length, take, drop, Err, Ok}
use Rattle.std.proofs.Common.{arith, sym, ap, subst, ◌∙◌, length-append}
use Rattle.reader.specs.Tests.{never}
use Rattle.reader.specs.Machine.{Step, run_at}
use Rattle.reader.specs.Seq.{first}
use Rattle.reader.specs.Answer.{Answer, got, short, bad, answer, lapwise}
use Rattle.reader.specs.Chain.{nothing}
use Rattle.reader.specs.Known.{known_of}
use Rattle.reader.specs.Later.{Later, same, waited}
use Rattle.reader.proofs.Later.{later}
use Rattle.rules.specs.Rules.{Rules, default}
use Rattle.parts.specs.declared.Fault.{Fault}
use Rattle.parts.specs.declared.Unread.TheVariants.{More, Bad}
use Rattle.parts.specs.EmptyLines.{start}
use Rattle.parts.specs.Answers.{Passed}
use Rattle.fields.specs.declared.Header.{Header}
use Rattle.blocks.specs.declared.Block.{Block}
use Rattle.blocks.specs.Block.{block_step, block}
use Rattle.blocks.specs.Block as blocks
use Rattle.startline.specs.Answers.{tell}
use Rattle.requestline.specs.declared.RequestLine.{RequestLine}
use Rattle.requestline.specs.RequestLine as requests
use Rattle.statusline.specs.declared.StatusLine.{StatusLine}
use Rattle.statusline.specs.StatusLine as statuses
use Rattle.heads.specs.Head.{Heads, Known, head_step, head_known, over, headed, head_parts, given, Told}
use Rattle.heads.specs.Head as heads
use Rattle.heads.specs.Calls.{request, response}
use Rattle.chunks.specs.Chunk.{ChunkSize, digits, chunk_step, chunk, size_of}
use Rattle.agreement.proofs.Exactly.{given_over, head_line}
use Rattle.agreement.proofs.Kept.{told_line}
use Rattle.agreement.specs.Calls.{alone}
use Rattle.agreement.proofs.Calls.{alone_told}
use Rattle.onereading.specs.Statements.{SameRequest, SameStatus, NoLine, HeadStays, ChunkStays}
use Rattle.onereading.specs.Lines.{request_line_grows, status_line_grows}
use Rattle.onereading.specs.Blocks.{Starts, block_grows, slots_same, slots_again}

module _ {K : Type 0} where
  pub told_same : {a : Heads K} {end end' : Passed} {line line' : K} {count count' : ℕ} {old old' new new' : List ℕ} → Told a end line count old new → Told a end' line' count' old' new' → (end' ≡ end) × (line' ≡ line) × (count' ≡ count) × (new' ≡ take (count * 4) new ++ drop (count * 4) old')
  told_same {a} {end} {end'} {line} {line'} {old = old} {old' = old'} {new = new} {new' = new'} T U =
      let u = tells end end' line line' (given a) (T.answer ∙ sym U.answer) in
      let k = length (given a) in
      let same : new' ≡ take (k * 4) new ++ drop (k * 4) old' = U.slots ∙ slots_again (given a) old old' ∙ ap (λ y. take (k * 4) y ++ drop (k * 4) old') (sym T.slots) in
      (u.0, u.1, U.count_is ∙ sym T.count_is, same ∙ ap (λ y. take (y * 4) new ++ drop (y * 4) old') (sym T.count_is))
    where
      tells : (end end' : Passed) (line line' : K) (hs : List Header) → ◌≡◌ {A = Heads K} (tell end (line, hs)) (tell end' (line', hs)) → (end' ≡ end) × (line' ≡ line)
      tells (Ok q) (Ok q') line line' hs e = let u : ◌≡◌ {A = Known K} (line, hs) (line', hs) = cc in (cc, sym (ap (λ y. y.0) u))
      tells (Err More) (Err More) line line' hs e = let u : ◌≡◌ {A = Known K} (line, hs) (line', hs) = cc in (refl, sym (ap (λ y. y.0) u))
      tells (Err (Bad x)) (Err (Bad x')) line line' hs e = let u : ◌≡◌ {A = Fault × Known K} (x, (line, hs)) (x', (line', hs)) = cc in (ap (λ y. Err (Bad y.0)) (sym u), sym (ap (λ y. y.1.0) u))
      tells (Ok q) (Err More) line line' hs e = never cc
      tells (Ok q) (Err (Bad x)) line line' hs e = never cc
      tells (Err More) (Ok q) line line' hs e = never cc
      tells (Err More) (Err (Bad x)) line line' hs e = never cc
      tells (Err (Bad x)) (Ok q) line line' hs e = never cc
      tells (Err (Bad x)) (Err More) line line' hs e = never cc

  -- how a call ended where the reader waited
  pub told_more : (end : Passed) (k : Known K) (u : Known K) → ◌≡◌ {A = Heads K} (tell end k) (short u) → end ≡ Err More
  told_more (Ok q) k u e = never cc
  told_more (Err More) k u e = refl
  told_more (Err (Bad x)) k u e = never cc

  decides : {a b : Heads K} {end end' : Passed} {line line' : K} {count count' : ℕ} {old old' new new' : List ℕ} → Later a b → Told a end line count old new → Told b end' line' count' old' new' → (end ≡ Err More → ⊥) → (end' ≡ end) × (line' ≡ line) × (count' ≡ count) × (new' ≡ take (count * 4) new ++ drop (count * 4) old')
  decides same T U n = told_same T U
  decides {end = end} {line = line} (waited {u = u}) T U n = absurd (n (told_more end (line, u.1) u T.answer))

  -- the headers that were given are the first of those given now
  pub first_headers : {a b : Heads K} {end end' : Passed} {line line' : K} {count count' : ℕ} {old old' new new' : List ℕ} → Starts (given a) (given b) → Told a end line count old new → Told b end' line' count' old' new' → (count ≤ count') × (take (count * 4) new' ≡ take (count * 4) new)
  first_headers {a} {b} {old = old} {old' = old'} {new = new} {new' = new'} s T U = (
    omega (arith, T.count_is, U.count_is, ap length s.whole, length-append (given a) s.more),
    ap (λ y. take (y * 4) new') T.count_is ∙ ap (take (length (given a) * 4)) U.slots ∙ slots_same (given a) old old' (given b) s ∙ sym (ap (take (length (given a) * 4)) T.slots) ∙ sym (ap (λ y. take (y * 4) new) T.count_is),
  )

  stays : (Same : K → K → Type 0) {a b : Heads K} {end end' : Passed} {line line' : K} {count count' : ℕ} {old old' new new' : List ℕ} → Later a b → Same (known_of a).0 (known_of b).0 → Starts (given a) (given b) → Told a end line count old new → Told b end' line' count' old' new' → HeadStays Same end end' line line' count count' old' new new'
  stays Same {a} {line = line} {line' = line'} L k s T U = record {
    decided = decides L T U;
    known = subst (λ y. Same y line') (told_line T) (subst (Same (known_of a).0) (told_line U) k);
    headers = first_headers s T U;
  }

-- a head by its line and its block
module _ (r : Rules) (n : ℕ) {K S : Type 0} (m : Step S K (Fault × K)) (known : S → K) (s : S) where
  fields_grow : (xs ys : List ℕ) {a b : Answer K K (Fault × K)} → Later a b → Starts (given (headed a (λ k q. over k (block r n [] xs q)))) (given (headed b (λ k q. over k (block r n [] (xs ++ ys) q))))
  fields_grow xs ys (same {a = got k q}) = subst (λ y. Starts y (given (over k (block r n [] (xs ++ ys) q)))) (sym (given_over k (block r n [] xs q))) (subst (Starts (blocks.given (block r n [] xs q))) (sym (given_over k (block r n [] (xs ++ ys) q))) (block_grows r n xs ys [] q))
  fields_grow xs ys (same {a = short k}) = record { more = []; whole = refl }
  fields_grow xs ys (same {a = bad x}) = record { more = []; whole = refl }
  fields_grow xs ys waited = record { more = _; whole = refl }

  head_fields : (xs ys : List ℕ) → Starts (given (heads.head r n m known s xs)) (given (heads.head r n m known s (xs ++ ys)))
  head_fields xs ys =
      subst (λ y. Starts (given y) (given (heads.head r n m known s (xs ++ ys)))) (sym (head_parts r n m known s xs))
      (subst (λ y. Starts (given (headed (answer known (run_at m s xs 0)) (λ k q. over k (block r n [] xs q)))) (given y)) (sym (head_parts r n m known s (xs ++ ys)))
      (fields_grow xs ys (later known m s xs ys 0)))

  pub head_stays : (Same : K → K → Type 0) (xs ys : List ℕ) → Same (known_of (answer known (run_at m s xs 0))) (known_of (answer known (run_at m s (xs ++ ys) 0))) → {end end' : Passed} {line line' : K} {count count' : ℕ} {old old' new new' : List ℕ} → Told (heads.head r n m known s xs) end line count old new → Told (heads.head r n m known s (xs ++ ys)) end' line' count' old' new' → HeadStays Same end end' line line' count count' old' new new'
  head_stays Same xs ys k T U =
      stays Same (later (head_known r n m known s) (head_step r n m known s) (first s) xs ys 0)
      (subst (λ y. Same y (known_of (heads.head r n m known s (xs ++ ys))).0) (sym (head_line r n m known s xs)) (subst (Same (known_of (answer known (run_at m s xs 0)))) (sym (head_line r n m known s (xs ++ ys))) k))
      (head_fields xs ys) T U

module _ (r : Rules) (n : ℕ) (s t : List ℕ) {old old' : List ℕ} {end end' : Passed} {count count' : ℕ} {new new' : List ℕ} where
  pub request_stays : {line line' : RequestLine} → Told (request r n s) end line count old new → Told (request r n (s ++ t)) end' line' count' old' new' → HeadStays SameRequest end end' line line' count count' old' new new'
  unfolding request
  request_stays T U = head_stays r n (requests.request_line_step r) requests.line_known (first start) SameRequest s t (request_line_grows r s t) T U

  pub response_stays : {line line' : StatusLine} → Told (response r n s) end line count old new → Told (response r n (s ++ t)) end' line' count' old' new' → HeadStays SameStatus end end' line line' count count' old' new new'
  unfolding response
  response_stays T U = head_stays r n (statuses.status_line_step r) statuses.line_known (first start) SameStatus s t (status_line_grows r s t) T U

-- headers alone: nothing is told but them
alone_later : {a b : blocks.Blocks} → Later a b → Later (alone a) (alone b)
alone_later same = same
alone_later waited = waited

pub headers_stays : (n : ℕ) (s t : List ℕ) {r r' : Block} {old old' new new' : List ℕ} → blocks.Told (block default n [] s 0) r old new → blocks.Told (block default n [] (s ++ t) 0) r' old' new' → HeadStays NoLine r.end r'.end tt tt r.count r'.count old' new new'
headers_stays n s t T U =
    stays NoLine (alone_later (later (lapwise (λ hs _. hs)) (block_step default n) ([], first tt) s t 0)) tt
    (subst (λ y. Starts y (given (alone (block default n [] (s ++ t) 0)))) (sym (given_over tt (block default n [] s 0))) (subst (Starts (blocks.given (block default n [] s 0))) (sym (given_over tt (block default n [] (s ++ t) 0))) (block_grows default n s t [] 0)))
    (alone_told T) (alone_told U)

-- a chunk size line
pub size_same : (r r' : ChunkSize) → size_of r ≡ size_of r' → r' ≡ r
size_same (Ok (n, q)) (Ok (m, p)) e = cc
size_same (Err More) (Err More) e = refl
size_same (Err (Bad q)) (Err (Bad p)) e = cc
size_same (Ok a) (Err More) e = never cc
size_same (Ok a) (Err (Bad p)) e = never cc
size_same (Err More) (Ok b) e = never cc
size_same (Err More) (Err (Bad p)) e = never cc
size_same (Err (Bad q)) (Ok b) e = never cc
size_same (Err (Bad q)) (Err More) e = never cc

pub size_waits : (r : ChunkSize) {u : Unit {0}} → size_of r ≡ short u → r ≡ Err More
size_waits (Ok a) e = never cc
size_waits (Err More) e = refl
size_waits (Err (Bad p)) e = never cc

chunk_by : {a b : Answer (Unit {0}) ℕ ℕ} {r r' : ChunkSize} → Later a b → size_of r ≡ a → size_of r' ≡ b → (r ≡ Err More → ⊥) → r' ≡ r
chunk_by {r = r} {r' = r'} same T U n = size_same r r' (T ∙ sym U)
chunk_by {r = r} waited T U n = absurd (n (size_waits r T))

pub chunk_stays : (s t : List ℕ) {r r' : ChunkSize} → size_of r ≡ chunk default s → size_of r' ≡ chunk default (s ++ t) → ChunkStays r r'
chunk_stays s t T U n = chunk_by (later nothing (chunk_step default) (digits 0 0) s t 0) T U n
