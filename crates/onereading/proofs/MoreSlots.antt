-- More slots change no answer but TooManyHeaders.
-- Assumes nothing.
use Rattle.std.specs.Prelude.{ℕ, zero, suc, ◌+◌, ◌≤◌, ◌≡◌, refl, List, [], ◌∷◌, ◌++◌, ltb, length}
use Rattle.std.proofs.Common.{arith, sym, subst, ◌∙◌, ltb-true, lt-ltb}
use Rattle.reader.specs.Machine.{Step, run_at}
use Rattle.reader.specs.Seq.{first}
use Rattle.reader.specs.Answer.{Answer, got, short, bad, answer, verdict, retold, rounds}
use Rattle.reader.specs.Tests.{split}
use Rattle.rules.specs.Rules.{Rules, default}
use Rattle.parts.specs.declared.Error.TheVariants.{TooManyHeaders}
use Rattle.parts.specs.declared.Fault.{Fault}
use Rattle.parts.specs.Answers.{Passed, fault}
use Rattle.parts.specs.EmptyLines.{start}
use Rattle.fields.specs.declared.Header.{Header}
use Rattle.fields.specs.Line.{Kind, header, end, ignored}
use Rattle.blocks.specs.declared.Block.{Block}
use Rattle.blocks.specs.Block.{Blocks, taken, next_line, block}
use Rattle.blocks.proofs.BlockRead.{block_next}
use Rattle.blocks.specs.Block as blocks
use Rattle.requestline.specs.declared.RequestLine.{RequestLine}
use Rattle.requestline.specs.RequestLine as requests
use Rattle.statusline.specs.declared.StatusLine.{StatusLine}
use Rattle.statusline.specs.StatusLine as statuses
use Rattle.heads.specs.Head.{Heads, over, headed, head_parts, given, Told}
use Rattle.heads.specs.Head as heads
use Rattle.heads.specs.Calls.{request, response}
use Rattle.reader.specs.Known.{known_of}
use Rattle.agreement.proofs.Exactly.{given_over, line_over}
use Rattle.agreement.proofs.Kept.{told_bad, told_line}
use Rattle.agreement.proofs.Calls.{alone_told}
use Rattle.onereading.specs.Statements.{MoreSlots}
use Rattle.onereading.specs.Blocks.{Starts, starts_refl, next_within, block_keeps}
use Rattle.onereading.proofs.Stays.{told_same, first_headers}

-- the second answer has more room: it is the same, unless the first had too little
data Roomier : Blocks → Blocks → Type 0 where
  same : {a : Blocks} → Roomier a a
  full : {p : ℕ} {hs : List Header} {b : Blocks} → Starts hs (blocks.given b) → Roomier (bad (fault TooManyHeaders p, hs)) b

module _ (r : Rules) (n n' : ℕ) (h : n ≤ n') (xs : List ℕ) where
  -- the block behind a line, with n slots
  abbrev behind : ℕ → List Header → Answer (Unit {0}) Kind Fault → Blocks
  behind n hs a = rounds (retold (λ _. hs) (taken n hs) (λ e. (e, hs)) a) (λ hs' q. block r n hs' xs q)

  abbrev Room : List Header → ℕ → Type 0
  Room hs q = Roomier (block r n hs xs q) (block r n' hs xs q)

  room_line : (hs : List Header) (p : ℕ) → ((hs' : List Header) (q : ℕ) → p + 1 ≤ q → q ≤ length xs → Room hs' q) → (a : Answer (Unit {0}) Kind Fault) → next_line r hs xs p ≡ a → Starts hs (blocks.given (behind n' hs a)) → Roomier (behind n hs a) (behind n' hs a)
  room_line hs p ih (short u) e w = same
  room_line hs p ih (bad x) e w = same
  room_line hs p ih (got end q) e w = same
  room_line hs p ih (got ignored q) e w = let k = next_within r xs hs p q ignored e in ih hs q k.0 k.1
  room_line hs p ih (got (header g) q) e w =
      split (λ v. Roomier (rounds (verdict {U = Unit {0}} (λ _. hs) (taken n hs) (λ e. (e, hs)) v q) (λ hs' q. block r n hs' xs q)) (behind n' hs (got (header g) q))) (ltb (length hs) n)
      (λ t. let k = next_within r xs hs p q (header g) e in rw (lt-ltb (length hs) n' (omega (arith, h, ltb-true (length hs) n t))) (ih (hs ++ (g ∷ [])) q k.0 k.1))
      (λ t. full w)

  room_step : (hs : List Header) (p : ℕ) → ((hs' : List Header) (q : ℕ) → p + 1 ≤ q → q ≤ length xs → Room hs' q) → Room hs p
  room_step hs p ih =
      subst (λ a. Roomier a (block r n' hs xs p)) (sym (block_next r n hs xs p))
      (subst (Roomier (behind n hs (next_line r hs xs p))) (sym (block_next r n' hs xs p))
      (room_line hs p ih (next_line r hs xs p) refl (subst (λ b. Starts hs (blocks.given b)) (block_next r n' hs xs p) (block_keeps r n' xs hs p))))

  room_by : (m : ℕ) (hs : List Header) (p : ℕ) → length xs ≤ p + m → Room hs p
  room_by zero hs p l = room_step hs p (λ hs' q i j. absurd (omega (arith, i, j, l)))
  room_by (suc m) hs p l = room_step hs p (λ hs' q i j. room_by m hs' q (omega (arith, i, l)))

  block_room : (p : ℕ) → Roomier (block r n [] xs p) (block r n' [] xs p)
  block_room p = room_by (length xs) [] p (omega arith)

module _ {K : Type 0} where
  -- the same of heads
  data Wider : Heads K → Heads K → Type 0 where
    same : {a : Heads K} → Wider a a
    full : {p : ℕ} {k : K} {hs : List Header} {b : Heads K} → (known_of b).0 ≡ k → Starts hs (given b) → Wider (bad (fault TooManyHeaders p, (k, hs))) b

  over_wider : (k : K) {a b : Blocks} → Roomier a b → Wider (over k a) (over k b)
  over_wider k Roomier.same = Wider.same
  over_wider k (Roomier.full {hs = hs} {b = b} s) = Wider.full (line_over k b) (subst (Starts hs) (sym (given_over k b)) s)

  headed_wider : {f g : K → ℕ → Heads K} (a : Answer K K (Fault × K)) → ((k : K) (q : ℕ) → Wider (f k q) (g k q)) → Wider (headed a f) (headed a g)
  headed_wider (got k q) h = h k q
  headed_wider (short k) h = Wider.same
  headed_wider (bad x) h = Wider.same

  wider_told : {a b : Heads K} {end end' : Passed} {line line' : K} {count count' : ℕ} {old old' new new' : List ℕ} → Wider a b → Told a end line count old new → Told b end' line' count' old' new' → MoreSlots end end' line line' count count' old' new new'
  wider_told (Wider.same {a = a}) T U = let u = told_same T U in record { enough = λ _. (u.0, u.2, u.3); known = u.1; given = first_headers (starts_refl (given a)) T U }
  wider_told {end = stop} {line = line} (Wider.full {p = p} {k = k} {hs = hs} e s) T U = record {
    enough = λ x. absurd (x p (told_bad stop line k hs hs (fault TooManyHeaders p) T.answer).0);
    known = sym (told_line U) ∙ e ∙ told_line T;
    given = first_headers s T U;
  }

module _ (r : Rules) (n n' : ℕ) (h : n ≤ n') {K S : Type 0} (m : Step S K (Fault × K)) (known : S → K) (s : S) where
  head_wider : (xs : List ℕ) → Wider (heads.head r n m known s xs) (heads.head r n' m known s xs)
  head_wider xs =
      subst (λ y. Wider y (heads.head r n' m known s xs)) (sym (head_parts r n m known s xs))
      (subst (Wider (headed (answer known (run_at m s xs 0)) (λ k q. over k (block r n [] xs q)))) (sym (head_parts r n' m known s xs))
      (headed_wider (answer known (run_at m s xs 0)) (λ k q. over_wider k (block_room r n n' h xs q))))

module _ (r : Rules) (n n' : ℕ) (h : n ≤ n') (s : List ℕ) {old old' : List ℕ} {end end' : Passed} {count count' : ℕ} {new new' : List ℕ} where
  pub request_roomier : {line line' : RequestLine} → Told (request r n s) end line count old new → Told (request r n' s) end' line' count' old' new' → MoreSlots end end' line line' count count' old' new new'
  unfolding request
  request_roomier T U = wider_told (head_wider r n n' h (requests.request_line_step r) requests.line_known (first start) s) T U

  pub response_roomier : {line line' : StatusLine} → Told (response r n s) end line count old new → Told (response r n' s) end' line' count' old' new' → MoreSlots end end' line line' count count' old' new new'
  unfolding response
  response_roomier T U = wider_told (head_wider r n n' h (statuses.status_line_step r) statuses.line_known (first start) s) T U

pub headers_roomier : (n n' : ℕ) (h : n ≤ n') (s : List ℕ) {r r' : Block} {old old' new new' : List ℕ} → blocks.Told (block default n [] s 0) r old new → blocks.Told (block default n' [] s 0) r' old' new' → MoreSlots {K = Unit {0}} r.end r'.end tt tt r.count r'.count old' new new'
headers_roomier n n' h s T U = wider_told (over_wider {K = Unit {0}} tt (block_room default n n' h s 0)) (alone_told T) (alone_told U)
