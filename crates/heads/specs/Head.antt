-- A head: a start line and the header block behind it, whatever the start line is.
-- Assumes nothing.
use Rattle.std.specs.Prelude.{ℕ, ◌≡◌, refl, List, [], length, drop, Err, Ok}
use Rattle.std.proofs.Common.{sym, ap, ◌∙◌}
use Rattle.reader.specs.Machine.{Step, run_at}
use Rattle.reader.specs.Judged.{pass, judged}
use Rattle.reader.specs.Seq.{Then, first, seq}
use Rattle.reader.specs.Answer.{Answer, got, short, bad, answer, retold, and, either, lapwise}
use Rattle.reader.proofs.Answer.{answer_judged, answer_seq}
use Rattle.gaps.specs.Gap.{Behind}
use Rattle.parts.specs.declared.Fault.{Fault}
use Rattle.parts.specs.declared.Unread.{Unread}
use Rattle.parts.specs.declared.Unread.TheVariants.{More, Bad}
use Rattle.parts.specs.Answers.{Passed}
use Rattle.rules.specs.Rules.{Rules}
use Rattle.startline.specs.Answers.{tell}
use Rattle.fields.specs.declared.Header.{Header}
use Rattle.blocks.specs.declared.Block.{Block}
use Rattle.fields.specs.Line.{LineState}
use Rattle.blocks.specs.Slots.{filled, filled_none}
use Rattle.blocks.specs.Block.{Blocks, block_step, block}
use Rattle.blocks.specs.Block as blocks

abbrev pub BlockState : Type 0
BlockState = List Header × Behind LineState

abbrev pub block_known : BlockState → List Header
block_known = lapwise (λ hs _. hs)

-- what is known of a head: of its start line, and the headers that were given
abbrev pub Known : Type 0 → Type 0
Known K = K × List Header

abbrev pub Heads : Type 0 → Type 0
Heads K = Answer (Known K) (Known K) (Fault × Known K)

module _ {K S : Type 0} (r : Rules) (n : ℕ) (line_step : Step S K (Fault × K)) (line_known : S → K) (start : S) where
  -- the block, behind a start line that told k
  abbrev pub block_on : K → Step BlockState (Known K) (Fault × Known K)
  block_on k = judged (λ hs. pass (k, hs)) (λ x. (x.0, (k, x.1))) (block_step r n)

  abbrev pub head_step : Step (Then S K BlockState) (Known K) (Fault × Known K)
  head_step = seq (judged pass (λ x. (x.0, (x.1, []))) line_step) (λ _. ([], first tt)) block_on

  abbrev pub head_known : Then S K BlockState → Known K
  head_known = either (λ s. (line_known s, [])) (λ k c. (k, block_known c))

  -- what reading a head with n slots answers
  abbrev pub head : List ℕ → Heads K
  head xs = answer head_known (run_at head_step (first start) xs 0)

module _ {K : Type 0} where
  -- the block's answer as the head's
  abbrev pub over : K → Blocks → Heads K
  over k (got hs q) = got (k, hs) q
  over k (short hs) = short (k, hs)
  over k (bad x) = bad (x.0, (k, x.1))

  -- the start line's answer, and the head's from behind it
  abbrev pub headed : Answer K K (Fault × K) → (K → ℕ → Heads K) → Heads K
  headed (got k q) next = next k q
  headed (short k) next = short (k, [])
  headed (bad x) next = bad (x.0, (x.1, []))

  told_over : (k : K) (b : Blocks) → retold (λ hs. (k, hs)) (λ hs. pass (k, hs)) (λ x. (x.0, (k, x.1))) b ≡ over k b
  told_over k (got hs q) = refl
  told_over k (short hs) = refl
  told_over k (bad x) = refl

  told_headed : (a : Answer K K (Fault × K)) (next : K → ℕ → Heads K) → and (retold (λ k. (k, [])) pass (λ x. (x.0, (x.1, []))) a) next ≡ headed a next
  told_headed (got k q) next = refl
  told_headed (short k) next = refl
  told_headed (bad x) next = refl

module _ {K S : Type 0} (r : Rules) (n : ℕ) (line_step : Step S K (Fault × K)) (line_known : S → K) (start : S) (xs : List ℕ) where
  block_part : (k : K) (q : ℕ) → answer (λ c. (k, block_known c)) (run_at (block_on r n line_step line_known start k) ([], first tt) xs q) ≡ over k (block r n [] xs q)
  block_part k q = answer_judged (λ hs. (k, hs)) (λ hs. pass (k, hs)) (λ x. (x.0, (k, x.1))) block_known (block_step r n) (drop q xs) ([], first tt) q ∙ told_over k (block r n [] xs q)

  -- a head by its two parts
  pub head_parts : head r n line_step line_known start xs ≡ headed (answer line_known (run_at line_step start xs 0)) (λ k q. over k (block r n [] xs q))
  head_parts =
      answer_seq (λ s. (line_known s, [])) (λ k c. (k, block_known c)) (judged pass (λ x. (x.0, (x.1, []))) line_step) (λ _. ([], first tt)) (block_on r n line_step line_known start) start xs 0
      ∙ ap (λ a. and a (λ k q. answer (λ c. (k, block_known c)) (run_at (block_on r n line_step line_known start k) ([], first tt) xs q))) (answer_judged (λ k. (k, [])) pass (λ x. (x.0, (x.1, []))) line_known line_step (drop 0 xs) start 0)
      ∙ told_headed (answer line_known (run_at line_step start xs 0)) _
      ∙ headed_same (answer line_known (run_at line_step start xs 0))
    where
      headed_same : (a : Answer K K (Fault × K)) → headed a (λ k q. answer (λ c. (k, block_known c)) (run_at (block_on r n line_step line_known start k) ([], first tt) xs q)) ≡ headed a (λ k q. over k (block r n [] xs q))
      headed_same (got k q) = block_part k q
      headed_same (short k) = refl
      headed_same (bad x) = refl

-- the headers that an answer has given
abbrev pub given : {K : Type 0} → Heads K → List Header
given (got k q) = k.1
given (short k) = k.1
given (bad x) = x.1.1

-- the code's answer, what it knows, its count and the slots are what the reader says
pub record Told {K : Type 0} (a : Heads K) (end : Passed) (line : K) (count : ℕ) (old new : List ℕ) : Type 0 where
  pub answer : tell end (line, given a) ≡ a
  pub count_is : count ≡ length (given a)
  pub slots : new ≡ filled (given a) old

given_tell : {K : Type 0} (p : Passed) (k : K) (hs : List Header) → given (tell p (k, hs)) ≡ hs
given_tell (Ok q) k hs = refl
given_tell (Err More) k hs = refl
given_tell (Err (Bad e)) k hs = refl

tells : {K : Type 0} {a : Heads K} {end : Passed} {line : K} {count : ℕ} {old new : List ℕ} (hs : List Header) → tell end (line, hs) ≡ a → count ≡ length hs → new ≡ filled hs old → Told a end line count old new
tells {a = a} {end = end} {line = line} hs e c f =
    let g : given a ≡ hs = ap given (sym e) ∙ given_tell end line hs in
    record { answer = rw g e; count_is = rw g c; slots = rw g f }

over_tell : {K : Type 0} (k : K) (p : Passed) (hs : List Header) → tell p (k, hs) ≡ over k (blocks.tell p hs)
over_tell k (Ok q) hs = refl
over_tell k (Err More) hs = refl
over_tell k (Err (Bad e)) hs = refl

-- the block's answer behind a start line that told k
pub told_block : {K : Type 0} (k : K) {a : Blocks} {b : Block} {end : Passed} {count : ℕ} {old new : List ℕ} → blocks.Told a b old new → end ≡ b.end → count ≡ b.count → Told (over k a) end k count old new
told_block k {a} {b} t x y = tells (blocks.given a) (rw (x, over_tell k b.end (blocks.given a), t.answer)) (y ∙ t.count) t.slots

-- the ways of a head, by how its start line ended
module _ {K : Type 0} {line : K} {e : Passed} {a : Answer K K (Fault × K)} (h : tell e line ≡ a) where
  pub head_on : {q : ℕ} → e ≡ Ok q → (next : K → ℕ → Heads K) {end : Passed} {count : ℕ} {old new : List ℕ} → Told (next line q) end line count old new → Told (headed a next) end line count old new
  head_on m next t = rw (← h, m) t

  pub head_stops : {x : Unread Fault} → e ≡ Err x → (next : K → ℕ → Heads K) (old : List ℕ) → Told (headed a next) (Err x) line 0 old old
  head_stops {x} m next old = tells [] (rw (← h, m) (by x)) refl (filled_none old)
    where
      by : (y : Unread Fault) → tell (Err y) (line, []) ≡ headed (tell (Err y) line) next
      by More = refl
      by (Bad d) = refl

pub ruleset heads = (told_block, head_on, head_stops)
