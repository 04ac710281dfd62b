-- The header block: lines up to the empty one, each header of which takes a slot.
-- Assumes nothing.
use Rattle.std.specs.Prelude.{ℕ, ◌+◌, ◌-◌, ◌*◌, ◌/◌, ◌≤◌, ◌<◌, ◌≡◌, refl, List, [], ◌∷◌, ◌++◌, Bool, true, false, ◌&&◌, cond, eqb, length, take, drop, Err, Ok}
use Rattle.std.proofs.Common.{arith, sym, ap, subst, ◌∙◌, length-append, length-take, length-drop, eq-eqb, ne_eqb, lt-ltb, le-ltb}
use Rattle.std.specs.Result.{IsErrAnd}
use Rattle.reader.specs.Machine.{Move, keep, give, before, refuse}
use Rattle.reader.specs.Judged.{Verdict, pass, fail, moved}
use Rattle.reader.specs.Judged as judges
use Rattle.reader.specs.Decided.{Taken}
use Rattle.reader.specs.Tests.{never}
use Rattle.reader.specs.Seq.{first, cross}
use Rattle.reader.specs.Skip.{Skipped}
use Rattle.reader.specs.Loop.{Turn, again, Fresh}
use Rattle.reader.specs.Answer.{Answer, got, retold, rounds}
use Rattle.reader.proofs.Answer.{answer_judged, answer_loop}
use Rattle.reader.specs.Chain.{nothing}
use Rattle.reader.specs.Branch.{fresh}
use Rattle.gaps.specs.Gap.{Behind, blanks_if}
use Rattle.gaps.proofs.Gap.{reads_behind}
use Rattle.parts.specs.declared.Error.TheVariants.{TooManyHeaders}
use Rattle.parts.specs.declared.Fault.{Fault}
use Rattle.parts.specs.declared.Unread.{Unread}
use Rattle.parts.specs.declared.Unread.TheVariants.{More, Bad}
use Rattle.rules.specs.Rules.{Rules}
use Rattle.rules.specs.declared.LineSettings.{LineSettings}
use Rattle.rules.specs.Settings.{line_rules}
use Rattle.parts.specs.Answers.{Passed, refusal, stopped}
use Rattle.fields.specs.declared.Header.{Header}
use Rattle.fields.specs.declared.Line.{Line}
use Rattle.fields.specs.declared.Line.TheVariants as lines
use Rattle.blocks.specs.declared.Block.{Block}
use Rattle.fields.specs.Line.{Kind, LineState, line_step, line, kind_of}
use Rattle.fields.proofs.LineRead.{line_taken, line_behind}
use Rattle.blocks.specs.Slots.{numbers, filled, filled_none, filled_more}
use Rattle.blocks.specs.Block.{Blocks, Kept, Told, blanks_before, block, given, lap_step, next_line, next_line_step, none_yet, taken, tell}

-- no line leaves its first byte to the next
module _ (n : ℕ) (hs hs' : List Header) where
  kept_byte : (v : Move LineState Kind Fault) → Taken v → (g : Bool) → moved {S = Behind LineState} (taken n hs) (λ e. (e, hs)) (cross (cond g (keep tt) (before (tt {0}))) (λ _. fresh) (λ _. v)) ≡ before (again hs') → ⊥
  kept_byte v t true e = never cc
  kept_byte (keep s) t false e = never cc
  kept_byte (give k) t false e = by (taken n hs k) e
    where
      by : (w : Verdict (Turn (List Header) (List Header)) (Fault × List Header)) → judges.given {S = Behind LineState} (taken n hs) (λ e. (e, hs)) w ≡ before (again hs') → ⊥
      by (pass a) h = never cc
      by (fail x) h = never cc
  kept_byte (before k) t false e = absurd t
  kept_byte (refuse x) t false e = never cc

pub block_fresh : (r : Rules) (n : ℕ) → Fresh (λ _. first tt) (lap_step r n)
block_fresh r n hs p b hs' e = kept_byte n hs hs' (line_step r fresh p b) (line_taken r p b) (blanks_before r hs b) e

pub block_next : (r : Rules) (n : ℕ) (hs : List Header) (xs : List ℕ) (p : ℕ) → block r n hs xs p ≡ rounds (retold (λ _. hs) (taken n hs) (λ e. (e, hs)) (next_line r hs xs p)) (λ hs' q. block r n hs' xs q)
block_next r n hs xs p =
    answer_loop (λ _. first tt) (λ hs _. hs) (lap_step r n) (block_fresh r n) hs (first tt) xs p
    ∙ ap (λ a. rounds a (λ hs' q. block r n hs' xs q)) (answer_judged (λ _. hs) (taken n hs) (λ e. (e, hs)) nothing (next_line_step r hs) (drop p xs) (first tt) p)

-- it is read where the blanks before it end
pub block_line : (r : Rules) (n : ℕ) (hs : List Header) {xs : List ℕ} {p q : ℕ} → Skipped (blanks_before r hs) xs p q → block r n hs xs p ≡ rounds (retold (λ _. hs) (taken n hs) (λ e. (e, hs)) (line r xs q)) (λ hs' q. block r n hs' xs q)
block_line r n hs {xs} {p} g = block_next r n hs xs p ∙ rw (reads_behind g (line_step r) fresh)

given_tell : (p : Passed) (hs : List Header) → given (tell p hs) ≡ hs
given_tell (Ok q) hs = refl
given_tell (Err More) hs = refl
given_tell (Err (Bad e)) hs = refl

tells : {a : Blocks} (hs : List Header) {r : Block} {old new : List ℕ} → tell r.end hs ≡ a → r.count ≡ length hs → new ≡ filled hs old → Told a r old new
tells {a} hs {r} e c f =
    let g : given a ≡ hs = ap given (sym e) ∙ given_tell r.end hs in
    record { answer = rw g e; count = rw g c; slots = rw g f }

pub kept_none : {settings : LineSettings} {xs old : List ℕ} {at count : ℕ} → count ≡ 0 → Kept settings (length old / 4) xs old old at at count
kept_none {old = old} e = rw e record { hs = []; size = refl; room = omega arith; same = refl; full = filled_none old; fits = omega arith; long = refl }

none_counted : (hs : List Header) {count : ℕ} → length hs ≡ count → eqb count 0 ≡ none_yet hs
none_counted [] {count} e = eq-eqb count 0 (sym e)
none_counted (h ∷ hs) {count} e = ne_eqb count 0 (λ z. omega (arith, e, z))

-- the blanks that the code passes over before a line
before_line : (settings : LineSettings) (hs : List Header) {count : ℕ} → length hs ≡ count → {xs : List ℕ} {i j : ℕ} → Skipped (blanks_if (settings.space_before_first_name && eqb count 0)) xs i j → Skipped (blanks_before (line_rules settings) hs) xs i j
before_line settings hs {count} e {xs} {i} {j} b = subst (λ y. Skipped (blanks_if (settings.space_before_first_name && y)) xs i j) (none_counted hs e) b

-- what a `?` hands on is why the block was not read
pub block_stopped : {a : Blocks} (m : Passed) (x : Unread Fault) {count : ℕ} {old new : List ℕ} → IsErrAnd m (λ d. d ≡ x) → Told a (record { end = Err x; count = count }) old new → Told a (record { end = m; count = count }) old new
block_stopped (Ok q) x h g = absurd h
block_stopped (Err d) x h g = rw h g

module _ {settings : LineSettings} {n : ℕ} {xs old new : List ℕ} {at i j count : ℕ} (k : Kept settings n xs old new at i count) (b : Skipped (blanks_if (settings.space_before_first_name && eqb count 0)) xs i j) where
  -- the block where its next line is c
  abbrev from : Answer (Unit {0}) Kind Fault → Blocks
  from c = rounds (retold (λ _. k.hs) (taken n k.hs) (λ e. (e, k.hs)) c) (λ hs' q. block (line_rules settings) n hs' xs q)

  goes : (c : Answer (Unit {0}) Kind Fault) → c ≡ line (line_rules settings) xs j → block (line_rules settings) n [] xs at ≡ from c
  goes c e = k.same ∙ block_line (line_rules settings) n k.hs (before_line settings k.hs k.size b) ∙ rw (← e)

  pub kept_stops : (x : Unread Fault) → stopped x ≡ line (line_rules settings) xs j → Told (block (line_rules settings) n [] xs at) (record { end = Err x; count = count }) old new
  kept_stops x e = tells k.hs (sym (goes (stopped x) e ∙ by x)) (sym k.size) k.full
    where
      by : (y : Unread Fault) → from (stopped y) ≡ tell (Err y) k.hs
      by More = refl
      by (Bad d) = refl

  -- behind each line less is left
  pub kept_less : {c : Kind} {q : ℕ} → got c q ≡ line (line_rules settings) xs j → length xs - q < length xs - i
  kept_less e = let w = line_behind (line_rules settings) j xs (sym e) in omega (arith, w, b.passed.from)

  -- l is the line that was read
  module _ {l : Line} {q : ℕ} (e : got (kind_of l) q ≡ line (line_rules settings) xs j) where
    on : {m : Line} → l ≡ m → block (line_rules settings) n [] xs at ≡ from (got (kind_of m) q)
    on {m} h = goes (got (kind_of m) q) (rw (← h) e)

    pub kept_end : l ≡ lines.End → Told (block (line_rules settings) n [] xs at) (record { end = Ok q; count = count }) old new
    kept_end h = tells k.hs (sym (on h)) (sym k.size) k.full

    -- a line that is passed over adds nothing
    pub kept_ignored : l ≡ lines.Ignored → Kept settings n xs old new at q count
    kept_ignored h = record { hs = k.hs; size = k.size; room = k.room; same = on h; full = k.full; fits = k.fits; long = k.long }

    module _ {g : Header} (h : l ≡ lines.Header g) where
      pub kept_full : n ≤ count → {x : Unread Fault} → x ≡ refusal TooManyHeaders g.name.offset → Told (block (line_rules settings) n [] xs at) (record { end = Err x; count = count }) old new
      kept_full u y = rw y (tells k.hs (sym (on h ∙ rw (k.size, le-ltb count n u))) (sym k.size) k.full)

      pub kept_more : count < n → {new' : List ℕ} → new' ≡ take (count * 4) new ++ numbers g ++ drop (count * 4 + 4) new → Kept settings n xs old new' at q (count + 1)
      kept_more u s = record {
        hs = k.hs ++ (g ∷ []);
        size = omega (arith, length-append k.hs (g ∷ []), k.size);
        room = omega arith;
        same = on h ∙ rw (k.size, lt-ltb count n u);
        full = s ∙ rw (← k.size, k.full) (filled_more k.hs g old);
        fits = k.fits;
        long = ap length s ∙ simp (length-append, length-take, length-drop) (omega (arith, k.fits, k.long));
      }

pub ruleset blocks = (kept_none, kept_stops, kept_less, kept_end, kept_ignored, kept_full, kept_more)
