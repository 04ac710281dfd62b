-- A chunk size line: at most sixteen hexadecimal digits, blanks, perhaps a semicolon and an extension of any bytes, then CR LF (RFC 9112, 7.1).
-- Assumes nothing.
use Rattle.std.specs.Prelude.{ℕ, ◌+◌, ◌-◌, ◌*◌, ◌^◌, ◌≤◌, ◌<◌, ◌≡◌, List, Bool, true, false, not, ◌&&◌, ◌||◌, cond, eqb, ltb, length, get_or, Result}
use Rattle.std.proofs.Common.{arith, add-one, pow-suc, ◌∙◌}
use Rattle.std.proofs.Math.Nat.{pow-le-pow_right}
use Rattle.std.proofs.Math.Path.{refl}
use Rattle.std.proofs.lemmas.Bool.{false≢true}
use borrow.Author.Tests.{eq-eqb, ne_eqb, lt-ltb, le-ltb, ltb-true, not-true, not-false}
use Rattle.reader.specs.Machine.{Move, keep, give, refuse, Step, run_at}
use Rattle.reader.specs.Skip.{Skipped}
use Rattle.reader.proofs.Skip.{skip, told_true, told_false}
use Rattle.reader.proofs.Laws.{run_in, run_out}
use Rattle.reader.specs.Answer.{Answer, got, short, bad}
use Rattle.reader.specs.Chain.{reads}
use Rattle.octets.specs.Class.{within, is_blank, is_digit, is_hex_digit}
use Rattle.octets.specs.Table.{same}
use Rattle.rules.specs.Rules.{Rules, default}
use Rattle.parts.specs.declared.Unread.{Unread}
use Rattle.parts.specs.Answers.{read, stopped}
use Rattle.parts.specs.Byte.{Is, IsPast}

-- what a hexadecimal digit is worth: 0 to 9, A to F, a to f
unfoldable pub worth : ℕ → ℕ
worth b = cond (ltb b 0x41) (b - 0x30) (cond (ltb b 0x61) (b - 0x37) (b - 0x57))

module _ (b : ℕ) where
  pub worth_digit : b < 0x41 → {r : ℕ} → r ≡ b - 0x30 → r ≡ worth b
  unfolding worth
  worth_digit h e = rw (lt-ltb b 0x41 h) e

  pub worth_capital : 0x41 ≤ b → b < 0x61 → {r : ℕ} → r ≡ b - 0x37 → r ≡ worth b
  unfolding worth
  worth_capital h l e = rw (le-ltb b 0x41 h, lt-ltb b 0x61 l) e

  pub worth_small_letter : 0x61 ≤ b → {r : ℕ} → r ≡ b - 0x57 → r ≡ worth b
  unfolding worth
  worth_small_letter h e = rw (le-ltb b 0x41 (omega arith), le-ltb b 0x61 h) e

-- w is what the digit b is worth
pub record Worth (b w : ℕ) : Type 0 where
  pub is : w ≡ worth b
  pub small : w < 16

-- no digit stands before 0x30, and each is worth less than 16
abbrev small : ℕ → Bool
small b = not (is_hex_digit b) || (ltb 0x2F b && ltb (worth b) 16)

both : (t u w : Bool) → (not t || (u && w)) ≡ true → t ≡ true → (u ≡ true) × (w ≡ true)
both true true true h e = (refl, refl)
both true true false h e = absurd (false≢true h)
both true false w h e = absurd (false≢true h)
both false u w h e = absurd (false≢true e)

module _ {b : ℕ} (d : is_hex_digit b ≡ true) (h : b < 256) where
  is_small : (ltb 0x2F b ≡ true) × (ltb (worth b) 16 ≡ true)
  unfolding worth is_hex_digit is_digit within
  is_small = both (is_hex_digit b) (ltb 0x2F b) (ltb (worth b) 16) (same small (λ _. true) refl b h) d

  pub digit_low : 0x30 ≤ b
  digit_low = omega (arith, ltb-true 0x2F b is_small.0)

  pub digit_worth : {w : ℕ} → w ≡ worth b → Worth b w
  digit_worth e = record { is = e; small = rw e (ltb-true (worth b) 16 is_small.1) }

pub ruleset worths = (worth_digit, worth_capital, worth_small_letter, digit_low, digit_worth)

-- digits so far and their number; in the blanks; in the extension; behind the CR
pub data Chunk : Type 0 where
  digits : ℕ → ℕ → Chunk
  blanks extension cr : ℕ → Chunk

-- a chunk size line has one refusal, which tells the position of its byte
abbrev pub behind_step : ℕ → ℕ → ℕ → Move Chunk ℕ ℕ
behind_step v p b =
    cond (is_blank b) (keep (blanks v))
    (cond (eqb b 59) (keep (extension v))
    (cond (eqb b 13) (keep (cr v)) (refuse p)))

abbrev pub chunk_step : Rules → Step Chunk ℕ ℕ
chunk_step r (digits k v) p b =
    cond (is_hex_digit b) (cond (ltb k 16) (keep (digits (k + 1) (v * 16 + worth b))) (refuse p))
    (cond (r.no_digit || not (eqb k 0)) (behind_step v p b) (refuse p))
chunk_step r (blanks v) p b = behind_step v p b
chunk_step r (extension v) p b = cond (eqb b 13) (keep (cr v)) (keep (extension v))
chunk_step r (cr v) p b = cond (eqb b 10) (give v) (refuse p)

abbrev pub chunk : Rules → List ℕ → Answer (Unit {0}) ℕ ℕ
chunk r xs = reads (chunk_step r) (digits 0 0) xs 0

-- the code's answer: the size and the position behind it, that more is wanted, or the position of the wrong byte
abbrev pub ChunkSize : Type 0
ChunkSize = Result (ℕ × ℕ) (Unread ℕ)

abbrev pub size_of : ChunkSize → Answer (Unit {0}) ℕ ℕ
size_of = read

-- a byte of an extension: any but CR
unfoldable pub is_extension : ℕ → Bool
is_extension b = not (eqb b 13)

pub extension_byte : (b : ℕ) → (b ≡ 13 → ⊥) → is_extension b ≡ true
unfolding is_extension
extension_byte b h = rw (ne_eqb b 13 h)

pub extension_stop : (b : ℕ) → b ≡ 13 → is_extension b ≡ false
unfolding is_extension
extension_stop b h = rw (eq-eqb b 13 h)

abbrev pub from : Chunk → List ℕ → ℕ → Answer (Unit {0}) ℕ ℕ
from c xs i = reads (chunk_step default) c xs i

-- behind the CR
module _ (v : ℕ) (xs : List ℕ) (i : ℕ) where
  pub cr_none : {x : Unread ℕ} → IsPast xs i x → stopped x ≡ from (cr v) xs i
  cr_none h = rw (h.more, run_out (chunk_step default) (cr v) xs i h.past)

  module _ {b : ℕ} (h : Is xs i b) where
    pub cr_lf : b ≡ 10 → got v (i + 1) ≡ from (cr v) xs i
    cr_lf e = rw (run_in (chunk_step default) (cr v) xs i h.inside, ← h.there, e)

    pub cr_bare : (b ≡ 10 → ⊥) → bad i ≡ from (cr v) xs i
    cr_bare e = rw (run_in (chunk_step default) (cr v) xs i h.inside, ← h.there, ne_eqb _ _ e)

  -- in the extension
  module _ {r : ℕ} (k : Skipped is_extension xs i r) where
    extension_on : i ≤ length xs → run_at (chunk_step default) (extension v) xs i ≡ run_at (chunk_step default) (extension v) xs r
    unfolding is_extension
    extension_on h = skip (chunk_step default) is_extension (extension v) (λ q b e. rw (not-true (eqb b 13) e)) xs h k.passed

    pub extension_cut : i ≤ length xs → length xs ≤ r → short tt ≡ from (extension v) xs i
    extension_cut h l = rw (extension_on h, run_out (chunk_step default) (extension v) xs r l)

    pub extension_end : i ≤ length xs → r < length xs → {z : Answer (Unit {0}) ℕ ℕ} → z ≡ from (cr v) xs (r + 1) → z ≡ from (extension v) xs i
    unfolding is_extension
    extension_end h l e = rw (extension_on h, run_in (chunk_step default) (extension v) xs r l, not-false (eqb (get_or xs r 0) 13) (k.stop l)) e

  -- in the blanks
  module _ {r : ℕ} (k : Skipped is_blank xs i r) where
    blanks_on : i ≤ length xs → run_at (chunk_step default) (blanks v) xs i ≡ run_at (chunk_step default) (blanks v) xs r
    blanks_on h = skip (chunk_step default) is_blank (blanks v) (λ q b e. rw e) xs h k.passed

    pub blanks_cut : i ≤ length xs → {x : Unread ℕ} → IsPast xs r x → stopped x ≡ from (blanks v) xs i
    blanks_cut h l = rw (l.more, blanks_on h, run_out (chunk_step default) (blanks v) xs r l.past)

    module _ (h : i ≤ length xs) {b : ℕ} (l : Is xs r b) where
      stop : is_blank b ≡ false
      stop = rw l.there (k.stop l.inside)

      pub blanks_extension : b ≡ 59 → {z : Answer (Unit {0}) ℕ ℕ} → z ≡ from (extension v) xs (r + 1) → z ≡ from (blanks v) xs i
      blanks_extension e g = rw (blanks_on h, run_in (chunk_step default) (blanks v) xs r l.inside, ← l.there, stop, eq-eqb _ _ e) g

      pub blanks_cr : b ≡ 13 → {z : Answer (Unit {0}) ℕ ℕ} → z ≡ from (cr v) xs (r + 1) → z ≡ from (blanks v) xs i
      blanks_cr e g = rw (blanks_on h, run_in (chunk_step default) (blanks v) xs r l.inside, ← l.there, stop, e) g

      pub blanks_bad : (b ≡ 59 → ⊥) → (b ≡ 13 → ⊥) → bad r ≡ from (blanks v) xs i
      blanks_bad n e = rw (blanks_on h, run_in (chunk_step default) (blanks v) xs r l.inside, ← l.there, stop, ne_eqb _ _ n, ne_eqb _ _ e)

pub ruleset behinds = (cr_none, cr_lf, cr_bare, extension_cut, extension_end, blanks_cut, blanks_extension, blanks_cr, blanks_bad)

-- the first i bytes are digits, and v is what they are worth
pub record Counted (xs : List ℕ) (i v : ℕ) : Type 0 where
  pub inside : i ≤ length xs
  pub most : i ≤ 16
  pub small : v < 16 ^ i
  pub runs : run_at (chunk_step default) (digits 0 0) xs 0 ≡ run_at (chunk_step default) (digits i v) xs i

pub counted_none : {xs : List ℕ} → Counted xs 0 0
counted_none = record { inside = omega arith; most = omega arith; small = omega arith; runs = refl }

module _ {xs : List ℕ} {i v : ℕ} (c : Counted xs i v) where
  -- so that a digit more fits 64 bits
  counted_fits : i < 16 → v < 0x1000_0000_0000_0000
  counted_fits h = let p : 16 ^ i ≤ 16 ^ 15 = pow-le-pow_right (omega arith) {i = i} {j = 15} (omega arith) in omega (arith, c.small)

  pub counted_mul : i < 16 → v * 16 < 0x1_0000_0000_0000_0000
  counted_mul h = omega (arith, counted_fits h)

  pub counted_add : i < 16 → {b w : ℕ} → Worth b w → v * 16 + w < 0x1_0000_0000_0000_0000
  counted_add h e = omega (arith, counted_fits h, e.small)

  pub counted_out : length xs ≤ i → short tt ≡ chunk default xs
  counted_out h = rw (c.runs, run_out (chunk_step default) (digits i v) xs i h)

  module _ (h : i < length xs) where
    pub counted_behind : is_hex_digit (get_or xs i 0) ≡ false → {z : Answer (Unit {0}) ℕ ℕ} → z ≡ from (blanks v) xs i → z ≡ chunk default xs
    counted_behind d e = rw (c.runs, run_in (chunk_step default) (digits i v) xs i h, d) (e ∙ rw (run_in (chunk_step default) (blanks v) xs i h))

    module _ (d : is_hex_digit (get_or xs i 0) ≡ true) where
      pub counted_full : 16 ≤ i → bad i ≡ chunk default xs
      counted_full m = rw (c.runs, run_in (chunk_step default) (digits i v) xs i h, d, le-ltb i 16 m)

      pub counted_more : i < 16 → {w : ℕ} → Worth (get_or xs i 0) w → Counted xs (i + 1) (v * 16 + w)
      counted_more m {w} e = record {
        inside = omega arith;
        most = omega arith;
        small = rw (add-one, pow-suc) (omega (arith, c.small, e.small));
        runs = rw (c.runs, run_in (chunk_step default) (digits i v) xs i h, d, lt-ltb i 16 m, e.is);
      }

pub ruleset counts = (counted_none, counted_mul, counted_add, counted_out, counted_behind, counted_full, counted_more, told_true, told_false)
