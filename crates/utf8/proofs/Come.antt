-- How far the check has come: the reader from the first byte is where the reader is now.
-- Assumes nothing.
use Prim.Native.Nat.{ℕ, zero, suc, ◌+◌, ◌-◌, ◌≤◌, ◌<◌}
use native.Mathlib.Omega.{arith}
use mathlib.Core.Path.{◌≡◌, refl, ap}
use mathlib.Core.List.{List, []}
use mathlib.Core.Bool.{true, false}
use Rattle.std.specs.Prelude.{Option, Some, None}
use lib.Dec.{eqb}
use borrow.Author.Tests.{ne_eqb}
use lib.ListN.{length, get_or, replicate}
use Rattle.reader.specs.Machine.{keep, refuse, more, run_at}
use Rattle.reader.proofs.Laws.{run_in, run_out}
use Rattle.reader.specs.Skip.{Skipped}
use Rattle.reader.proofs.Skip.{skip}
use Rattle.octets.specs.Class.{within, is_ascii}
use Rattle.utf8.specs.declared.Awaited.{Awaited}
use Rattle.utf8.specs.Reader.{tail, lead, step, machine, whole, utf8}
use Rattle.utf8.specs.Values.{awaiting, state, moved}

-- the machine's step, by how many bytes are awaited
pub step_first : (n lo hi b : ℕ) → n ≡ 0 → lead b ≡ step (awaiting n lo hi) b
step_first zero lo hi b e = refl
step_first (suc n) lo hi b e = absurd (omega arith)

all_tails : (n : ℕ) → awaiting n 0x80 0xBF ≡ replicate n tail
all_tails zero = refl
all_tails (suc n) = refl

pub step_in : (n lo hi b : ℕ) → (n ≡ 0 → ⊥) → within lo hi b ≡ true → keep (awaiting (n - 1) 0x80 0xBF) ≡ step (awaiting n lo hi) b
step_in zero lo hi b h e = absurd (h refl)
step_in (suc n) lo hi b h e = let q : suc n - 1 ≡ n = omega arith in rw (q, e) (ap keep (all_tails n))

pub step_out : (n lo hi b : ℕ) → (n ≡ 0 → ⊥) → within lo hi b ≡ false → refuse tt ≡ step (awaiting n lo hi) b
step_out zero lo hi b h e = absurd (h refl)
step_out (suc n) lo hi b h e = rw e

pub ruleset steps = (step_first, step_in, step_out)

pub record Come (xs : List ℕ) (a : Awaited) (i : ℕ) : Type 0 where
  pub inside : i ≤ length xs
  pub runs : run_at machine [] xs 0 ≡ run_at machine (state a) xs i

none_awaited : (n lo hi : ℕ) → n ≡ 0 → awaiting n lo hi ≡ []
none_awaited zero lo hi e = refl
none_awaited (suc n) lo hi e = absurd (omega arith)

at_rest : (n lo hi : ℕ) → eqb n 0 ≡ whole (more (awaiting n lo hi))
at_rest zero lo hi = refl
at_rest (suc n) lo hi = ne_eqb (suc n) 0 (omega arith)

ascii_kept : (p b : ℕ) → is_ascii b ≡ true → machine [] p b ≡ keep []
unfolding is_ascii lead
ascii_kept p b e = rw e

module _ {xs : List ℕ} where
  pub come_ascii : {a : Awaited} {i : ℕ} → a.left ≡ 0 → Skipped is_ascii xs 0 i → Come xs a i
  come_ascii {a} e k = record { inside = k.passed.inside (omega arith); runs = rw (none_awaited a.left a.low a.high e) (skip machine is_ascii [] ascii_kept xs (omega arith) k.passed) }

module _ {xs : List ℕ} {a : Awaited} {i : ℕ} (h : Come xs a i) where
  pub come_more : {m : Option Awaited} {a' : Awaited} → i < length xs → moved m ≡ step (state a) (get_or xs i 0) → m ≡ Some a' → Come xs a' (i + 1)
  come_more l e k = record { inside = omega arith; runs = rw (h.runs, run_in machine (state a) xs i l, ← e, k) }

  pub come_refused : {m : Option Awaited} → i < length xs → moved m ≡ step (state a) (get_or xs i 0) → m ≡ None → false ≡ utf8 xs
  come_refused l e k = rw (h.runs, run_in machine (state a) xs i l, ← e, k)

  pub come_end : length xs ≤ i → eqb a.left 0 ≡ utf8 xs
  come_end l = rw (h.runs, run_out machine (state a) xs i l) (at_rest a.left a.low a.high)

pub ruleset comes = (come_ascii, come_more, come_refused, come_end)
