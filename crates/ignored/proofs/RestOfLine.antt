-- The rest of a line that is passed over: bytes but NUL, CR and LF, and the line's end.
-- Assumes nothing.
use Rattle.std.specs.Prelude.{ℕ, ◌+◌, ◌-◌, ◌≤◌, ◌<◌, ◌≡◌, refl, List, Bool, true, false, ltb, length, get_or, drop}
use Rattle.std.proofs.Common.{arith, sym, ap, ◌∙◌, inl, inr}
use borrow.Author.Tests.{lt-ltb, ne_eqb, ltb-true}
use Rattle.reader.specs.Machine.{run_at}
use Rattle.reader.proofs.Laws.{run_in}
use Rattle.reader.specs.Seq.{first, second}
use Rattle.reader.specs.Skip.{Skipped}
use Rattle.reader.proofs.Skip.{passed_none, passed_more, skipped_at, skipped_end}
use Rattle.reader.specs.Lifted.{run_lifted}
use Rattle.reader.specs.Answer.{Answer, answer}
use Rattle.reader.proofs.Answer.{answer_ran}
use Rattle.reader.specs.Chain.{nothing, reads}
use Rattle.rules.specs.Rules.{default}
use Rattle.parts.specs.declared.Error.{Error}
use Rattle.parts.specs.declared.Fault.{Fault}
use Rattle.parts.specs.LineEnd.{begin, cr, line_end_step, line_end}
use Rattle.gaps.proofs.Gap.{reads_behind}
use Rattle.ignored.specs.Rest.{Starts, StartsIn, is_ignorable, rest_of_line, rest_step, seen}

pub starts_cr : {xs : List ℕ} {at p q : ℕ} → at < p → get_or xs (p - 1) 0 ≡ 13 → q ≡ p - 1 → StartsIn xs at p q
starts_cr l c e i = inl (l, c, e)

pub starts_behind : {xs : List ℕ} {at p q : ℕ} → (get_or xs (p - 1) 0 ≡ 13 → ⊥) → Skipped is_ignorable xs p q → StartsIn xs at p q
starts_behind c g i = inr (λ _. c, g)

pub starts_first : {xs : List ℕ} {at p q : ℕ} → p ≤ at → Skipped is_ignorable xs p q → StartsIn xs at p q
starts_first l g i = inr (λ h. absurd (omega (arith, l, h)), g)

pub starts_outside : {xs : List ℕ} {at p q : ℕ} → length xs < p → StartsIn xs at p q
starts_outside l i = absurd (omega (arith, l, i))

-- behind a CR the line's end goes on
module _ (e : Error) (xs : List ℕ) where
  from_cr : (p : ℕ) → reads (rest_step default e) (second tt cr) xs p ≡ reads (line_end_step default e) cr xs p
  from_cr p = ap (answer nothing) (run_lifted (second tt) (line_end_step default e) (rest_step default e) (λ t q b. refl) (drop p xs) cr p) ∙ answer_ran (second tt) nothing (run_at (line_end_step default e) cr xs p)

  behind_cr : (p : ℕ) → p < length xs → get_or xs p 0 ≡ 13 → line_end default e xs p ≡ reads (line_end_step default e) cr xs (p + 1)
  behind_cr p l c = rw (run_in (line_end_step default e) begin xs p l, c)

  start_is : {at p q : ℕ} → p ≤ length xs → Starts xs at p q → line_end default e xs q ≡ rest_of_line e xs at p
  start_is {at} {p} {q} i (inl (l, c, k)) =
      let n : p - 1 + 1 ≡ p = omega (arith, l) in
      ap (line_end default e xs) k ∙ behind_cr (p - 1) (omega (arith, i, l)) c ∙ ap (reads (line_end_step default e) cr xs) n ∙ sym (from_cr p)
      ∙ sym (rw (lt-ltb at p l, c))
  start_is {at} {p} {q} i (inr (c, g)) = sym (ap (λ s. reads (rest_step default e) s xs p) (none (ltb at p) refl) ∙ reads_behind g (line_end_step default e) begin)
    where
      none : (t : Bool) → ltb at p ≡ t → seen xs at p ≡ first tt
      none false h = rw h
      none true h = rw (h, ne_eqb (get_or xs (p - 1) 0) 13 (c (ltb-true at p h)))

  pub rest_is : {at p q : ℕ} {a : Answer (Unit {0}) (Unit {0}) Fault} → StartsIn xs at p q → a ≡ line_end default e xs q → p ≤ length xs → a ≡ rest_of_line e xs at p
  rest_is g h i = h ∙ start_is i (g i)

-- what the tests of a byte say
module _ {b : ℕ} where
  pub nul_stops : b ≡ 0 → is_ignorable b ≡ false
  unfolding is_ignorable
  nul_stops e = rw e

  pub cr_stops : b ≡ 13 → is_ignorable b ≡ false
  unfolding is_ignorable
  cr_stops e = rw e

  pub lf_stops : b ≡ 10 → is_ignorable b ≡ false
  unfolding is_ignorable
  lf_stops e = rw e

  pub others_pass : (b ≡ 0 → ⊥) → (b ≡ 13 → ⊥) → (b ≡ 10 → ⊥) → is_ignorable b ≡ true
  unfolding is_ignorable
  others_pass n c l = rw (ne_eqb b 0 n, ne_eqb b 13 c, ne_eqb b 10 l)

pub ruleset skips = (passed_none, passed_more, skipped_at, skipped_end, nul_stops, cr_stops, lf_stops, others_pass)

pub ruleset rests = (starts_cr, starts_behind, starts_first, starts_outside, rest_is)
