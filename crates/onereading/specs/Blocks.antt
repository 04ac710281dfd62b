-- The headers that a block has given stay given as bytes arrive.
-- Assumes nothing.
use Rattle.std.specs.Prelude.{ℕ, zero, suc, ◌+◌, ◌*◌, ◌≤◌, ◌≡◌, refl, List, [], ◌∷◌, ◌++◌, ltb, length}
use Rattle.std.proofs.Common.{arith, subst, ◌∙◌, append_assoc, append-nil}
use Rattle.std.proofs.Math.Path.{sym, ap}
use Rattle.std.proofs.Math.ListN.{take, drop}
use Rattle.std.proofs.Math.Seq.{take_at}
use Rattle.reader.specs.Answer.{Answer, got, short, bad, verdict, retold, rounds}
use Rattle.reader.specs.Chain.{nothing}
use Rattle.reader.specs.Branch.{fresh}
use Rattle.reader.specs.Seq.{first}
use Rattle.reader.specs.Tests.{split}
use Rattle.reader.specs.Later.{Later, same, waited}
use Rattle.reader.proofs.Later.{later}
use Rattle.rules.specs.Rules.{Rules}
use Rattle.parts.specs.declared.Fault.{Fault}
use Rattle.fields.specs.declared.Header.{Header}
use Rattle.gaps.specs.Gap.{gap_end}
use Rattle.gaps.proofs.Gap.{end_skipped, reads_behind}
use Rattle.fields.specs.Line.{Kind, header, end, ignored, line_step}
use Rattle.fields.proofs.LineRead.{line_behind}
use Rattle.blocks.specs.Slots.{numbers, flat, filled, length_flat}
use Rattle.blocks.specs.Block.{taken, blanks_before, next_line_step, next_line, block, given}
use Rattle.blocks.proofs.BlockRead.{block_next}
use Rattle.agreement.specs.Fields.{given_all}

-- all begins with these
pub record Starts (hs all : List Header) : Type 0 where
  pub more : List Header
  pub whole : all ≡ hs ++ more

pub starts_refl : (hs : List Header) → Starts hs hs
starts_refl hs = record { more = []; whole = sym (append-nil hs) }

starts_more : (hs all : List Header) (h : Header) → Starts hs all → Starts hs (all ++ (h ∷ []))
starts_more hs all h s = record { more = s.more ++ (h ∷ []); whole = ap (λ y. y ++ (h ∷ [])) s.whole ∙ append_assoc hs s.more (h ∷ []) }

-- what a block goes on to after a line
abbrev after_line : Rules → ℕ → List ℕ → List Header → Answer (Unit {0}) Kind Fault → List Header
after_line r n z hs a = given (rounds (retold (λ _. hs) (taken n hs) (λ e. (e, hs)) a) (λ hs' q. block r n hs' z q))

-- a line, with the blanks before it, ends behind its start
pub next_within : (r : Rules) (xs : List ℕ) (hs : List Header) (p q : ℕ) (k : Kind) → next_line r hs xs p ≡ got k q → (p + 1 ≤ q) × (q ≤ length xs)
next_within r xs hs p q k e =
    let g = end_skipped (blanks_before r hs) xs p in
    let w = line_behind r (gap_end (blanks_before r hs) xs p) xs (sym (reads_behind g (line_step r) fresh) ∙ e) in
    (omega (arith, w.0, g.passed.from), w.1)

module _ (r : Rules) (n : ℕ) where
  pub block_keeps : (z : List ℕ) (hs : List Header) (p : ℕ) → Starts hs (given (block r n hs z p))
  block_keeps z hs p = given_all z r n (Starts hs) (λ ks h i q e l s. starts_more hs ks h s) hs p (starts_refl hs)

  module _ (xs ys : List ℕ) where
    abbrev Grows : List Header → ℕ → Type 0
    Grows hs q = Starts (given (block r n hs xs q)) (given (block r n hs (xs ++ ys) q))

    grows_line : (hs : List Header) (p : ℕ) → ((hs' : List Header) (q : ℕ) → p + 1 ≤ q → q ≤ length xs → Grows hs' q) → {a b : Answer (Unit {0}) Kind Fault} → next_line r hs xs p ≡ a → Later a b → Starts hs (after_line r n (xs ++ ys) hs b) → Starts (after_line r n xs hs a) (after_line r n (xs ++ ys) hs b)
    grows_line hs p ih e (same {a = short u}) w = starts_refl hs
    grows_line hs p ih e (same {a = bad x}) w = starts_refl hs
    grows_line hs p ih e (same {a = got end q}) w = starts_refl hs
    grows_line hs p ih e (same {a = got ignored q}) w = let k = next_within r xs hs p q ignored e in ih hs q k.0 k.1
    grows_line hs p ih e (same {a = got (header h) q}) w =
        split (λ v. Starts (given (rounds (verdict {U = Unit {0}} (λ _. hs) (taken n hs) (λ e. (e, hs)) v q) (λ hs' q. block r n hs' xs q))) (given (rounds (verdict {U = Unit {0}} (λ _. hs) (taken n hs) (λ e. (e, hs)) v q) (λ hs' q. block r n hs' (xs ++ ys) q)))) (ltb (length hs) n)
        (λ t. let k = next_within r xs hs p q (header h) e in ih (hs ++ (h ∷ [])) q k.0 k.1)
        (λ t. starts_refl hs)
    grows_line hs p ih e waited w = w

    line_later : (hs : List Header) (p : ℕ) → Later (next_line r hs xs p) (next_line r hs (xs ++ ys) p)
    line_later hs p = later nothing (next_line_step r hs) (first tt) xs ys p

    grows_step : (hs : List Header) (p : ℕ) → ((hs' : List Header) (q : ℕ) → p + 1 ≤ q → q ≤ length xs → Grows hs' q) → Grows hs p
    grows_step hs p ih =
        subst (λ a. Starts (given a) (given (block r n hs (xs ++ ys) p))) (sym (block_next r n hs xs p))
        (subst (λ b. Starts (after_line r n xs hs (next_line r hs xs p)) (given b)) (sym (block_next r n hs (xs ++ ys) p))
        (grows_line hs p ih refl (line_later hs p) (subst (λ b. Starts hs (given b)) (block_next r n hs (xs ++ ys) p) (block_keeps (xs ++ ys) hs p))))

    grows_by : (m : ℕ) (hs : List Header) (p : ℕ) → length xs ≤ p + m → Starts (given (block r n hs xs p)) (given (block r n hs (xs ++ ys) p))
    grows_by zero hs p l = grows_step hs p (λ hs' q i j. absurd (omega (arith, i, j, l)))
    grows_by (suc m) hs p l = grows_step hs p (λ hs' q i j. grows_by m hs' q (omega (arith, i, l)))

    pub block_grows : (hs : List Header) (p : ℕ) → Starts (given (block r n hs xs p)) (given (block r n hs (xs ++ ys) p))
    block_grows hs p = grows_by (length xs) hs p (omega arith)

-- the slots of the headers that were given are as they were
flat_append : (hs ks : List Header) → flat (hs ++ ks) ≡ flat hs ++ flat ks
unfolding flat
flat_append [] ks = refl
flat_append (h ∷ hs) ks = ap (λ y. numbers h ++ y) (flat_append hs ks)

-- whatever stood in the slots before, old and then old'
module _ (hs : List Header) (old old' : List ℕ) where
  first_slots : take (length hs * 4) (filled hs old) ≡ flat hs
  unfolding filled
  first_slots = take_at (flat hs) (drop (length hs * 4) old) (length hs * 4) (length_flat hs)

  pub slots_same : (all : List Header) → Starts hs all → take (length hs * 4) (filled all old') ≡ take (length hs * 4) (filled hs old)
  unfolding filled
  slots_same all s =
      ap (λ y. take (length hs * 4) (y ++ drop (length all * 4) old')) (ap flat s.whole ∙ flat_append hs s.more)
      ∙ ap (take (length hs * 4)) (append_assoc (flat hs) (flat s.more) (drop (length all * 4) old'))
      ∙ take_at (flat hs) (flat s.more ++ drop (length all * 4) old') (length hs * 4) (length_flat hs)
      ∙ sym first_slots

  pub slots_again : filled hs old' ≡ take (length hs * 4) (filled hs old) ++ drop (length hs * 4) old'
  unfolding filled
  slots_again = ap (λ y. y ++ drop (length hs * 4) old') (sym first_slots)
