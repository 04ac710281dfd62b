-- A word: one or more bytes of a class, then the byte that ends it.
-- Assumes nothing.
use Rattle.std.specs.Prelude.{ℕ, ◌+◌, ◌≡◌, List, Bool, true, false, cond, eqb}
use Rattle.std.proofs.Common.{arith, eq-eqb, ne_eqb}
use Rattle.reader.specs.Machine.{keep, give, refuse, Step, run_at}
use Rattle.reader.specs.Skip.{Skipped}
use Rattle.reader.proofs.Skip.{skip, told_true, told_false}
use Rattle.reader.proofs.Laws.{run_in, run_out}
use Rattle.reader.specs.Answer.{Answer, got}
use Rattle.reader.specs.Chain.{reads}
use Rattle.parts.specs.declared.Error.{Error}
use Rattle.parts.specs.declared.Fault.{Fault}
use Rattle.parts.specs.declared.Piece.{Piece}
use Rattle.parts.specs.declared.Unread.{Unread}
use Rattle.parts.specs.Answers.{piece, fault, refusal, stopped}
use Rattle.parts.specs.Byte.{Is, IsPast}

-- no byte of the word yet, or one or more from a position on
pub data Word : Type 0 where
  none : Word
  some : ℕ → Word

abbrev pub word_step : (ℕ → Bool) → ℕ → Error → Step Word Piece Fault
word_step class end e none p b = cond (class b) (keep (some p)) (refuse (fault e p))
word_step class end e (some a) p b = cond (class b) (keep (some a)) (cond (eqb b end) (give (piece a p)) (refuse (fault e p)))

abbrev pub word : (ℕ → Bool) → ℕ → Error → List ℕ → ℕ → Answer (Unit {0}) Piece Fault
word class end e xs at = reads (word_step class end e) none xs at

module _ (class : ℕ → Bool) (end : ℕ) (e : Error) (xs : List ℕ) (at : ℕ) where
  pub word_none : {x : Unread Fault} → IsPast xs at x → stopped x ≡ word class end e xs at
  word_none h = rw (h.more, run_out (word_step class end e) none xs at h.past)

  module _ {b : ℕ} (h : Is xs at b) where
    pub word_not : class b ≡ false → {x : Unread Fault} → x ≡ refusal e at → stopped x ≡ word class end e xs at
    word_not c i = rw (i, run_in (word_step class end e) none xs at h.inside, ← h.there, c)

    module _ {r : ℕ} (c : class b ≡ true) (k : Skipped class xs (at + 1) r) where
      word_some : run_at (word_step class end e) none xs at ≡ run_at (word_step class end e) (some at) xs r
      word_some =
          rw (run_in (word_step class end e) none xs at h.inside, ← h.there, c)
          (skip (word_step class end e) class (some at) (λ q b t. rw t) xs (omega (arith, h.inside)) k.passed)

      pub word_more : {x : Unread Fault} → IsPast xs r x → stopped x ≡ word class end e xs at
      word_more l = rw (l.more, word_some, run_out (word_step class end e) (some at) xs r l.past)

      module _ {d : ℕ} (l : Is xs r d) where
        pub word_end : d ≡ end → got (piece at r) (r + 1) ≡ word class end e xs at
        word_end t = rw (word_some, run_in (word_step class end e) (some at) xs r l.inside, k.stop l.inside, ← l.there, eq-eqb _ _ t)

        pub word_bad : (d ≡ end → ⊥) → {x : Unread Fault} → x ≡ refusal e r → stopped x ≡ word class end e xs at
        word_bad t i = rw (i, word_some, run_in (word_step class end e) (some at) xs r l.inside, k.stop l.inside, ← l.there, ne_eqb _ _ t)

-- what proves a function that reads a word
pub ruleset words = (word_none, word_not, word_more, word_end, word_bad, told_true, told_false)
