-- A request target: one or more bytes of a class, well-formed UTF-8 as a whole, then a space (RFC 9112, 3.2, and what httparse allows beyond it).
-- Assumes nothing.
use Prim.Native.Nat.{ℕ, zero, suc, ◌+◌, ◌-◌, ◌≤◌, ◌<◌}
use Rattle.std.proofs.Common.{arith, add-zero, ◌∙◌}
use Rattle.std.specs.Prelude.{◌≡◌, refl, Bool, true, false, not, cond, eqb, get_or, take, drop}
use mathlib.Core.List.{List, [], ◌∷◌}
use Rattle.std.proofs.Math.ListN.{length}
use borrow.Author.Tests.{eq-eqb, ne_eqb}
use Rattle.reader.specs.Machine.{Move, keep, give, before, refuse, Run, more, gave, refused, Step, after, run, run_at}
use Rattle.reader.specs.Bytes.{drop_in}
use Rattle.reader.specs.Skip.{Skipped}
use Rattle.reader.proofs.Skip.{told_true, told_false}
use Rattle.reader.specs.Laws.{resume}
use Rattle.reader.proofs.Laws.{run_in, run_out}
use Rattle.reader.specs.Answer.{Answer, got}
use Rattle.reader.specs.Chain.{reads}
use Rattle.octets.specs.Class.{is_target, is_visible}
use Rattle.octets.specs.Outside.{space_no_target, space_not_visible}
use Rattle.utf8.specs.Reader.{State, step, machine, whole, utf8}
use Rattle.parts.specs.declared.Error.TheVariants.{Token}
use Rattle.parts.specs.declared.Fault.{Fault}
use Rattle.parts.specs.declared.Piece.{Piece}
use Rattle.parts.specs.declared.Unread.{Unread}
use Rattle.parts.specs.Answers.{piece, fault, refusal, stopped}
use Rattle.parts.specs.Byte.{Is, IsPast}

-- a run of the UTF-8 reader
abbrev pub Utf8 : Type 0
Utf8 = Run State ⊥ (Unit {0})

-- no byte yet; or bytes from a position on, and what the UTF-8 reader has come to
pub data Target : Type 0 where
  none : Target
  some : ℕ → Utf8 → Target

abbrev pub feed : Utf8 → ℕ → ℕ → Utf8
feed u p b = resume machine u p (b ∷ [])

-- any target byte, or visible ASCII alone
abbrev pub target_byte : Bool → ℕ → Bool
target_byte any b = cond any (is_target b) (is_visible b)

-- what is not UTF-8 is noticed at the space, and not before; a byte that is not of the class at once
abbrev pub target_step : (ℕ → Bool) → Step Target Piece Fault
target_step class none p b = cond (class b) (keep (some p (feed (more []) p b))) (refuse (fault Token p))
target_step class (some a u) p b =
    cond (class b) (keep (some a (feed u p b)))
    (cond (eqb b 32) (cond (whole u) (give (piece a p)) (refuse (fault Token p))) (refuse (fault Token p)))

abbrev pub target : (ℕ → Bool) → List ℕ → ℕ → Answer (Unit {0}) Piece Fault
target class xs at = reads (target_step class) none xs at

pub space_no_target_byte : (any : Bool) → target_byte any 32 ≡ false
space_no_target_byte true = space_no_target
space_no_target_byte false = space_not_visible

-- which bytes the setting lets in
pub byte_visible : {ascii t : Bool} (b : ℕ) → ascii ≡ true → t ≡ is_visible b → t ≡ target_byte (not ascii) b
byte_visible b a e = rw a e

pub byte_target : {ascii t : Bool} (b : ℕ) → ascii ≡ false → t ≡ is_target b → t ≡ target_byte (not ascii) b
byte_target b a e = rw a e

pub skip_visible : {ascii : Bool} {xs : List ℕ} {i r : ℕ} → ascii ≡ true → Skipped is_visible xs i r → Skipped (target_byte (not ascii)) xs i r
skip_visible a k = rw a k

pub skip_target : {ascii : Bool} {xs : List ℕ} {i r : ℕ} → ascii ≡ false → Skipped is_target xs i r → Skipped (target_byte (not ascii)) xs i r
skip_target a k = rw a k

pub ruleset target_bytes = (byte_visible, byte_target, skip_visible, skip_target)

-- the UTF-8 reader goes on where it was, and what it thinks of the bytes does not depend on where they stand
pub resume_none : (u : Utf8) (p : ℕ) → resume machine u p [] ≡ u
resume_none (more s) p = refl
resume_none (gave a q) p = refl
resume_none (refused e q) p = refl

resume_move : (p : ℕ) (ys : List ℕ) (v : Move State ⊥ (Unit {0})) → resume machine (after v p (λ s. more s)) (p + 1) ys ≡ after v p (λ s. run machine s (p + 1) ys)
resume_move p ys (keep s) = refl
resume_move p ys (give a) = refl
resume_move p ys (before a) = refl
resume_move p ys (refuse e) = refl

pub resume_fed : (u : Utf8) (p x : ℕ) (ys : List ℕ) → resume machine (feed u p x) (p + 1) ys ≡ resume machine u p (x ∷ ys)
resume_fed (more s) p x ys = resume_move p ys (step s x)
resume_fed (gave a q) p x ys = refl
resume_fed (refused e q) p x ys = refl

same_move : (p q : ℕ) (ys : List ℕ) (v : Move State ⊥ (Unit {0})) → ((s : State) → whole (run machine s (p + 1) ys) ≡ whole (run machine s (q + 1) ys)) → whole (after v p (λ s. run machine s (p + 1) ys)) ≡ whole (after v q (λ s. run machine s (q + 1) ys))
same_move p q ys (keep s) ih = ih s
same_move p q ys (give a) ih = refl
same_move p q ys (before a) ih = refl
same_move p q ys (refuse e) ih = refl

pub anywhere : (ys : List ℕ) (s : State) (p q : ℕ) → whole (run machine s p ys) ≡ whole (run machine s q ys)
anywhere [] [] p q = refl
anywhere [] (r ∷ rs) p q = refl
anywhere (y ∷ ys) s p q = same_move p q ys (step s y) (λ s'. anywhere ys s' (p + 1) (q + 1))

module _ (class : ℕ → Bool) (xs : List ℕ) (a : ℕ) where
  fed : (d i : ℕ) (u : Utf8) → i + d ≤ length xs → ((k : ℕ) → i ≤ k → k < i + d → class (get_or xs k 0) ≡ true) → run_at (target_step class) (some a u) xs i ≡ run_at (target_step class) (some a (resume machine u i (take d (drop i xs)))) xs (i + d)
  fed zero i u h g = rw (resume_none u i, add-zero)
  fed (suc d) i u h g =
      let e : i + 1 + d ≡ i + suc d = omega arith in
      run_in (target_step class) (some a u) xs i (omega arith)
      ∙ rw (g i (omega arith) (omega arith))
      (fed d (i + 1) (feed u i (get_or xs i 0)) (omega arith) (λ k lo hi. g k (omega arith) (omega arith)) ∙ rw (e, resume_fed u i (get_or xs i 0) (take d (drop (i + 1) xs)), drop_in xs i (omega arith)))

module _ (class : ℕ → Bool) (xs : List ℕ) (at : ℕ) where
  pub target_none : {x : Unread Fault} → IsPast xs at x → stopped x ≡ target class xs at
  target_none h = rw (h.more, run_out (target_step class) none xs at h.past)

  module _ {b : ℕ} (h : Is xs at b) where
    pub target_not : class b ≡ false → {x : Unread Fault} → x ≡ refusal Token at → stopped x ≡ target class xs at
    target_not c i = rw (i, run_in (target_step class) none xs at h.inside, ← h.there, c)

    module _ {r : ℕ} (c : class b ≡ true) (k : Skipped class xs (at + 1) r) where
      seen : Utf8
      seen = run machine [] at (take (r - at) (drop at xs))

      target_some : run_at (target_step class) none xs at ≡ run_at (target_step class) (some at seen) xs r
      unfolding seen
      target_some =
          let d : at + 1 + (r - (at + 1)) ≡ r = omega (arith, k.passed.from) in
          let n : r - at ≡ suc (r - (at + 1)) = omega (arith, k.passed.from) in
          let l : r ≤ length xs = k.passed.inside (omega (arith, h.inside)) in
          rw (run_in (target_step class) none xs at h.inside, ← h.there, c, h.there)
          (fed class xs at (r - (at + 1)) (at + 1) (feed (more []) at (get_or xs at 0)) (omega arith) (λ i lo hi. k.passed.all i lo (omega arith))
          ∙ rw (d, resume_fed (more []) at (get_or xs at 0) (take (r - (at + 1)) (drop (at + 1) xs)), n, drop_in xs at h.inside))

      pub target_more : {x : Unread Fault} → IsPast xs r x → stopped x ≡ target class xs at
      target_more l = rw (l.more, target_some, run_out (target_step class) (some at seen) xs r l.past)

      module _ {e : ℕ} (l : Is xs r e) where
        pub target_bad : (e ≡ 32 → ⊥) → {x : Unread Fault} → x ≡ refusal Token r → stopped x ≡ target class xs at
        target_bad t i = rw (i, target_some, run_in (target_step class) (some at seen) xs r l.inside, k.stop l.inside, ← l.there, ne_eqb _ _ t)

        -- what the test of UTF-8 told comes before what it tells of, so that a search knows which test is meant
        module _ (t : e ≡ 32) where
          pub target_end : {w : Bool} → not w ≡ false → w ≡ utf8 (take (r - at) (drop at xs)) → got (piece at r) (r + 1) ≡ target class xs at
          unfolding seen
          target_end v u = rw (target_some, run_in (target_step class) (some at seen) xs r l.inside, k.stop l.inside, ← l.there, eq-eqb _ _ t, anywhere (take (r - at) (drop at xs)) [] at 0, told_true u v)

          pub target_broken : {w : Bool} → not w ≡ true → w ≡ utf8 (take (r - at) (drop at xs)) → {x : Unread Fault} → x ≡ refusal Token r → stopped x ≡ target class xs at
          unfolding seen
          target_broken v u i = rw (i, target_some, run_in (target_step class) (some at seen) xs r l.inside, k.stop l.inside, ← l.there, eq-eqb _ _ t, anywhere (take (r - at) (drop at xs)) [] at 0, told_false u v)

pub ruleset targets = (target_none, target_not, target_more, target_bad, target_end, target_broken, told_true, told_false)
