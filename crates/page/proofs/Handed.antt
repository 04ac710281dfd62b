-- Text that is handed to a formatter in parts: what was handed over, and what is left of it in the room, is all of it.
-- Assumes nothing.
use Rattle.std.specs.Prelude.{ℕ, ◌+◌, ◌≤◌, ◌≡◌, refl, List, ◌++◌, length, take}
use Rattle.std.specs.Fmt.{HasWritten}
use Rattle.std.specs.declared.fmt.Formatter.{Formatter}
use Rattle.std.proofs.Common.{arith, sym, ap, ◌∙◌, length-take-le, take-take}
use Rattle.std.proofs.Math.Seq.{take-append-add}
use Rattle.std.proofs.lemmas.Slice.{take-put_mid}
use Rattle.std.proofs.lemmas.Grind.{put_two}
use borrow.Rule.Slice.PartMut.{put_mid}

-- of four bytes that were put at a position, the first few stand behind what stood before it
pub take_put : {X : Type 0} (a k n : ℕ) (xs ys : List X) → a ≤ length xs → n ≤ length ys → take (a + n) (put_mid a k xs ys) ≡ take a xs ++ take n ys
take_put a k n xs ys p q =
    sym (take-take (a + n) (a + length ys) _ (omega arith)) ∙ ap (take (a + n)) (take-put_mid a k xs ys (a + length ys) refl p) ∙ ap (λ m. take (m + n) (take a xs ++ ys)) (sym (length-take-le a xs p)) ∙ take-append-add (take a xs) ys n

-- done was handed to f, which is g by then, and with what is left it is all
pub record Handed {W : Type 0} (took : W → List ℕ → W → Type 0) (f : Formatter W) (left all : List ℕ) (g : Formatter W) : Type 0 where
  pub done : List ℕ
  pub wrote : HasWritten took f done g
  pub whole : done ++ left ≡ all

module _ {W : Type 0} {took : W → List ℕ → W → Type 0} {f : Formatter W} where
  module _ {left all : List ℕ} {g : Formatter W} (k : Handed took f left all g) where
    pub handed_all : {left' all' : List ℕ} {h : Formatter W} → HasWritten took g left' h → left ≡ left' → all ≡ all' → HasWritten took f all' h
    handed_all t e i = put_two took _ _ _ _ _ _ k.wrote t (ap (λ y. k.done ++ y) (sym e) ∙ k.whole ∙ i)
