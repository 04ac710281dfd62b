-- One part behind another, where each adds to what is known: taken apart, and put together; and what a row of parts reads.
-- Assumes nothing.
use Rattle.std.specs.Prelude.{ℕ, ◌+◌, ◌≡◌, refl, List, ◌++◌, length}
use Rattle.std.proofs.Common.{subst}
use Rattle.reader.specs.Judged.{Verdict, pass}
use Rattle.exact.specs.Exact.{Relation}
use Rattle.exact.specs.Seq.{Both}
use Rattle.rules.specs.Rules.{Rules}
use Rattle.grammar.specs.Message as grammar
use Rattle.agreement.specs.StartLine.{Adds}

pub passed_is : {B F : Type 0} {a b : B} → ◌≡◌ {A = Verdict B F} (pass a) (pass b) → b ≡ a
passed_is e = cc

pub record Step {A K : Type 0} (f : A → K) (G : Relation A) (H : K → Relation K) (p : ℕ) (w : List ℕ) (k : K) (rest : List ℕ) : Type 0 where
  pub w₁ : List ℕ
  pub w₂ : List ℕ
  pub a : A
  pub whole : w ≡ w₁ ++ w₂
  pub left : G p w₁ a (w₂ ++ rest)
  pub right : H (f a) (p + length w₁) w₂ k rest

module _ {A K : Type 0} (f : A → K) {G : Relation A} {H : K → Relation K} {p : ℕ} where
  pub apart : {w : List ℕ} {k : K} {rest : List ℕ} → Both (Adds f G) H p w k rest → Step f G H p w k rest
  apart {k = k} {rest = rest} B =
      let e : B.a ≡ f B.left.a = passed_is B.left.passes in
      record { w₁ = B.w₁; w₂ = B.w₂; a = B.left.a; whole = B.whole; left = B.left.holds; right = subst (λ y. H y (p + length B.w₁) B.w₂ k rest) e B.right }

  pub together : (w₁ w₂ : List ℕ) (a : A) {k : K} {rest : List ℕ} → G p w₁ a (w₂ ++ rest) → H (f a) (p + length w₁) w₂ k rest → Both (Adds f G) H p (w₁ ++ w₂) k rest
  together w₁ w₂ a g h = record { w₁ = w₁; w₂ = w₂; a = f a; left = record { a = a; holds = g; passes = refl }; right = h; whole = refl }

-- the bytes of a head up to its block, in the grammar's words
pub record Started {L : Type 0} (r : Rules) (start_line : List ℕ → L → Type 0) (Says : L → Type 0) (w : List ℕ) : Type 0 where
  pub e : List ℕ
  pub l : List ℕ
  pub c : List ℕ
  pub g : L
  pub whole : w ≡ e ++ l ++ c
  pub empty : grammar.IsEmptyLines r e
  pub line : start_line l g
  pub ends : grammar.IsLineEnd r c
  pub says : Says g

-- what is told of a start line
pub record LineRead {L K : Type 0} (Says : List ℕ → K → L → Type 0) (G : Relation K) (z : List ℕ) (p : ℕ) (w : List ℕ) (l : L) (rest : List ℕ) : Type 0 where
  pub k : K
  pub reads : G p w k rest
  pub says : Says z k l
