-- A machine that answers exactly where a relation holds: of the position, the bytes read, the answer, and the bytes behind them.
-- Assumes nothing.
use Rattle.std.specs.Prelude.{ℕ, ◌+◌, ◌≡◌, List, ◌++◌, length}
use Rattle.reader.specs.Machine.{gave, Step, run}

-- what is read from a position on, the bytes w, the answer, and the bytes that follow
abbrev pub Relation : Type 0 → Type 1
Relation A = ℕ → List ℕ → A → List ℕ → Type 0

-- the bytes at the start of xs are so related, and q is behind them
pub record Part {A : Type 0} (G : Relation A) (p : ℕ) (xs : List ℕ) (a : A) (q : ℕ) : Type 0 where
  pub w : List ℕ
  pub rest : List ℕ
  pub whole : xs ≡ w ++ rest
  pub place : q ≡ p + length w
  pub holds : G p w a rest

pub record Exact {S A F : Type 0} (m : Step S A F) (s : S) (G : Relation A) : Type 0 where
  pub sound : (p : ℕ) (xs : List ℕ) (a : A) (q : ℕ) → run m s p xs ≡ gave a q → Part G p xs a q
  pub complete : (p : ℕ) (w rest : List ℕ) (a : A) → G p w a rest → run m s p (w ++ rest) ≡ gave a (p + length w)
