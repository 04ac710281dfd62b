-- A byte that must stand in its place is read exactly where it stands.
-- Assumes nothing.
use Rattle.std.specs.Prelude.{ℕ, ◌+◌, ◌≡◌, refl, List, [], ◌∷◌, ◌++◌, eqb, length}
use Rattle.std.proofs.Common.{sym, ap, eqb-true, eq-eqb}
use Rattle.reader.specs.Machine.{gave, after, run}
use Rattle.reader.specs.Tests.{split, never}
use Rattle.exact.specs.Exact.{Part, Exact}
use Rattle.parts.specs.declared.Error.{Error}
use Rattle.parts.specs.Byte.{byte_step}

pub data Byte (c p : ℕ) : List ℕ → Unit {0} → List ℕ → Type 0 where
  byte : {rest : List ℕ} → Byte c p (c ∷ []) tt rest

module _ (c : ℕ) (x : Error) where
  sound_byte : (p : ℕ) (xs : List ℕ) (a : Unit {0}) (q : ℕ) → run (byte_step c x) tt p xs ≡ gave a q → Part (Byte c) p xs a q
  sound_byte p [] a q = λ e. never cc
  sound_byte p (b ∷ bs) a q =
      split (λ u. after u p (λ s. run (byte_step c x) s (p + 1) bs) ≡ gave a q → Part (Byte c) p (b ∷ bs) a q) (eqb b c)
      (λ t e. let j : p + 1 ≡ q = cc in record { w = c ∷ []; rest = bs; whole = ap (λ y. y ∷ bs) (eqb-true b c t); place = sym j; holds = byte })
      (λ t e. never cc)

  complete_byte : (p : ℕ) (w rest : List ℕ) (a : Unit {0}) → Byte c p w a rest → run (byte_step c x) tt p (w ++ rest) ≡ gave a (p + length w)
  complete_byte p w rest a byte = rw (eq-eqb c c refl)

  pub exact_byte : Exact (byte_step c x) tt (Byte c)
  exact_byte = record { sound = sound_byte; complete = complete_byte }
