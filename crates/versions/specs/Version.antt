-- A version: HTTP/1. and a digit, 0 or 1 (RFC 9112, 2.3, restricted to the two versions that are known).
-- Assumes nothing.
use Rattle.std.specs.Prelude.{ℕ, ◌+◌, ◌≤◌, ◌<◌, ◌≡◌, refl, List, [], ◌∷◌, cond, eqb, length, get_or, drop}
use Rattle.std.proofs.Common.{arith, eq-eqb, ne_eqb}
use Rattle.reader.specs.Machine.{keep, give, refuse, Step, run_at}
use Rattle.reader.specs.Bytes.{drop_in}
use Rattle.reader.proofs.Laws.{run_in, run_out}
use Rattle.reader.specs.Answer.{Answer, got, short, bad}
use Rattle.reader.specs.Chain.{reads}
use Rattle.parts.specs.declared.Error.TheVariants.{Version}
use Rattle.parts.specs.declared.Fault.{Fault}
use Rattle.parts.specs.Answers.{fault}

-- HTTP/1.
abbrev pub name : List ℕ
name = 72 ∷ 84 ∷ 84 ∷ 80 ∷ 47 ∷ 49 ∷ 46 ∷ []

-- a state is what is left of the name
abbrev pub version_step : Step (List ℕ) ℕ Fault
version_step [] p b = cond (eqb b 48) (give 0) (cond (eqb b 49) (give 1) (refuse (fault Version p)))
version_step (e ∷ es) p b = cond (eqb b e) (keep es) (refuse (fault Version p))

abbrev pub version : List ℕ → ℕ → Answer (Unit {0}) ℕ Fault
version xs at = reads version_step name xs at

-- k bytes of the name stand from at up to i
pub record Matched (xs : List ℕ) (at i k : ℕ) : Type 0 where
  pub few : k ≤ 7
  pub runs : run_at version_step name xs at ≡ run_at version_step (drop k name) xs i

pub matched_none : {xs : List ℕ} {at : ℕ} → Matched xs at at 0
matched_none = record { few = omega arith; runs = refl }

module _ {xs : List ℕ} {at i k : ℕ} (h : Matched xs at i k) where
  pub matched_more : k < 7 → i < length xs → get_or xs i 0 ≡ get_or name k 0 → Matched xs at (i + 1) (k + 1)
  matched_more l u e = record {
    few = omega arith;
    runs = rw (h.runs, run_in version_step (drop k name) xs i u, drop_in name k l, eq-eqb _ _ e);
  }

  pub matched_short : length xs ≤ i → short tt ≡ version xs at
  matched_short u = rw (h.runs, run_out version_step (drop k name) xs i u)

  pub matched_not : k < 7 → i < length xs → (get_or xs i 0 ≡ get_or name k 0 → ⊥) → bad (fault Version i) ≡ version xs at
  matched_not l u e = rw (h.runs, run_in version_step (drop k name) xs i u, drop_in name k l, ne_eqb _ _ e)

  module _ (l : 7 ≤ k) (u : i < length xs) where
    all : k ≡ 7
    all = omega (arith, h.few)

    pub version_0 : get_or xs i 0 ≡ 48 → got 0 (i + 1) ≡ version xs at
    version_0 e = rw (h.runs, all, run_in version_step [] xs i u, eq-eqb _ _ e)

    pub version_1 : (get_or xs i 0 ≡ 48 → ⊥) → get_or xs i 0 ≡ 49 → got 1 (i + 1) ≡ version xs at
    version_1 n e = rw (h.runs, all, run_in version_step [] xs i u, ne_eqb _ _ n, eq-eqb _ _ e)

    pub version_bad : (get_or xs i 0 ≡ 48 → ⊥) → (get_or xs i 0 ≡ 49 → ⊥) → bad (fault Version i) ≡ version xs at
    version_bad n e = rw (h.runs, all, run_in version_step [] xs i u, ne_eqb _ _ n, ne_eqb _ _ e)

pub ruleset versions = (matched_none, matched_more, matched_short, matched_not, version_0, version_1, version_bad)
