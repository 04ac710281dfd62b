-- A version is read exactly where HTTP/1.0 or HTTP/1.1 stands.
-- Assumes nothing.
use Rattle.std.specs.Prelude.{ℕ, ◌+◌, ◌≡◌, refl, List, [], ◌∷◌, ◌++◌, eqb, length}
use Rattle.std.proofs.Common.{arith, ap, ◌∙◌, eqb-true, eq-eqb}
use Rattle.reader.specs.Machine.{Run, gave, give, after, run}
use Rattle.reader.specs.Tests.{split, never}
use Rattle.exact.specs.Exact.{Relation, Part, Exact}
use Rattle.parts.specs.declared.Fault.{Fault}
use Rattle.versions.specs.Version.{name, version_step}

-- what is left of a name, and a digit
pub data Digit (es : List ℕ) : List ℕ → ℕ → Type 0 where
  zero_digit : Digit es (es ++ (48 ∷ [])) 0
  one_digit : Digit es (es ++ (49 ∷ [])) 1

abbrev pub DigitAt : List ℕ → Relation ℕ
DigitAt es p w a rest = Digit es w a

digit_more : {b : ℕ} {es w : List ℕ} {a : ℕ} → Digit es w a → Digit (b ∷ es) (b ∷ w) a
digit_more zero_digit = zero_digit
digit_more one_digit = one_digit

sound_version : (es xs : List ℕ) (p a q : ℕ) → run version_step es p xs ≡ gave a q → Part (DigitAt es) p xs a q
sound_version es [] p a q = λ e. never cc
sound_version [] (b ∷ bs) p a q =
    let k : List ℕ → Run (List ℕ) ℕ Fault = λ s. run version_step s (p + 1) bs in
    split (λ u. after u p k ≡ gave a q → Part (DigitAt []) p (b ∷ bs) a q) (eqb b 48)
    (λ z e. let i : 0 ≡ a = cc in let j : p + 1 ≡ q = cc in record { w = b ∷ []; rest = bs; whole = refl; place = omega arith; holds = rw (eqb-true b 48 z, ← i) zero_digit })
    (λ _. split (λ u. after u p k ≡ gave a q → Part (DigitAt []) p (b ∷ bs) a q) (eqb b 49)
    (λ z e. let i : 1 ≡ a = cc in let j : p + 1 ≡ q = cc in record { w = b ∷ []; rest = bs; whole = refl; place = omega arith; holds = rw (eqb-true b 49 z, ← i) one_digit })
    (λ z e. never cc))
sound_version (c ∷ es) (b ∷ bs) p a q =
    let k : List ℕ → Run (List ℕ) ℕ Fault = λ s. run version_step s (p + 1) bs in
    let ih = sound_version es bs (p + 1) a q in
    split (λ u. after u p k ≡ gave a q → Part (DigitAt (c ∷ es)) p (b ∷ bs) a q) (eqb b c)
    (λ z e. let P = ih e in record { w = b ∷ P.w; rest = P.rest; whole = ap (λ l. b ∷ l) P.whole; place = omega (arith, P.place); holds = rw (eqb-true b c z) (digit_more P.holds) })
    (λ z e. never cc)

read_name : (b a : ℕ) → ((p : ℕ) → version_step [] p b ≡ give a) → (es : List ℕ) (p : ℕ) (rest : List ℕ) → run version_step es p (es ++ (b ∷ []) ++ rest) ≡ gave a (p + length (es ++ (b ∷ [])))
read_name b a k [] p rest = rw (k p)
read_name b a k (c ∷ es) p rest = rw (eq-eqb c c refl) (read_name b a k es (p + 1) rest ∙ ap (gave a) (omega arith))

complete_version : (es : List ℕ) {w : List ℕ} {a : ℕ} → Digit es w a → (p : ℕ) (rest : List ℕ) → run version_step es p (w ++ rest) ≡ gave a (p + length w)
complete_version es zero_digit p rest = read_name 48 0 (λ q. refl) es p rest
complete_version es one_digit p rest = read_name 49 1 (λ q. refl) es p rest

pub exact_version : Exact version_step name (DigitAt name)
exact_version = record { sound = λ p xs a q. sound_version name xs p a q; complete = λ p w rest a d. complete_version name d p rest }
