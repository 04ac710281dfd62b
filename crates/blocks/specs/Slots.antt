-- The slots: four numbers for each header, in a row.
-- Assumes nothing.
use Rattle.std.specs.Prelude.{ℕ, suc, ◌+◌, ◌*◌, ◌≤◌, ◌≡◌, refl, List, [], ◌∷◌, ◌++◌, length, take, drop, set}
use Rattle.std.proofs.Common.{arith, sym, ap, ◌∙◌, append_assoc, length-append, take_at, drop-drop}
use Rattle.std.proofs.lemmas.List.Edits.{sets-eq}
use Rattle.std.proofs.Math.Seq.{drop-append-add}
use Rattle.fields.specs.declared.Header.{Header}

-- name offset, name length, value offset, value length
abbrev pub numbers : Header → List ℕ
numbers h = h.name.offset ∷ h.name.length ∷ h.value.offset ∷ h.value.length ∷ []

unfoldable pub flat : List Header → List ℕ
flat [] = []
flat (h ∷ hs) = numbers h ++ flat hs

-- the headers' numbers, and behind them the slots as they were
unfoldable pub filled : List Header → List ℕ → List ℕ
filled hs old = flat hs ++ drop (length hs * 4) old

-- four stores in a row
pub put4 : (l : List ℕ) (i a b c d : ℕ) → i + 4 ≤ length l → set (set (set (set l i a) (i + 1) b) (i + 2) c) (i + 3) d ≡ take i l ++ (a ∷ b ∷ c ∷ d ∷ []) ++ drop (i + 4) l
put4 l i a b c d h =
    let e₁ : i + 1 ≡ suc i = omega arith in
    let e₂ : i + 2 ≡ suc (suc i) = omega arith in
    let e₃ : i + 3 ≡ suc (suc (suc i)) = omega arith in
    rw (e₁, e₂, e₃) (sets-eq (a ∷ b ∷ c ∷ d ∷ []) l i h)

pub length_flat : (hs : List Header) → length (flat hs) ≡ length hs * 4
unfolding flat
length_flat [] = refl
length_flat (h ∷ hs) = let r = length_flat hs in omega arith

flat_snoc : (hs : List Header) (h : Header) → flat (hs ++ (h ∷ [])) ≡ flat hs ++ numbers h
unfolding flat
flat_snoc [] h = refl
flat_snoc (g ∷ hs) h = rw (flat_snoc hs h)

pub filled_none : (old : List ℕ) → old ≡ filled [] old
unfolding filled flat
filled_none old = refl

-- one header more is four numbers behind those of the headers before it
pub filled_more : (hs : List Header) (h : Header) (old : List ℕ) → take (length hs * 4) (filled hs old) ++ numbers h ++ drop (length hs * 4 + 4) (filled hs old) ≡ filled (hs ++ (h ∷ [])) old
unfolding filled
filled_more hs h old =
    let k = length hs * 4 in
    let e : length (hs ++ (h ∷ [])) * 4 ≡ k + 4 = omega (arith, length-append hs (h ∷ [])) in
    let t : take k (flat hs ++ drop k old) ≡ flat hs = take_at (flat hs) (drop k old) k (length_flat hs) in
    let d : drop (k + 4) (flat hs ++ drop k old) ≡ drop (k + 4) old =
    ap (λ x. drop (x + 4) (flat hs ++ drop k old)) (sym (length_flat hs)) ∙ drop-append-add (flat hs) (drop k old) 4 ∙ drop-drop 4 k old in
    rw (t, d, e, flat_snoc hs h, append_assoc)
