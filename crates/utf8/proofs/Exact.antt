-- The reader takes exactly the grammar's strings: what it has yet to see is what the grammar has yet to show.
-- Assumes nothing.
use Rattle.std.specs.Prelude.{ℕ, ◌+◌, ◌≡◌, refl, ◌↔◌, List, [], ◌∷◌, ◌++◌, true, cond, eqb}
use Rattle.std.proofs.Common.{arith, eqb-true}
use Rattle.std.proofs.lemmas.Bool.{false≢true}
use Rattle.reader.specs.Machine.{Move, keep, refuse, after, run}
use Rattle.reader.specs.Tests.{split}
use Rattle.octets.specs.Grammar.{Range}
use Rattle.octets.specs.Class.{within}
use Rattle.octets.proofs.Ties.{in_range, range_in}
use Rattle.utf8.specs.Grammar.{UTF8_1, UTF8_2, UTF8_3, UTF8_4, UTF8_char, UTF8_octets}
use Rattle.utf8.specs.Reader.{State, tail, lead, machine, whole, utf8}
use Rattle.utf8.specs.Rows.{row_00_7F, row_C2_DF, row_E0, row_E1_EC, row_ED, row_EE_EF, row_F0, row_F1_F3, row_F4}

-- the bytes xs come in the ranges of the state, and characters behind them
data Awaits : State → List ℕ → Type 0 where
  rest : {xs : List ℕ} → UTF8_octets xs → Awaits [] xs
  next : {lo hi b : ℕ} {rs : State} {xs : List ℕ} → Range lo hi b → Awaits rs xs → Awaits ((lo, hi) ∷ rs) (b ∷ xs)

-- a character of one, two, three or four bytes, once its bytes have come
after_1 : {b : ℕ} {bs : List ℕ} → UTF8_1 (b ∷ []) → Awaits [] bs → Awaits [] (b ∷ bs)
after_1 c (rest o) = rest (UTF8_octets.char (UTF8_char.one c) o)

after_2 : {b lo hi : ℕ} {bs : List ℕ} → ((x : ℕ) → Range lo hi x → UTF8_2 (b ∷ x ∷ [])) → Awaits ((lo, hi) ∷ []) bs → Awaits [] (b ∷ bs)
after_2 c (next {b = b₂} x (rest o)) = rest (UTF8_octets.char (UTF8_char.two (c b₂ x)) o)

after_3 : {b lo hi : ℕ} {bs : List ℕ} → ((x y : ℕ) → Range lo hi x → Range 0x80 0xBF y → UTF8_3 (b ∷ x ∷ y ∷ [])) → Awaits ((lo, hi) ∷ tail ∷ []) bs → Awaits [] (b ∷ bs)
after_3 c (next {b = b₂} x (next {b = b₃} y (rest o))) = rest (UTF8_octets.char (UTF8_char.three (c b₂ b₃ x y)) o)

after_4 : {b lo hi : ℕ} {bs : List ℕ} → ((x y z : ℕ) → Range lo hi x → Range 0x80 0xBF y → Range 0x80 0xBF z → UTF8_4 (b ∷ x ∷ y ∷ z ∷ [])) → Awaits ((lo, hi) ∷ tail ∷ tail ∷ []) bs → Awaits [] (b ∷ bs)
after_4 c (next {b = b₂} x (next {b = b₃} y (next {b = b₄} z (rest o)))) = rest (UTF8_octets.char (UTF8_char.four (c b₂ b₃ b₄ x y z)) o)

module _ (b : ℕ) (bs : List ℕ) (p : ℕ) (ih : (s : State) → whole (run machine s (p + 1) bs) ≡ true → Awaits s bs) where
  abbrev Led : Move State ⊥ (Unit {0}) → Type 0
  Led v = whole (after v p (λ s. run machine s (p + 1) bs)) ≡ true → Awaits [] (b ∷ bs)

  sound_lead : Led (lead b)
  unfolding lead
  sound_lead =
      split Led (within 0x00 0x7F b) (λ t e. after_1 (UTF8_1.«00-7F» (in_range 0x00 0x7F b t)) (ih _ e))
      (λ _. split Led (within 0xC2 0xDF b) (λ t e. after_2 (λ _. UTF8_2.C2_DF (in_range 0xC2 0xDF b t)) (ih _ e))
      (λ _. split Led (eqb b 0xE0) (λ t e. rw (eqb-true b 0xE0 t) (after_3 (λ _ _. UTF8_3.E0) (ih _ e)))
      (λ _. split Led (within 0xE1 0xEC b) (λ t e. after_3 (λ _ _. UTF8_3.E1_EC (in_range 0xE1 0xEC b t)) (ih _ e))
      (λ _. split Led (eqb b 0xED) (λ t e. rw (eqb-true b 0xED t) (after_3 (λ _ _. UTF8_3.ED) (ih _ e)))
      (λ _. split Led (within 0xEE 0xEF b) (λ t e. after_3 (λ _ _. UTF8_3.EE_EF (in_range 0xEE 0xEF b t)) (ih _ e))
      (λ _. split Led (eqb b 0xF0) (λ t e. rw (eqb-true b 0xF0 t) (after_4 (λ _ _ _. UTF8_4.F0) (ih _ e)))
      (λ _. split Led (within 0xF1 0xF3 b) (λ t e. after_4 (λ _ _ _. UTF8_4.F1_F3 (in_range 0xF1 0xF3 b t)) (ih _ e))
      (λ _. split Led (eqb b 0xF4) (λ t e. rw (eqb-true b 0xF4 t) (after_4 (λ _ _ _. UTF8_4.F4) (ih _ e)))
      (λ _ e. absurd (false≢true e))))))))))

  sound_next : (lo hi : ℕ) (rs : State) → whole (after (cond (within lo hi b) (keep rs) (refuse tt)) p (λ s. run machine s (p + 1) bs)) ≡ true → Awaits ((lo, hi) ∷ rs) (b ∷ bs)
  sound_next lo hi rs =
      split (λ v. whole (after v p (λ s. run machine s (p + 1) bs)) ≡ true → Awaits ((lo, hi) ∷ rs) (b ∷ bs)) (within lo hi b)
      (λ t e. next (in_range lo hi b t) (ih rs e)) (λ _ e. absurd (false≢true e))

sound : (xs : List ℕ) (s : State) (p : ℕ) → whole (run machine s p xs) ≡ true → Awaits s xs
sound [] [] p e = rest UTF8_octets.none
sound [] (r ∷ rs) p e = absurd (false≢true e)
sound (b ∷ bs) [] p e = sound_lead b bs p (λ s. sound bs s (p + 1)) e
sound (b ∷ bs) (r ∷ rs) p e = sound_next b bs p (λ s. sound bs s (p + 1)) r.0 r.1 rs e

octets_of : {xs : List ℕ} → Awaits [] xs → UTF8_octets xs
octets_of (rest o) = o

-- the other way: each character brings the reader back to rest
module _ (v : List ℕ) (at_rest : (p : ℕ) → whole (run machine [] p v) ≡ true) where
  within_tail : {b : ℕ} → Range 0x80 0xBF b → within 0x80 0xBF b ≡ true
  within_tail {b} r = range_in 0x80 0xBF b r

  char_1 : {w : List ℕ} → UTF8_1 w → (p : ℕ) → whole (run machine [] p (w ++ v)) ≡ true
  char_1 (UTF8_1.«00-7F» {a = a} r) p = rw (← row_00_7F a (omega (arith, r.high))) (at_rest (p + 1))

  char_2 : {w : List ℕ} → UTF8_2 w → (p : ℕ) → whole (run machine [] p (w ++ v)) ≡ true
  char_2 (UTF8_2.C2_DF {a = a} {b = b} r x) p = rw (← row_C2_DF a (range_in 0xC2 0xDF a r), within_tail x) (at_rest (p + 1 + 1))

  char_3 : {w : List ℕ} → UTF8_3 w → (p : ℕ) → whole (run machine [] p (w ++ v)) ≡ true
  char_3 (UTF8_3.E0 {b = b} x y) p = rw (← row_E0 0xE0 refl, range_in 0xA0 0xBF b x, within_tail y) (at_rest (p + 1 + 1 + 1))
  char_3 (UTF8_3.E1_EC {a = a} r x y) p = rw (← row_E1_EC a (range_in 0xE1 0xEC a r), within_tail x, within_tail y) (at_rest (p + 1 + 1 + 1))
  char_3 (UTF8_3.ED {b = b} x y) p = rw (← row_ED 0xED refl, range_in 0x80 0x9F b x, within_tail y) (at_rest (p + 1 + 1 + 1))
  char_3 (UTF8_3.EE_EF {a = a} r x y) p = rw (← row_EE_EF a (range_in 0xEE 0xEF a r), within_tail x, within_tail y) (at_rest (p + 1 + 1 + 1))

  char_4 : {w : List ℕ} → UTF8_4 w → (p : ℕ) → whole (run machine [] p (w ++ v)) ≡ true
  char_4 (UTF8_4.F0 {b = b} x y z) p = rw (← row_F0 0xF0 refl, range_in 0x90 0xBF b x, within_tail y, within_tail z) (at_rest (p + 1 + 1 + 1 + 1))
  char_4 (UTF8_4.F1_F3 {a = a} r x y z) p = rw (← row_F1_F3 a (range_in 0xF1 0xF3 a r), within_tail x, within_tail y, within_tail z) (at_rest (p + 1 + 1 + 1 + 1))
  char_4 (UTF8_4.F4 {b = b} x y z) p = rw (← row_F4 0xF4 refl, range_in 0x80 0x8F b x, within_tail y, within_tail z) (at_rest (p + 1 + 1 + 1 + 1))

  char_any : {w : List ℕ} → UTF8_char w → (p : ℕ) → whole (run machine [] p (w ++ v)) ≡ true
  char_any (UTF8_char.one c) = char_1 c
  char_any (UTF8_char.two c) = char_2 c
  char_any (UTF8_char.three c) = char_3 c
  char_any (UTF8_char.four c) = char_4 c

complete : {xs : List ℕ} → UTF8_octets xs → (p : ℕ) → whole (run machine [] p xs) ≡ true
complete UTF8_octets.none p = refl
complete (UTF8_octets.char {v = v} c o) p = char_any v (λ q. complete o q) c p

-- a string is read whole just where the grammar has it
pub utf8_exact : (xs : List ℕ) → (utf8 xs ≡ true) ↔ UTF8_octets xs
utf8_exact xs = (λ e. octets_of (sound xs [] 0 e), λ o. complete o 0)
