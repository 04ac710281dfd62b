-- White space with folds in it, and a value between two rows of it: one behind another, and that only one value can lie there.
-- Assumes nothing.
use Rattle.std.specs.Prelude.{ℕ, ◌≤◌, ◌≡◌, refl, ◌⊎◌, List, [], ◌∷◌, ◌++◌, true, length}
use Rattle.std.proofs.Common.{arith, sym, ap, subst, ◌∙◌, inl, inr, append_assoc, append-nil}
use Rattle.reader.specs.Tests.{never}
use Rattle.octets.specs.Grammar.{IsFieldVchar, IsBlank, IsText}
use Rattle.rules.specs.Rules.{Rules}
use Rattle.grammar.specs.Rows.{Many, none, more}
use Rattle.grammar.specs.Message.{IsLineEnd, crlf, lf, IsObsFold, fold, IsAroundValue, IsWithinValue, IsValueLines}
use Rattle.grammar.specs.Fields.{IsFieldContent, IsFieldValue}
use Rattle.leaves.specs.Value.{Core}
use Rattle.agreement.specs.Rows.{many_append, texts}
use Rattle.agreement.specs.Value.{solid_is, vchar_above, value_core}

module _ {r : Rules} where
  -- one row behind another
  pub around_append : {u w : List ℕ} → IsAroundValue r u → IsAroundValue r w → IsAroundValue r (u ++ w)
  around_append IsAroundValue.none k = k
  around_append (IsAroundValue.more h j) k = IsAroundValue.more h (around_append j k)
  around_append {w = w} (IsAroundValue.folded {f = f} {w = u} h j) k = subst (IsAroundValue r) (sym (append_assoc f u w)) (IsAroundValue.folded h (around_append j k))

  pub within_append : {u w : List ℕ} → IsWithinValue r u → IsWithinValue r w → IsWithinValue r (u ++ w)
  within_append IsWithinValue.none k = k
  within_append (IsWithinValue.more h j) k = IsWithinValue.more h (within_append j k)
  within_append {w = w} (IsWithinValue.folded {f = f} {w = u} h j) k = subst (IsWithinValue r) (sym (append_assoc f u w)) (IsWithinValue.folded h (within_append j k))

  -- what stands around a value stands within one, too, and so do rows without a fold
  pub around_within : {w : List ℕ} → IsAroundValue r w → IsWithinValue r w
  around_within IsAroundValue.none = IsWithinValue.none
  around_within (IsAroundValue.more h k) = IsWithinValue.more (IsText.white h) (around_within k)
  around_within (IsAroundValue.folded h k) = IsWithinValue.folded h (around_within k)

  pub around_blanks : {w : List ℕ} → Many IsBlank w → IsAroundValue r w
  around_blanks none = IsAroundValue.none
  around_blanks (more h k) = IsAroundValue.more h (around_blanks k)

  pub around_fold : {f : List ℕ} → IsObsFold r f → IsAroundValue r f
  around_fold {f} h = subst (IsAroundValue r) (append-nil f) (IsAroundValue.folded h IsAroundValue.none)

  within_texts : {w : List ℕ} → Many IsText w → IsWithinValue r w
  within_texts none = IsWithinValue.none
  within_texts (more h k) = IsWithinValue.more h (within_texts k)

-- a value that is not empty begins and ends with no blank
pub data Bound (r : Rules) : List ℕ → Type 0 where
  one : {b : ℕ} → IsFieldVchar b → Bound r (b ∷ [])
  two : {b c : ℕ} {m : List ℕ} → IsFieldVchar b → IsWithinValue r m → IsFieldVchar c → Bound r ((b ∷ m) ++ (c ∷ []))

module _ {r : Rules} where
  pub core_bound : {v : List ℕ} → Core v → Bound r v
  core_bound (Core.one h) = one (solid_is h)
  core_bound (Core.two h k l) = two (solid_is h) (within_texts (texts k)) (solid_is l)

  pub bound_longer : {v : List ℕ} → Bound r v → 1 ≤ length v
  bound_longer (one h) = omega arith
  bound_longer (two h k l) = omega arith

  pub bound_within : {v : List ℕ} → Bound r v → IsWithinValue r v
  bound_within (one h) = IsWithinValue.more (IsText.field h) IsWithinValue.none
  bound_within (two h k l) = IsWithinValue.more (IsText.field h) (within_append k (IsWithinValue.more (IsText.field l) IsWithinValue.none))

  -- two of them with white space between them are one
  pub bound_append : {v g w : List ℕ} → Bound r v → IsAroundValue r g → Bound r w → Bound r (v ++ g ++ w)
  bound_append (one a) g (one b) = two a (around_within g) b
  bound_append {g = g₁} (one {b = a₁} a) g (two {b = b₁} {c = c₁} {m = m₁} b m c) = subst (Bound r) (ap (λ y. a₁ ∷ y) (append_assoc g₁ (b₁ ∷ m₁) (c₁ ∷ []))) (two a (within_append (around_within g) (IsWithinValue.more (IsText.field b) m)) c)
  bound_append (two a m b) g (one c) = two a (within_append (within_append m (IsWithinValue.more (IsText.field b) IsWithinValue.none)) (around_within g)) c
  bound_append {g = g₁} (two {b = a₁} {c = b₁} {m = m₁} a m b) g (two {b = c₁} {c = d₁} {m = k₁} c k d) =
      subst (Bound r) (ap (λ y. a₁ ∷ y) (append_assoc (m₁ ++ (b₁ ∷ []) ++ g₁) (c₁ ∷ k₁) (d₁ ∷ [])))
      (two a (within_append (within_append (within_append m (IsWithinValue.more (IsText.field b) IsWithinValue.none)) (around_within g)) (IsWithinValue.more (IsText.field c) k)) d)

  -- the grammar's values
  pub bound_value : {v : List ℕ} → r.multiline_headers ≡ true → Bound r v → IsValueLines r v
  bound_value h (one b) = IsValueLines.one (IsFieldValue.more (IsFieldContent.one b) IsFieldValue.none)
  bound_value h (two b m c) = IsValueLines.several h b m c

  pub value_bound : {v : List ℕ} → IsValueLines r v → (v ≡ []) ⊎ Bound r v
  value_bound (IsValueLines.several h b m c) = inr (two b m c)
  value_bound {v} (IsValueLines.one k) = by (value_core k)
    where
      by : (v ≡ []) ⊎ Core v → (v ≡ []) ⊎ Bound r v
      by (inl e) = inl e
      by (inr c) = inr (core_bound c)

-- white space is below the bytes that a value begins and ends with
abbrev Low : ℕ → Type 0
Low b = b ≤ 0x20

blank_low : {b : ℕ} → IsBlank b → Low b
blank_low (IsBlank.space e) = omega (arith, e)
blank_low (IsBlank.tab e) = omega (arith, e)

end_low : {r : Rules} {e : List ℕ} → IsLineEnd r e → Many Low e
end_low crlf = more {b = 0x0D} (omega arith) (more {b = 0x0A} (omega arith) none)
end_low (lf h) = more {b = 0x0A} (omega arith) none

around_low : {r : Rules} {w : List ℕ} → IsAroundValue r w → Many Low w
around_low IsAroundValue.none = none
around_low (IsAroundValue.more h k) = more (blank_low h) (around_low k)
around_low (IsAroundValue.folded (fold m d b) k) = many_append (many_append (end_low d) (more (blank_low b) none)) (around_low k)

-- the first and the last byte of a value
record Ends (v : List ℕ) : Type 0 where
  b : ℕ
  c : ℕ
  m : List ℕ
  n : List ℕ
  front : v ≡ b ∷ m
  back : v ≡ n ++ (c ∷ [])
  begins : 0x21 ≤ b
  finishes : 0x21 ≤ c

bound_ends : {r : Rules} {v : List ℕ} → Bound r v → Ends v
bound_ends (one {b = b} h) = record { b = b; c = b; m = []; n = []; front = refl; back = refl; begins = vchar_above h; finishes = vchar_above h }
bound_ends (two {b = b} {c = c} {m = m} h k l) = record { b = b; c = c; m = m ++ (c ∷ []); n = b ∷ m; front = refl; back = refl; begins = vchar_above h; finishes = vchar_above l }

-- a byte of white space
low_in : (u : List ℕ) {x : List ℕ} (b : ℕ) (m : List ℕ) → Many Low x → x ≡ u ++ (b ∷ m) → Low b
low_in [] b m none e = never cc
low_in [] b m (more {b = y} h k) e = let i : y ≡ b = cc in omega arith
low_in (z ∷ u) b m none e = never cc
low_in (z ∷ u) b m (more h k) e = low_in u b m k cc

first_value : {o o' m m' : List ℕ} {b b' : ℕ} → Many Low o → Many Low o' → 0x21 ≤ b → 0x21 ≤ b' → o ++ (b ∷ m) ≡ o' ++ (b' ∷ m') → b ∷ m ≡ b' ∷ m'
first_value none none h h' e = e
first_value {b = b} none (more {b = y} k ks) h h' e = let i : b ≡ y = cc in absurd (omega arith)
first_value {b' = b'} (more {b = y} k ks) none h h' e = let i : y ≡ b' = cc in absurd (omega arith)
first_value (more k ks) (more l ls) h h' e = first_value ks ls h h' cc

last_value : (n n' : List ℕ) (t t' : List ℕ) (c c' : ℕ) → Many Low t → Many Low t' → 0x21 ≤ c → 0x21 ≤ c' → n ++ (c ∷ t) ≡ n' ++ (c' ∷ t') → n ++ (c ∷ []) ≡ n' ++ (c' ∷ [])
last_value [] [] t t' c c' k k' h h' e = cc
last_value [] (y ∷ n') t t' c c' k k' h h' e = absurd (omega (arith, low_in n' c' t' k cc))
last_value (y ∷ n) [] t t' c c' k k' h h' e = absurd (omega (arith, low_in n c t k' cc))
last_value (y ∷ n) (y' ∷ n') t t' c c' k k' h h' e = let i : y ≡ y' = cc in ap (λ w. y ∷ w) (last_value n n' t t' c c' k k' h h' cc) ∙ ap (λ w. w ∷ (n' ++ (c' ∷ []))) i

-- only one value lies between white space, and none within it
pub one_value : {r : Rules} {o v t o' v' t' : List ℕ} → IsAroundValue r o → Bound r v → IsAroundValue r t → IsAroundValue r o' → Bound r v' → IsAroundValue r t' → o ++ v ++ t ≡ o' ++ v' ++ t' → v ≡ v'
one_value {o = o} {v = v} {t = t} {o' = o'} {v' = v'} {t' = t'} left value right left' value' right' e =
    let E = bound_ends value in
    let E' = bound_ends value' in
    let whole : o ++ (E.b ∷ (E.m ++ t)) ≡ o' ++ (E'.b ∷ (E'.m ++ t')) = sym (ap (λ y. o ++ y ++ t) E.front ∙ append_assoc o (E.b ∷ E.m) t) ∙ e ∙ ap (λ y. o' ++ y ++ t') E'.front ∙ append_assoc o' (E'.b ∷ E'.m) t' in
    let behind : v ++ t ≡ v' ++ t' = ap (λ y. y ++ t) E.front ∙ first_value (around_low left) (around_low left') E.begins E'.begins whole ∙ sym (ap (λ y. y ++ t') E'.front) in
    let ends : E.n ++ (E.c ∷ t) ≡ E'.n ++ (E'.c ∷ t') = sym (ap (λ y. y ++ t) E.back ∙ append_assoc E.n (E.c ∷ []) t) ∙ behind ∙ ap (λ y. y ++ t') E'.back ∙ append_assoc E'.n (E'.c ∷ []) t' in
    E.back ∙ last_value E.n E'.n t t' E.c E'.c (around_low right) (around_low right') E.finishes E'.finishes ends ∙ sym E'.back

pub no_value : {r : Rules} {x v : List ℕ} (o t : List ℕ) → IsAroundValue r x → Bound r v → x ≡ o ++ v ++ t → ⊥
no_value o t k value e = let E = bound_ends value in omega (arith, low_in o E.b (E.m ++ t) (around_low k) (e ∙ ap (λ y. o ++ y ++ t) E.front ∙ append_assoc o (E.b ∷ E.m) t), E.begins)
