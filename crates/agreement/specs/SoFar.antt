-- What the lines of a value that have been read come to, and what one more line, or a fold, adds to it.
-- Assumes nothing.
use Rattle.std.specs.Prelude.{ℕ, ◌+◌, ◌≤◌, ◌≡◌, refl, List, [], ◌∷◌, ◌++◌, Bool, true, false, length}
use Rattle.std.proofs.Common.{arith, sym, ap, subst, ◌∙◌, append_assoc, length-append}
use Rattle.reader.specs.Tests.{clash}
use Rattle.octets.specs.Class.{is_blank, is_value}
use Rattle.octets.proofs.Ties.{blank_is_blank}
use Rattle.rules.specs.Rules.{Rules}
use Rattle.grammar.specs.Rows.{Many, none, more}
use Rattle.grammar.specs.Message.{IsLineEnd, IsObsFold, fold, IsAroundValue}
use Rattle.parts.specs.declared.Piece.{Piece}
use Rattle.parts.specs.Answers.{piece}
use Rattle.values.specs.Value.{blank_value}
use Rattle.folds.specs.Folded.{joined, nothing_yet, joined_new, joined_old, joined_both}
use Rattle.leaves.specs.Rows.{In}
use Rattle.leaves.specs.Value.{Solid, Core, Stop, Valued, empty, full, valued_more}
use Rattle.agreement.specs.Rows.{many_as, many_append, blanks}
use Rattle.agreement.specs.Around.{around_append, around_blanks, around_fold, Bound, core_bound, bound_longer, bound_append}

-- a line that begins with a blank: the blank, and what is read behind it
record BehindBlank (i b : ℕ) (y : List ℕ) (c : Piece) (rest : List ℕ) : Type 0 where
  y' : List ℕ
  whole : y ≡ b ∷ y'
  reads : Valued (i + 1) y' c rest

record First (v : List ℕ) : Type 0 where
  b : ℕ
  m : List ℕ
  whole : v ≡ b ∷ m
  solid : Solid b

core_first : {v : List ℕ} → Core v → First v
core_first (Core.one {b = b} d) = record { b = b; m = []; whole = refl; solid = d }
core_first (Core.two {b = b} {c = c} {m = m} d k e) = record { b = b; m = m ++ (c ∷ []); whole = refl; solid = d }

behind_blank : {i : ℕ} {y : List ℕ} {c : Piece} {rest : List ℕ} (b : ℕ) (ys : List ℕ) → is_blank b ≡ true → y ++ rest ≡ b ∷ ys → Valued i y c rest → BehindBlank i b y c rest
behind_blank b ys h e (empty none s) = let i : s.b ≡ b = cc s.whole in absurd (clash (blank_value b h) (subst (λ x. is_value x ≡ false) i s.stops))
behind_blank {i} {rest = rest} b ys h e (empty (more {b = x} {w = o} g k) s) =
    let j : x ≡ b = cc in
    let n : i + 1 + length o ≡ i + length (x ∷ o) = omega arith in
    record { y' = o; whole = ap (λ u. u ∷ o) j; reads = subst (λ u. Valued (i + 1) o (piece u u) rest) n (empty k s) }
behind_blank {rest = rest} b ys h e (full {v = v} {t = t} none c u s) =
    let F = core_first c in
    let w : F.b ∷ (F.m ++ t ++ rest) ≡ b ∷ ys = sym (ap (λ y. y ++ t ++ rest) F.whole) ∙ e in
    let j : F.b ≡ b = cc in
    absurd (clash h (subst (λ x. is_blank x ≡ false) j F.solid.solid))
behind_blank {i} {rest = rest} b ys h e (full {v = v} {t = t} (more {b = x} {w = o} g k) c u s) =
    let j : x ≡ b = cc in
    let n : i + 1 + length o ≡ i + length (x ∷ o) = omega arith in
    record { y' = o ++ v ++ t; whole = ap (λ y. y ∷ (o ++ v ++ t)) j; reads = subst (λ y. Valued (i + 1) (o ++ v ++ t) (piece y (y + length v)) rest) n (full k c u s) }

-- any row of value bytes is read as a value
pub record Any (i : ℕ) (y rest : List ℕ) : Type 0 where
  pub c : Piece
  pub reads : Valued i y c rest

core_front : {b : ℕ} {o v : List ℕ} → Solid b → Many (In is_blank) o → Core v → Core ((b ∷ o) ++ v)
core_front d k (Core.one e) = Core.two d (many_as blank_value k) e
core_front {b} {o} d k (Core.two {b = x} {c = y} {m = m} e l f) = subst Core (ap (λ w. b ∷ w) (append_assoc o (x ∷ m) (y ∷ []))) (Core.two d (many_append (many_as blank_value k) (more e.value l)) f)

solid_first : {i b : ℕ} {w : List ℕ} {c : Piece} {rest : List ℕ} → Solid b → Valued (i + 1) w c rest → Any i (b ∷ w) rest
solid_first {i} {b} d (empty {o = o} k s) = record { c = piece (i + 0) (i + 0 + 1); reads = full {o = []} {v = b ∷ []} {t = o} none (Core.one d) k s }
solid_first {i} {b} d (full {o = o} {v = v} {t = t} k c u s) = record { c = piece (i + 0) (i + 0 + length ((b ∷ o) ++ v)); reads = full {o = []} {v = (b ∷ o) ++ v} {t = t} none (core_front d k c) u s }

pub any_value : (i : ℕ) {y rest : List ℕ} → Many (In is_value) y → Stop rest → Any i y rest
any_value i none s = record { c = piece (i + 0) (i + 0); reads = empty none s }
any_value i {rest = rest} (more {b = b} {w = w} h k) s = by (is_blank b) refl (any_value (i + 1) k s)
  where
    by : (t : Bool) → is_blank b ≡ t → Any (i + 1) w rest → Any i (b ∷ w) rest
    by true t A = record { c = A.c; reads = valued_more i b t A.reads }
    by false t A = solid_first (record { value = h; solid = t }) A.reads

-- what the bytes x from s on are, where lines may follow: white space; or a value between white space, and its piece
pub data SoFar (r : Rules) (s : ℕ) : List ℕ → Piece → Type 0 where
  white : {x : List ℕ} {a : Piece} → a.offset ≤ s + length x → a.length ≡ 0 → IsAroundValue r x → SoFar r s x a
  value : {o v t : List ℕ} → IsAroundValue r o → Bound r v → IsAroundValue r t → SoFar r s (o ++ v ++ t) (piece (s + length o) (s + length o + length v))

module _ {r : Rules} {s : ℕ} where
  pub so_far_in : {x : List ℕ} {a : Piece} → SoFar r s x a → a.offset + a.length ≤ s + length x
  so_far_in (white l n k) = omega arith
  so_far_in (value {o = o} {v = v} {t = t} k b l) = omega (arith, length-append (o ++ v) t, length-append o v)

  -- one more line
  line_added : {x : List ℕ} {a : Piece} {i : ℕ} {y : List ℕ} {c : Piece} {rest : List ℕ} → SoFar r s x a → i ≡ s + length x → Valued i y c rest → SoFar r s (x ++ y) (joined a c)
  line_added {x} {a} {i} (white l n k) e (empty {o = o} g h) =
      let p : Piece = piece (i + length o) (i + length o) in
      let low : p.offset ≤ s + length (x ++ o) = omega (arith, length-append x o) in
      let nil : p.length ≡ 0 = omega arith in
      subst (SoFar r s (x ++ o)) (joined_new a p n) (white low nil (around_append k (around_blanks (blanks g))))
  line_added {x} {a} {i} (white l n k) e (full {o = o} {v = v} {t = t} g b u h) =
      let p : Piece = piece (i + length o) (i + length o + length v) in
      let j : s + length (x ++ o) ≡ i + length o = omega (arith, length-append x o) in
      let same : x ++ o ++ v ++ t ≡ x ++ (o ++ v ++ t) = simp append_assoc in
      subst (SoFar r s (x ++ (o ++ v ++ t))) (ap (λ y. piece y (y + length v)) j ∙ joined_new a p n) (subst (λ y. SoFar r s y (piece (s + length (x ++ o)) (s + length (x ++ o) + length v))) same (value {o = x ++ o} {v = v} {t = t} (around_append k (around_blanks (blanks g))) (core_bound b) (around_blanks (blanks u))))
  line_added {i = i} (value {o = o} {v = v} {t = t} k b l) e (empty {o = o₁} g h) =
      let a : Piece = piece (s + length o) (s + length o + length v) in
      let p : Piece = piece (i + length o₁) (i + length o₁) in
      let nil : p.length ≡ 0 = omega arith in
      let same : o ++ v ++ (t ++ o₁) ≡ o ++ v ++ t ++ o₁ = simp append_assoc in
      subst (SoFar r s (o ++ v ++ t ++ o₁)) (joined_old a p (λ z. omega (arith, z, bound_longer b)) nil) (subst (λ y. SoFar r s y a) same (value {o = o} {v = v} {t = t ++ o₁} k b (around_append l (around_blanks (blanks g)))))
  line_added {i = i} (value {o = o} {v = v} {t = t} k b l) e (full {o = o₁} {v = v₁} {t = t₁} g c u h) =
      let a : Piece = piece (s + length o) (s + length o + length v) in
      let p : Piece = piece (i + length o₁) (i + length o₁ + length v₁) in
      let m : List ℕ = v ++ (t ++ o₁) ++ v₁ in
      let B : Bound r v₁ = core_bound c in
      let size : length m ≡ length v + (length t + length o₁) + length v₁ = length-append (v ++ (t ++ o₁)) v₁ ∙ ap (λ y. y + length v₁) (length-append v (t ++ o₁) ∙ ap (λ y. length v + y) (length-append t o₁)) in
      let place : i ≡ s + (length o + length v + length t) = e ∙ ap (λ y. s + y) (length-append (o ++ v) t ∙ ap (λ y. y + length t) (length-append o v)) in
      let end : s + length o + length m ≡ p.offset + p.length = omega arith in
      let same : o ++ m ++ t₁ ≡ o ++ v ++ t ++ (o₁ ++ v₁ ++ t₁) = simp append_assoc in
      subst (SoFar r s (o ++ v ++ t ++ (o₁ ++ v₁ ++ t₁))) (ap (piece (s + length o)) end ∙ joined_both a p (λ z. omega (arith, z, bound_longer b)) (λ z. omega (arith, z, bound_longer B)))
      (subst (λ y. SoFar r s y (piece (s + length o) (s + length o + length m))) same (value {o = o} {v = m} {t = t₁} k (bound_append b (around_append l (around_blanks (blanks g))) B) (around_blanks (blanks u))))

  -- one more fold
  fold_added : {x f : List ℕ} {a : Piece} → SoFar r s x a → IsObsFold r f → SoFar r s (x ++ f) a
  fold_added {f = f} {a = a} (white {x = x} l n k) h = white {x = x ++ f} {a = a} (omega (arith, length-append x f)) n (around_append k (around_fold h))
  fold_added {f = f} (value {o = o} {v = v} {t = t} k b l) h =
      let same : o ++ v ++ (t ++ f) ≡ o ++ v ++ t ++ f = simp append_assoc in
      subst (λ y. SoFar r s y (piece (s + length o) (s + length o + length v))) same (value {o = o} {v = v} {t = t ++ f} k b (around_append l (around_fold h)))

-- whatever the next line is, with the bytes x read and more ahead, it adds to the value a as the machine adds it
abbrev pub Ready : Rules → ℕ → List ℕ → Piece → ℕ → List ℕ → Type 0
Ready r s x a i ahead = (y : List ℕ) (c : Piece) (rest : List ℕ) → y ++ rest ≡ ahead → Valued i y c rest → SoFar r s (x ++ y) (joined a c)

module _ {r : Rules} where
  pub ready_first : (p : ℕ) (ahead : List ℕ) → Ready r p [] nothing_yet p ahead
  ready_first p ahead y c rest q k = line_added (white {x = []} {a = nothing_yet} (omega arith) refl IsAroundValue.none) (omega arith) k

  pub ready_more : {s : ℕ} {x e : List ℕ} {a : Piece} → r.multiline_headers ≡ true → SoFar r s x a → IsLineEnd r e → (b : ℕ) (ys : List ℕ) → is_blank b ≡ true → (j : ℕ) → j ≡ s + length (x ++ e) → Ready r s (x ++ e) a j (b ∷ ys)
  ready_more {s} {x} {e} {a} m S d b ys h j n y c rest q k =
      let L = behind_blank b ys h q k in
      let y' = L.y' in
      let place : j + 1 ≡ s + length (x ++ (e ++ (b ∷ []))) = omega (arith, length-append x (e ++ (b ∷ [])), length-append e (b ∷ []), length-append x e) in
      let split : x ++ (e ++ (b ∷ [])) ++ y' ≡ x ++ e ++ (b ∷ y') = simp append_assoc in
      let same : x ++ (e ++ (b ∷ [])) ++ y' ≡ x ++ e ++ y = split ∙ ap (λ u. x ++ e ++ u) (sym L.whole) in
      subst (λ u. SoFar r s u (joined a c)) same (line_added (fold_added S (fold m d ((blank_is_blank b).0 h))) place L.reads)
