-- A value is read exactly: blanks, then nothing or bytes that begin and end with no blank, then blanks, up to a byte that can't stand in it.
-- Assumes nothing.
use Rattle.std.specs.Prelude.{ℕ, suc, ◌+◌, ◌≡◌, refl, List, [], ◌∷◌, ◌++◌, Bool, true, false, ◌||◌, cond, length}
use Rattle.std.proofs.Common.{arith, sym, ap, subst, ◌∙◌, append_assoc, length-append}
use Rattle.reader.specs.Machine.{Move, gave, after, run}
use Rattle.reader.specs.Tests.{split, never}
use Rattle.exact.specs.Exact.{Part, Exact}
use Rattle.octets.specs.Class.{is_blank, is_target, is_value}
use Rattle.parts.specs.declared.Fault.{Fault}
use Rattle.parts.specs.declared.Piece.{Piece}
use Rattle.parts.specs.Answers.{piece}
use Rattle.values.specs.Value.{Value, blanks, inside, value_step, blank_value}
use Rattle.grammar.specs.Rows.{Many, none, more}
use Rattle.leaves.specs.Rows.{In, over}

-- a byte of a value that is no blank
pub record Solid (b : ℕ) : Type 0 where
  pub value : is_value b ≡ true
  pub solid : is_blank b ≡ false

-- what stands inside a value up to its last byte that is no blank
pub data Core : List ℕ → Type 0 where
  one : {b : ℕ} → Solid b → Core (b ∷ [])
  two : {b c : ℕ} {m : List ℕ} → Solid b → Many (In is_value) m → Solid c → Core ((b ∷ m) ++ (c ∷ []))

-- the byte that ends it
pub record Stop (rest : List ℕ) : Type 0 where
  pub b : ℕ
  pub ys : List ℕ
  pub whole : rest ≡ b ∷ ys
  pub stops : is_value b ≡ false

-- what follows in a value: all blank, and the end stays; or up to another byte that is no blank, where the end is then
data Tail (e p : ℕ) : List ℕ → ℕ → Type 0 where
  blank_tail : {t : List ℕ} → Many (In is_blank) t → Tail e p t e
  solid_tail : {m t : List ℕ} {c : ℕ} → Many (In is_value) m → Solid c → Many (In is_blank) t → Tail e p ((m ++ (c ∷ [])) ++ t) (p + length m + 1)

record Left (o e p : ℕ) (xs : List ℕ) (a : Piece) (q : ℕ) : Type 0 where
  w : List ℕ
  rest : List ℕ
  end : ℕ
  whole : xs ≡ w ++ rest
  behind : q ≡ p + length w
  tail : Tail e p w end
  place : a ≡ piece o end
  stop : Stop rest

-- one byte more in front
tail_blank : (e p b : ℕ) {w : List ℕ} {n : ℕ} → is_blank b ≡ true → is_value b ≡ true → Tail e (p + 1) w n → Tail e p (b ∷ w) n
tail_blank e p b h v (blank_tail t) = blank_tail (more h t)
tail_blank e p b h v (solid_tail {m = m} {t = t} {c = c} k s u) = let n : p + 1 + length m + 1 ≡ p + length (b ∷ m) + 1 = omega arith in rw n (solid_tail {m = b ∷ m} {t = t} {c = c} (more v k) s u)

tail_solid : (e p b : ℕ) {w : List ℕ} {n : ℕ} → Solid b → Tail (p + 1) (p + 1) w n → Tail e p (b ∷ w) n
tail_solid e p b s (blank_tail {t = t} u) = let n : p + 1 ≡ p + 0 + 1 = omega arith in rw n (solid_tail {m = []} {t = t} {c = b} none s u)
tail_solid e p b s (solid_tail {m = m} {t = t} {c = c} k d u) = let n : p + 1 + length m + 1 ≡ p + length (b ∷ m) + 1 = omega arith in rw n (solid_tail {m = b ∷ m} {t = t} {c = c} (more s.value k) d u)

left_more : (o e e' p b : ℕ) (bs : List ℕ) (a : Piece) (q : ℕ) → ((w : List ℕ) (n : ℕ) → Tail e' (p + 1) w n → Tail e p (b ∷ w) n) → Left o e' (p + 1) bs a q → Left o e p (b ∷ bs) a q
left_more o e e' p b bs a q f k = record { w = b ∷ k.w; rest = k.rest; end = k.end; whole = ap (λ y. b ∷ y) k.whole; behind = omega (arith, k.behind); tail = f k.w k.end k.tail; place = k.place; stop = k.stop }

sound_inside : (o : ℕ) (xs : List ℕ) (e p : ℕ) (a : Piece) (q : ℕ) → run value_step (inside o e) p xs ≡ gave a q → Left o e p xs a q
sound_inside o [] e p a q = λ h. never cc
sound_inside o (b ∷ bs) e p a q =
    let ih : (n : ℕ) → run value_step (inside o n) (p + 1) bs ≡ gave a q → Left o n (p + 1) bs a q = λ n. sound_inside o bs n (p + 1) a q in
    split (λ u. after u p (λ s. run value_step s (p + 1) bs) ≡ gave a q → Left o e p (b ∷ bs) a q) (is_value b)
    (λ v. split (λ n. run value_step (inside o n) (p + 1) bs ≡ gave a q → Left o e p (b ∷ bs) a q) (is_blank b)
    (λ h g. left_more o e e p b bs a q (λ w n. tail_blank e p b h v) (ih e g))
    (λ h g. left_more o e (p + 1) p b bs a q (λ w n. tail_solid e p b (record { value = v; solid = h })) (ih (p + 1) g)))
    (λ v g. let i : piece o e ≡ a = cc in let j : p ≡ q = cc in record { w = []; rest = b ∷ bs; end = e; whole = refl; behind = omega arith; tail = blank_tail none; place = sym i; stop = record { b = b; ys = bs; whole = refl; stops = v } })

-- a value within a line: its place, and what ends it
pub data Valued (p : ℕ) : List ℕ → Piece → List ℕ → Type 0 where
  empty : {o rest : List ℕ} → Many (In is_blank) o → Stop rest → Valued p o (piece (p + length o) (p + length o)) rest
  full : {o v t rest : List ℕ} → Many (In is_blank) o → Core v → Many (In is_blank) t → Stop rest → Valued p (o ++ v ++ t) (piece (p + length o) (p + length o + length v)) rest

-- one blank more in front
pub valued_more : (p b : ℕ) {w : List ℕ} {a : Piece} {rest : List ℕ} → is_blank b ≡ true → Valued (p + 1) w a rest → Valued p (b ∷ w) a rest
valued_more p b h (empty {o = o} k s) = let n : p + 1 + length o ≡ p + length (b ∷ o) = omega arith in rw n (empty {o = b ∷ o} (more h k) s)
valued_more p b h (full {o = o} {v = v} {t = t} k c u s) = let n : p + 1 + length o ≡ p + length (b ∷ o) = omega arith in rw n (full {o = b ∷ o} {v = v} {t = t} (more h k) c u s)

-- a value that begins at p with a byte that is no blank
from_solid : (p b : ℕ) {w : List ℕ} {n : ℕ} {rest : List ℕ} → Solid b → Tail (p + 1) (p + 1) w n → Stop rest → Valued p (b ∷ w) (piece p n) rest
from_solid p b {rest = rest} d (blank_tail {t = t} u) s =
    let x : p ≡ p + 0 = omega arith in
    let y : p + 1 ≡ p + 0 + 1 = omega arith in
    subst (λ z. Valued p (b ∷ t) z rest) (ap (λ z. piece z (p + 0 + 1)) (sym x) ∙ ap (piece p) (sym y)) (full {o = []} {v = b ∷ []} {t = t} none (one d) u s)
from_solid p b {rest = rest} d (solid_tail {m = m} {t = t} {c = c} k e u) s =
    let x : p ≡ p + 0 = omega arith in
    let y : p + 1 + length m + 1 ≡ p + 0 + length ((b ∷ m) ++ (c ∷ [])) = omega (arith, length-append (b ∷ m) (c ∷ [])) in
    subst (λ z. Valued p ((b ∷ m) ++ (c ∷ []) ++ t) z rest) (ap (λ z. piece z (p + 0 + length ((b ∷ m) ++ (c ∷ [])))) (sym x) ∙ ap (piece p) (sym y)) (full {o = []} {v = (b ∷ m) ++ (c ∷ [])} {t = t} none (two d k e) u s)

sound_value : (xs : List ℕ) (p : ℕ) (a : Piece) (q : ℕ) → run value_step blanks p xs ≡ gave a q → Part Valued p xs a q
sound_value [] p a q = λ h. never cc
sound_value (b ∷ bs) p a q =
    let G : Move Value Piece Fault → Type 0 = λ u. after u p (λ s. run value_step s (p + 1) bs) ≡ gave a q → Part Valued p (b ∷ bs) a q in
    let ih = sound_value bs (p + 1) a q in
    split G (is_blank b)
    (λ h g. let P = ih g in record { w = b ∷ P.w; rest = P.rest; whole = ap (λ y. b ∷ y) P.whole; place = omega (arith, P.place); holds = valued_more p b h P.holds })
    (λ h. split G (is_value b)
    (λ v g. let k = sound_inside p bs (p + 1) (p + 1) a q g in record { w = b ∷ k.w; rest = k.rest; whole = ap (λ y. b ∷ y) k.whole; place = omega (arith, k.behind); holds = subst (λ z. Valued p (b ∷ k.w) z k.rest) (sym k.place) (from_solid p b (record { value = v; solid = h }) k.tail k.stop) })
    (λ v g.
    let i : piece p p ≡ a = cc in
    let j : p ≡ q = cc in
    let n : p + 0 ≡ p = omega arith in
    record { w = []; rest = b ∷ bs; whole = refl; place = omega arith; holds = subst (λ z. Valued p [] z (b ∷ bs)) (ap (λ y. piece y y) n ∙ i) (empty none (record { b = b; ys = bs; whole = refl; stops = v })) }))

-- the other way: what each kind of byte does to the machine
left_false : (s t : Bool) → (s || t) ≡ false → s ≡ false
left_false true t e = e
left_false false t e = refl

no_value : (b : ℕ) → is_value b ≡ false → is_blank b ≡ false
unfolding is_value
no_value b e = left_false (is_blank b) (is_target b) e

stop_blanks : (p : ℕ) (rest : List ℕ) → Stop rest → run value_step blanks p rest ≡ gave (piece p p) p
stop_blanks p rest s = rw (s.whole, no_value s.b s.stops, s.stops)

stop_inside : (o e p : ℕ) (rest : List ℕ) → Stop rest → run value_step (inside o e) p rest ≡ gave (piece o e) p
stop_inside o e p rest s = rw (s.whole, s.stops)

over_blanks : {t : List ℕ} → Many (In is_blank) t → (p : ℕ) (ys : List ℕ) → run value_step blanks p (t ++ ys) ≡ run value_step blanks (p + length t) ys
over_blanks = over value_step blanks (λ b h q. rw h)

over_tail : (o e : ℕ) {t : List ℕ} → Many (In is_blank) t → (p : ℕ) (ys : List ℕ) → run value_step (inside o e) p (t ++ ys) ≡ run value_step (inside o e) (p + length t) ys
over_tail o e = over value_step (inside o e) (λ b h q. rw (blank_value b h, h))

-- up to a byte that is no blank, whatever the end was before
over_core : (o : ℕ) {m : List ℕ} → Many (In is_value) m → (c : ℕ) → Solid c → (e p : ℕ) (ys : List ℕ) → run value_step (inside o e) p (m ++ (c ∷ ys)) ≡ run value_step (inside o (p + length m + 1)) (p + length m + 1) ys
over_core o none c d e p ys = let n : p + 1 ≡ p + 0 + 1 = omega arith in rw (d.value, d.solid) (ap (λ y. run value_step (inside o y) y ys) n)
over_core o (more {b = b} {w = m} h k) c d e p ys = let n : p + 1 + length m + 1 ≡ p + suc (length m) + 1 = omega arith in rw h (over_core o k c d (cond (is_blank b) e (p + 1)) (p + 1) ys ∙ ap (λ y. run value_step (inside o y) y ys) n)

over_value : {v : List ℕ} → Core v → (p : ℕ) (ys : List ℕ) → run value_step blanks p (v ++ ys) ≡ run value_step (inside p (p + length v)) (p + length v) ys
over_value (one d) p ys = rw (d.solid, d.value)
over_value (two {b = b} {c = c} {m = m} d k e) p ys =
    let n : p + 1 + length m + 1 ≡ p + length ((b ∷ m) ++ (c ∷ [])) = omega (arith, length-append (b ∷ m) (c ∷ [])) in
    ap (λ y. run value_step blanks p (b ∷ y)) (append_assoc m (c ∷ []) ys)
    ∙ rw (d.solid, d.value) (over_core p k c e (p + 1) (p + 1) ys ∙ ap (λ y. run value_step (inside p y) y ys) n)

complete_value : (p : ℕ) (w rest : List ℕ) (a : Piece) → Valued p w a rest → run value_step blanks p (w ++ rest) ≡ gave a (p + length w)
complete_value p w rest a (empty {o = o} k s) = over_blanks k p rest ∙ stop_blanks (p + length o) rest s
complete_value p w rest a (full {o = o} {v = v} {t = t} k c u s) =
    let n : p + length o + length v + length t ≡ p + length (o ++ v ++ t) = omega (arith, length-append (o ++ v) t, length-append o v) in
    ap (run value_step blanks p) (append_assoc (o ++ v) t rest ∙ append_assoc o v (t ++ rest))
    ∙ over_blanks k p (v ++ (t ++ rest)) ∙ over_value c (p + length o) (t ++ rest) ∙ over_tail (p + length o) (p + length o + length v) u (p + length o + length v) rest
    ∙ stop_inside (p + length o) (p + length o + length v) (p + length o + length v + length t) rest s ∙ ap (gave (piece (p + length o) (p + length o + length v))) n

pub exact_value : Exact value_step blanks Valued
exact_value = record { sound = λ p xs a q. sound_value xs p a q; complete = complete_value }
