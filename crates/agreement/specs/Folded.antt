-- A value over its lines is read exactly where the grammar has one with white space around it, and its piece holds the value.
-- Assumes nothing.
use Rattle.std.specs.Prelude.{ℕ, ◌+◌, ◌≤◌, ◌≡◌, refl, ◌⊎◌, List, [], ◌∷◌, ◌++◌, Bool, true, false, length, take, drop}
use Rattle.std.proofs.Common.{arith, sym, ap, subst, ◌∙◌, inl, inr, append_assoc, append-nil, length-append}
use Rattle.reader.specs.Judged.{Verdict, pass}
use Rattle.reader.specs.Loop.{Turn, again, done}
use Rattle.reader.specs.Tests.{clash, never}
use Rattle.exact.specs.Loop.{Laps, last, next}
use Rattle.exact.specs.Branch.{one, other}
use Rattle.octets.specs.Class.{is_blank, is_value}
use Rattle.octets.proofs.Ties.{blank_is_blank, value_is_text}
use Rattle.octets.specs.Outside.{cr_no_value, lf_no_value}
use Rattle.rules.specs.Rules.{Rules}
use Rattle.grammar.specs.Rows.{Many, none, more}
use Rattle.grammar.specs.Fields.{OWS, IsFieldValue}
use Rattle.grammar.specs.Message.{IsLineEnd, crlf, lf, fold, IsAroundValue, IsWithinValue, IsValueLines}
use Rattle.parts.specs.declared.Fault.{Fault}
use Rattle.parts.specs.declared.Piece.{Piece}
use Rattle.values.specs.Value.{blank_value}
use Rattle.folds.specs.Folded.{joined, turn, nothing_yet}
use Rattle.leaves.specs.Rows.{In}
use Rattle.leaves.specs.Value.{Stop, Valued, empty, full}
use Rattle.leaves.specs.Folded.{LapValued, Lines, end_longer, line_longer}
use Rattle.agreement.specs.Places.{held, At, at_as, at_first, at_second, held_at}
use Rattle.agreement.specs.Rows.{many_append}
use Rattle.agreement.specs.Value.{value_derived, value_read}
use Rattle.agreement.specs.Around.{around_append, within_append, around_within, around_blanks, Bound, bound_within, bound_value, value_bound, one_value, no_value}
use Rattle.agreement.specs.SoFar.{any_value, SoFar, white, value, so_far_in, Ready, ready_first, ready_more}

-- the byte behind a value is there, and no blank
pub record NoBlank (rest : List ℕ) : Type 0 where
  pub b : ℕ
  pub ys : List ℕ
  pub whole : rest ≡ b ∷ ys
  pub solid : is_blank b ≡ false

-- a lap, with its parts told apart
record Lap (r : Rules) (a : Piece) (i : ℕ) (w : List ℕ) (t : Turn Piece Piece) (rest : List ℕ) : Type 0 where
  y : List ℕ
  e : List ℕ
  c : Piece
  b : ℕ
  ys : List ℕ
  whole : w ≡ y ++ e
  reads : Valued i y c (e ++ rest)
  ends : IsLineEnd r e
  behind : rest ≡ b ∷ ys
  turns : t ≡ turn (joined a c) (is_blank b)

passed_as : {B : Type 0} {a b : B} → ◌≡◌ {A = Verdict B Fault} (pass a) (pass b) → b ≡ a
passed_as e = cc

done_turn : (t : Bool) {j b : Piece} → done b ≡ turn j t → (t ≡ false) × (b ≡ j)
done_turn true e = never cc
done_turn false e = (refl, cc)

again_turn : (t : Bool) {j b : Piece} → again b ≡ turn j t → (t ≡ true) × (b ≡ j)
again_turn true e = (refl, cc)
again_turn false e = never cc

module _ {r : Rules} (a : Piece) {i : ℕ} where
  lap_parts : {w : List ℕ} {t : Turn Piece Piece} {rest : List ℕ} → LapValued r a i w t rest → Lap r a i w t rest
  lap_parts {w} {t} {rest} K =
      let L = K.left in
      let B = K.right.holds in
      let same : K.a ≡ L.a = passed_as L.right.passes in
      record {
        y = L.w₁;
        e = L.w₂;
        c = L.a;
        b = B.b;
        ys = B.ys;
        whole = K.whole ∙ ap (λ y. K.w₁ ++ y) B.nothing ∙ append-nil K.w₁ ∙ L.whole;
        reads = subst (λ y. Valued i L.w₁ L.a (L.w₂ ++ (y ++ rest))) B.nothing L.left;
        ends = L.right.holds;
        behind = B.whole;
        turns = passed_as K.right.passes ∙ ap (λ y. turn (joined a y) K.right.a) same ∙ ap (turn (joined a L.a)) (sym B.tells);
      }

  lap_whole : {y e : List ℕ} {c : Piece} {rest : List ℕ} → Valued i y c (e ++ rest) → IsLineEnd r e → (b : ℕ) (ys : List ℕ) → rest ≡ b ∷ ys → LapValued r a i (y ++ e) (turn (joined a c) (is_blank b)) rest
  lap_whole {y} {e} {c} k d b ys q =
      record {
        w₁ = y ++ e;
        w₂ = [];
        a = c;
        left = record { w₁ = y; w₂ = e; a = c; left = k; right = record { a = tt; holds = d; passes = refl }; whole = refl };
        right = record { a = is_blank b; holds = record { b = b; ys = ys; nothing = refl; whole = q; tells = refl }; passes = refl };
        whole = sym (append-nil (y ++ e));
      }

-- what lines come to
record Ended (r : Rules) (s : ℕ) (w : List ℕ) (a : Piece) (rest : List ℕ) : Type 0 where
  y : List ℕ
  e : List ℕ
  whole : w ≡ y ++ e
  so_far : SoFar r s y a
  ends : IsLineEnd r e
  next : NoBlank rest

module _ {r : Rules} {s : ℕ} (m : r.multiline_headers ≡ true) where
  laps_derived : (x : List ℕ) {a : Piece} {i : ℕ} {w : List ℕ} {b : Piece} {rest : List ℕ} → Ready r s x a i (w ++ rest) → i ≡ s + length x → Laps (LapValued r) a i w b rest → Ended r s (x ++ w) b rest
  laps_derived x {a} {w = w} {b = b} {rest = rest} K n (last G) =
      let P = lap_parts a G in
      let t = done_turn (is_blank P.b) P.turns in
      let ahead : P.y ++ (P.e ++ rest) ≡ w ++ rest = sym (append_assoc P.y P.e rest) ∙ ap (λ u. u ++ rest) (sym P.whole) in
      record {
        y = x ++ P.y;
        e = P.e;
        whole = ap (λ u. x ++ u) P.whole ∙ sym (append_assoc x P.y P.e);
        so_far = subst (SoFar r s (x ++ P.y)) (sym t.1) (K P.y P.c (P.e ++ rest) ahead P.reads);
        ends = P.ends;
        next = record { b = P.b; ys = P.ys; whole = P.behind; solid = t.0 };
      }
  laps_derived x {a} {i} {b = b} {rest = rest} K n (next {a' = a'} {w₁ = w₁} {w₂ = w₂} G L) =
      let P = lap_parts a G in
      let t = again_turn (is_blank P.b) P.turns in
      let ahead : P.y ++ (P.e ++ (w₂ ++ rest)) ≡ w₁ ++ w₂ ++ rest = sym (append_assoc P.y P.e (w₂ ++ rest)) ∙ ap (λ u. u ++ (w₂ ++ rest)) (sym P.whole) ∙ sym (append_assoc w₁ w₂ rest) in
      let S : SoFar r s (x ++ P.y) a' = subst (SoFar r s (x ++ P.y)) (sym t.1) (K P.y P.c (P.e ++ (w₂ ++ rest)) ahead P.reads) in
      let same : x ++ P.y ++ P.e ≡ x ++ w₁ = append_assoc x P.y P.e ∙ ap (λ u. x ++ u) (sym P.whole) in
      let place : i + length w₁ ≡ s + length (x ++ w₁) = omega (arith, length-append x w₁) in
      let more_ahead : Ready r s (x ++ w₁) a' (i + length w₁) (w₂ ++ rest) = subst (λ u. Ready r s (x ++ w₁) a' (i + length w₁) u) (sym P.behind) (subst (λ u. Ready r s u a' (i + length w₁) (P.b ∷ P.ys)) same (ready_more m S P.ends P.b P.ys t.0 (i + length w₁) (place ∙ ap (λ u. s + length u) (sym same)))) in
      subst (λ u. Ended r s u b rest) (append_assoc x w₁ w₂) (laps_derived (x ++ w₁) more_ahead place L)

-- the grammar's words for a value over its lines, the white space around it, and its end
pub record SpacedLines (z : List ℕ) (r : Rules) (w : List ℕ) (a : Piece) (rest : List ℕ) : Type 0 where
  pub o : List ℕ
  pub v : List ℕ
  pub t : List ℕ
  pub e : List ℕ
  pub whole : w ≡ (o ++ v ++ t) ++ e
  pub left : IsAroundValue r o
  pub value : IsValueLines r v
  pub right : IsAroundValue r t
  pub ends : IsLineEnd r e
  pub holds : held z a ≡ v
  pub next : r.multiline_headers ≡ true → NoBlank rest

held_nil : (z : List ℕ) (a : Piece) → a.length ≡ 0 → held z a ≡ []
held_nil z a n = ap (λ y. take y (drop a.offset z)) n

spaced : {z : List ℕ} {r : Rules} {s : ℕ} {y e : List ℕ} {a : Piece} {rest : List ℕ} → r.multiline_headers ≡ true → At z s (y ++ e) rest → SoFar r s y a → IsLineEnd r e → NoBlank rest → SpacedLines z r (y ++ e) a rest
spaced {z} {e = e} {a = a} m h (white {x = x} l n k) d g = record { o = x; v = []; t = []; e = e; whole = ap (λ u. u ++ e) (sym (append-nil (x ++ []) ∙ append-nil x)); left = k; value = IsValueLines.one IsFieldValue.none; right = IsAroundValue.none; ends = d; holds = held_nil z a n; next = λ _. g }
spaced {e = e} m h (value {o = o} {v = v} {t = t} k b l) d g = record { o = o; v = v; t = t; e = e; whole = refl; left = k; value = bound_value m b; right = l; ends = d; holds = held_at (at_second o v (at_first (o ++ v) t (at_first (o ++ v ++ t) e h))); next = λ _. g }

module _ {r : Rules} {p : ℕ} {w : List ℕ} {a : Piece} {rest : List ℕ} where
  laps_ended : r.multiline_headers ≡ true → Laps (LapValued r) nothing_yet p w a rest → Ended r p w a rest
  laps_ended m k = laps_derived m [] (ready_first p (w ++ rest)) (omega arith) k

  pub lines_derived : {z : List ℕ} → At z p w rest → Lines r p w a rest → SpacedLines z r w a rest
  lines_derived {z} h (one b bs e m k) =
      let E = laps_ended m k in
      subst (λ u. SpacedLines z r u a rest) (sym E.whole) (spaced m (at_as E.whole h) E.so_far E.ends E.next)
  lines_derived {z} h (other b bs e m K) =
      let same : a ≡ K.a = passed_as K.right.passes in
      let S = value_derived (at_first K.w₁ K.w₂ (at_as K.whole h)) K.left in
      record {
        o = S.o;
        v = S.v;
        t = S.t;
        e = K.w₂;
        whole = K.whole ∙ ap (λ u. u ++ K.w₂) S.whole;
        left = around_blanks S.left;
        value = IsValueLines.one S.value;
        right = around_blanks S.right;
        ends = K.right.holds;
        holds = ap (held z) same ∙ S.holds;
        next = λ t. absurd (clash t m);
      }

  -- the piece ends within what is read
  pub lines_in : Lines r p w a rest → a.offset + a.length ≤ p + length w
  lines_in (one b bs e m k) = let E = laps_ended m k in omega (arith, so_far_in E.so_far, ap length E.whole ∙ length-append E.y E.e)
  lines_in (other b bs e m K) =
      let same : a ≡ K.a = passed_as K.right.passes in
      subst (λ (y : Piece). y.offset + y.length ≤ p + length w) (sym same) (omega (arith, value_in K.left, ap length K.whole ∙ length-append K.w₁ K.w₂))
    where
      value_in : {v : List ℕ} {c : Piece} {ys : List ℕ} → Valued p v c ys → c.offset + c.length ≤ p + length v
      value_in (empty {o = o} k s) = omega arith
      value_in (full {o = o} {v = v} {t = t} k c u s) = omega (arith, length-append (o ++ v) t, length-append o v)

  -- and that has a byte at least
  pub lines_longer : Lines r p w a rest → 1 ≤ length w
  lines_longer (one b bs e m k) = let E = laps_ended m k in omega (arith, end_longer E.ends, ap length E.whole ∙ length-append E.y E.e)
  lines_longer (other b bs e m K) = line_longer K

-- a line's end ends a value
pub end_stops : {r : Rules} {e : List ℕ} → IsLineEnd r e → (rest : List ℕ) → Stop (e ++ rest)
end_stops crlf rest = record { b = 13; ys = 10 ∷ rest; whole = refl; stops = cr_no_value }
end_stops (lf h) rest = record { b = 10; ys = rest; whole = refl; stops = lf_no_value }

-- the laps that read the bytes u and an end
record LapsRead (r : Rules) (s : ℕ) (x : List ℕ) (a : Piece) (i : ℕ) (u e rest : List ℕ) : Type 0 where
  b : Piece
  laps : Laps (LapValued r) a i (u ++ e) b rest
  so_far : SoFar r s (x ++ u) b

module _ {r : Rules} {s : ℕ} {e rest : List ℕ} (d : IsLineEnd r e) (g : NoBlank rest) where
  -- y is what has been read of the first line
  laps_read : {w : List ℕ} → IsWithinValue r w → (x : List ℕ) (a : Piece) (i : ℕ) (y : List ℕ) → Many (In is_value) y → Ready r s x a i (y ++ w ++ e ++ rest) → i ≡ s + length x → LapsRead r s x a i (y ++ w) e rest
  laps_read IsWithinValue.none x a i y k K n =
      let A = any_value i k (end_stops d rest) in
      let same : y ++ (e ++ rest) ≡ y ++ [] ++ e ++ rest = sym (append_assoc y e rest) ∙ ap (λ u. u ++ e ++ rest) (sym (append-nil y)) in
      let turns : turn (joined a A.c) (is_blank g.b) ≡ done (joined a A.c) = ap (turn (joined a A.c)) g.solid in
      subst (λ u. LapsRead r s x a i u e rest) (sym (append-nil y))
      (record { b = joined a A.c; laps = last (subst (λ u. LapValued r a i (y ++ e) u rest) turns (lap_whole a A.reads d g.b g.ys g.whole)); so_far = K y A.c (e ++ rest) same A.reads })
  laps_read (IsWithinValue.more {b = b} {w = w} h j) x a i y k K n =
      let same : y ++ (b ∷ []) ++ w ≡ y ++ (b ∷ w) = append_assoc y (b ∷ []) w in
      subst (λ u. LapsRead r s x a i u e rest) same
      (laps_read j x a i (y ++ (b ∷ [])) (many_append k (more ((value_is_text b).1 h) none)) (subst (λ u. Ready r s x a i (u ++ e ++ rest)) (sym same) K) n)
  laps_read (IsWithinValue.folded {w = w} (fold {e = f} {b = b} m c h) j) x a i y k K n =
      let ahead : List ℕ = b ∷ (w ++ e ++ rest) in
      let A = any_value i k (end_stops c ahead) in
      let t : is_blank b ≡ true = (blank_is_blank b).1 h in
      let turns : turn (joined a A.c) (is_blank b) ≡ again (joined a A.c) = ap (turn (joined a A.c)) t in
      let whole : y ++ (f ++ ahead) ≡ y ++ (f ++ (b ∷ []) ++ w) ++ e ++ rest = simp append_assoc in
      let S = K y A.c (f ++ ahead) whole A.reads in
      let place : i + length (y ++ f) ≡ s + length (x ++ y ++ f) = omega (arith, length-append y f, length-append (x ++ y) f, length-append x y) in
      let R = laps_read j (x ++ y ++ f) (joined a A.c) (i + length (y ++ f)) (b ∷ []) (more (blank_value b t) none) (ready_more m S c b (w ++ e ++ rest) t (i + length (y ++ f)) place) place in
      let lap = subst (λ u. LapValued r a i (y ++ f) u ahead) turns (lap_whole a A.reads c b (w ++ e ++ rest) refl) in
      let read : y ++ f ++ ((b ∷ w) ++ e) ≡ y ++ (f ++ (b ∷ []) ++ w) ++ e = simp append_assoc in
      let bytes : x ++ y ++ f ++ (b ∷ w) ≡ x ++ (y ++ (f ++ (b ∷ []) ++ w)) = simp append_assoc in
      record { b = R.b; laps = subst (λ u. Laps (LapValued r) a i u R.b rest) read (next {b = R.b} lap R.laps); so_far = subst (λ u. SoFar r s u R.b) bytes R.so_far }

-- the value that such bytes hold is the grammar's
so_far_holds : {z : List ℕ} {r : Rules} {p : ℕ} (o v t : List ℕ) {x : List ℕ} {rest : List ℕ} {b : Piece} → At z p x rest → IsAroundValue r o → (v ≡ []) ⊎ Bound r v → IsAroundValue r t → x ≡ o ++ v ++ t → SoFar r p x b → held z b ≡ v
so_far_holds {z} o v t {b = b} h left (inl e) right q (white l n k) = held_nil z b n ∙ sym e
so_far_holds o v t h left (inr B) right q (white l n k) = absurd (no_value o t k B q)
so_far_holds {r = r} o v t h left (inl e) right q (value {o = o₁} {v = v₁} {t = t₁} k B l) =
    let all : o ++ t ≡ o₁ ++ v₁ ++ t₁ = sym (q ∙ ap (λ u. o ++ u ++ t) e ∙ ap (λ u. u ++ t) (append-nil o)) in
    absurd (no_value o₁ t₁ (around_append left right) B all)
so_far_holds o v t h left (inr C) right q (value {o = o₁} {v = v₁} {t = t₁} k B l) = held_at (at_second o₁ v₁ (at_first (o₁ ++ v₁) t₁ h)) ∙ one_value k B l left C right q

-- no fold where the rules have none
module _ {r : Rules} (m : r.multiline_headers ≡ false) where
  no_folds : {w : List ℕ} → IsAroundValue r w → OWS w
  no_folds IsAroundValue.none = none
  no_folds (IsAroundValue.more h k) = more h (no_folds k)
  no_folds (IsAroundValue.folded (fold t d b) k) = absurd (clash t m)

  one_line : {v : List ℕ} → IsValueLines r v → IsFieldValue v
  one_line (IsValueLines.one k) = k
  one_line (IsValueLines.several t b k c) = absurd (clash t m)

-- the piece that is given for a value over its lines
pub record GivenLines (z : List ℕ) (r : Rules) (p : ℕ) (w v rest : List ℕ) : Type 0 where
  pub a : Piece
  pub reads : Lines r p w a rest
  pub holds : held z a ≡ v

record Begins (w : List ℕ) : Type 0 where
  b : ℕ
  bs : List ℕ
  whole : w ≡ b ∷ bs

begins : {r : Rules} (x : List ℕ) {e : List ℕ} → IsLineEnd r e → (rest : List ℕ) → Begins (x ++ e ++ rest)
begins [] crlf rest = record { b = 13; bs = 10 ∷ rest; whole = refl }
begins [] (lf h) rest = record { b = 10; bs = rest; whole = refl }
begins (b ∷ x) {e} d rest = record { b = b; bs = x ++ e ++ rest; whole = refl }

module _ {z : List ℕ} {r : Rules} {p : ℕ} {o v t e rest : List ℕ} (h : At z p ((o ++ v ++ t) ++ e) rest) (left : IsAroundValue r o) (value : IsValueLines r v) (right : IsAroundValue r t) (d : IsLineEnd r e) where
  within_lines : IsWithinValue r (o ++ v ++ t)
  within_lines = by (value_bound value)
    where
      by : (v ≡ []) ⊎ Bound r v → IsWithinValue r (o ++ v ++ t)
      by (inl n) = subst (λ u. IsWithinValue r (o ++ u ++ t)) (sym n) (subst (λ u. IsWithinValue r (u ++ t)) (sym (append-nil o)) (within_append (around_within left) (around_within right)))
      by (inr B) = within_append (within_append (around_within left) (bound_within B)) (around_within right)

  folded_read : r.multiline_headers ≡ true → NoBlank rest → GivenLines z r p ((o ++ v ++ t) ++ e) v rest
  folded_read m g =
      let R = laps_read {s = p} d g within_lines [] nothing_yet p [] none (ready_first p (o ++ v ++ t ++ e ++ rest)) (omega arith) in
      let B = begins (o ++ v ++ t) d rest in
      record { a = R.b; reads = one B.b B.bs B.whole m R.laps; holds = so_far_holds o v t (at_first (o ++ v ++ t) e h) left (value_bound value) right refl R.so_far }

  line_read : r.multiline_headers ≡ false → GivenLines z r p ((o ++ v ++ t) ++ e) v rest
  line_read m =
      let G = value_read (at_first (o ++ v ++ t) e h) (no_folds m left) (one_line m value) (no_folds m right) (end_stops d rest) in
      let B = begins (o ++ v ++ t) d rest in
      record { a = G.a; reads = other B.b B.bs B.whole m (record { w₁ = o ++ v ++ t; w₂ = e; a = G.a; left = G.reads; right = record { a = tt; holds = d; passes = refl }; whole = refl }); holds = G.holds }

  pub lines_read : (r.multiline_headers ≡ true → NoBlank rest) → GivenLines z r p ((o ++ v ++ t) ++ e) v rest
  lines_read g = by r.multiline_headers refl
    where
      by : (m : Bool) → r.multiline_headers ≡ m → GivenLines z r p ((o ++ v ++ t) ++ e) v rest
      by true m = folded_read m (g m)
      by false m = line_read m

-- what follows matters no more than its first byte does
valued_same : {i : ℕ} {y : List ℕ} {c : Piece} {rest rest' : List ℕ} → Valued i y c rest → Stop rest' → Valued i y c rest'
valued_same (empty k s) t = empty k t
valued_same (full k c u s) t = full k c u t

-- the byte behind a lap is one of the next
pub behind_same : (b : ℕ) (ys w rest rest' : List ℕ) → w ++ rest ≡ b ∷ ys → 1 ≤ length w → (zs : List ℕ) × (w ++ rest' ≡ b ∷ zs)
behind_same b ys [] rest rest' e l = absurd (omega arith)
behind_same b ys (x ∷ w) rest rest' e l = let i : x ≡ b = cc in (w ++ rest', ap (λ u. u ∷ (w ++ rest')) i)

laps_longer : {r : Rules} {a : Piece} {i : ℕ} {w : List ℕ} {b : Piece} {rest : List ℕ} → Laps (LapValued r) a i w b rest → 1 ≤ length w
laps_longer {a = a} (last G) = let P = lap_parts a G in omega (arith, end_longer P.ends, ap length P.whole ∙ length-append P.y P.e)
laps_longer {a = a} (next {w₁ = w₁} {w₂ = w₂} G L) = omega (arith, length-append w₁ w₂, laps_longer L)

laps_same : {r : Rules} {a : Piece} {i : ℕ} {w : List ℕ} {b : Piece} {rest : List ℕ} (rest' : List ℕ) → NoBlank rest' → Laps (LapValued r) a i w b rest → Laps (LapValued r) a i w b rest'
laps_same {r} {a} {i} {b = b} rest' g (last G) =
    let P = lap_parts a G in
    let t = done_turn (is_blank P.b) P.turns in
    let turns : turn (joined a P.c) (is_blank g.b) ≡ done b = ap (turn (joined a P.c)) g.solid ∙ ap done (sym t.1) in
    last (subst (λ u. LapValued r a i u (done b) rest') (sym P.whole) (subst (λ u. LapValued r a i (P.y ++ P.e) u rest') turns (lap_whole a (valued_same P.reads (end_stops P.ends rest')) P.ends g.b g.ys g.whole)))
laps_same {r} {a} {i} {b = b} {rest = rest} rest' g (next {a' = a'} {w₁ = w₁} {w₂ = w₂} G L) =
    let P = lap_parts a G in
    let B = behind_same P.b P.ys w₂ rest rest' P.behind (laps_longer L) in
    next (subst (λ u. LapValued r a i u (again a') (w₂ ++ rest')) (sym P.whole) (subst (λ u. LapValued r a i (P.y ++ P.e) u (w₂ ++ rest')) (sym P.turns) (lap_whole a (valued_same P.reads (end_stops P.ends (w₂ ++ rest'))) P.ends P.b B.0 B.1)))
    (laps_same rest' g L)

pub lines_same : {r : Rules} {p : ℕ} {w : List ℕ} {a : Piece} {rest : List ℕ} (rest' : List ℕ) → (r.multiline_headers ≡ true → NoBlank rest') → Lines r p w a rest → Lines r p w a rest'
lines_same {w = w} {rest = rest} rest' g (one b bs e m k) = let B = behind_same b bs w rest rest' e (laps_longer k) in one b B.0 B.1 m (laps_same rest' (g m) k)
lines_same {w = w} {rest = rest} rest' g (other b bs e m K) =
    let B = behind_same b bs w rest rest' e (line_longer K) in
    other b B.0 B.1 m (record { w₁ = K.w₁; w₂ = K.w₂; a = K.a; left = valued_same K.left (end_stops K.right.holds rest'); right = record { a = K.right.a; holds = K.right.holds; passes = K.right.passes }; whole = K.whole })
