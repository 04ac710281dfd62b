-- Heads in a row: the same bytes are no two rows of heads, and reading them from each end on gives exactly those heads.
-- Assumes nothing.
use Rattle.std.specs.Prelude.{ℕ, ◌+◌, ◌≤◌, ◌≡◌, refl, List, [], ◌∷◌, ◌++◌, length, take, drop}
use Rattle.std.proofs.Common.{arith, sym, ap, subst, ◌∙◌, append_assoc, append-nil, length-append, take_at}
use Rattle.rules.specs.Rules.{Rules}
use Rattle.grammar.specs.Fields.{Field}
use Rattle.grammar.specs.Message.{IsRequestHead, IsResponseHead}
use Rattle.lengths.specs.Lengths.{head_long}
use Rattle.heads.specs.Head.{Heads}
use Rattle.heads.specs.Calls.{request, response}
use Rattle.agreement.specs.Starts.{Fixed}
use Rattle.rowread.specs.declared.Stop.{Stop}
use Rattle.rowread.specs.declared.Stop.TheVariants as stops
use Rattle.rowread.specs.Row.{Row, none, more, Fitting, Stopped, all_read, full, unfinished, wrong}
use Rattle.onereading.specs.Statements.{OneHead, OneRow, ReadsRow, ReadsFirst}
use Rattle.onereading.proofs.Derivation.{same_rest, one_request, one_response}
use Rattle.onereading.specs.Rows.{Beside, beyond, short}

-- a row goes on behind its first heads
record Onward {L : Type 0} (Head : List ℕ → L → List Field → Type 0) (at : ℕ) (rest : List ℕ) (hs gs : List (L × List Field)) (es ds : List ℕ) : Type 0 where
  pub heads : List (L × List Field)
  pub ends : List ℕ
  pub row : Row Head at rest heads ends
  pub all : gs ≡ hs ++ heads
  pub all_ends : ds ≡ es ++ ends

module _ {L : Type 0} {Head : List ℕ → L → List Field → Type 0} (long : (w : List ℕ) (l : L) (fs : List Field) → Head w l fs → 1 ≤ length w) (one : OneHead Head) where
  onward : {at : ℕ} {v : List ℕ} {hs : List (L × List Field)} {es : List ℕ} → Row Head at v hs es → (rest : List ℕ) {w : List ℕ} {gs : List (L × List Field)} {ds : List ℕ} → Row Head at w gs ds → w ≡ v ++ rest → Onward Head (at + length v) rest hs gs es ds
  onward {at} none rest {w} {gs} {ds} r e =
      let z : at ≡ at + 0 = omega arith in
      record { heads = gs; ends = ds; row = subst (λ y. Row Head y rest gs ds) z (subst (λ y. Row Head at y gs ds) e r); all = refl; all_ends = refl }
  onward (more {w = w} {v = v} {l = l} {fs = fs} h k) rest none e = absurd (omega (arith, ap length e, length-append (w ++ v) rest, length-append w v, long w l fs h))
  onward {at} (more {w = w} {v = v} {l = l} {fs = fs} {rest = hs} {ends = es} h k) rest (more {w = w'} {v = v'} {l = l'} {fs = fs'} {rest = gs} {ends = ds} h' k') e =
      let f : w' ++ v' ≡ w ++ (v ++ rest) = e ∙ append_assoc w v rest in
      let u = one w' v' w (v ++ rest) l' l fs' fs f h' h in
      let m : at + length w' ≡ at + length w = ap (λ y. at + length y) u.0 in
      let o = onward k rest (subst (λ y. Row Head y v' gs ds) m k') (same_rest w' v' w (v ++ rest) f u.0) in
      let z : at + length w + length v ≡ at + length (w ++ v) = omega (arith, length-append w v) in
      record {
        heads = o.heads;
        ends = o.ends;
        row = subst (λ y. Row Head y rest o.heads o.ends) z o.row;
        all = ap (λ y. (y, fs') ∷ gs) u.1 ∙ ap (λ y. (l, y) ∷ gs) u.2 ∙ ap (λ y. (l, fs) ∷ y) o.all;
        all_ends = ap (λ y. y ∷ ds) m ∙ ap (λ y. (at + length w) ∷ y) o.all_ends;
      }

  -- nothing is no head
  row_empty : {at : ℕ} {w : List ℕ} {hs : List (L × List Field)} {es : List ℕ} → Row Head at w hs es → w ≡ [] → (hs ≡ []) × (es ≡ [])
  row_empty none e = (refl, refl)
  row_empty (more {w = w} {v = v} {l = l} {fs = fs} h k) e = absurd (omega (arith, ap length e, length-append w v, long w l fs h))

  -- the same bytes are no two rows of heads
  one_row : OneRow Head
  one_row v w hs gs es ds r q e =
      let o = onward r [] q (sym e ∙ sym (append-nil v)) in
      let z = row_empty o.row refl in
      (sym (o.all ∙ ap (λ y. hs ++ y) z.0 ∙ append-nil hs), sym (o.all_ends ∙ ap (λ y. es ++ y) z.1 ∙ append-nil es))

  pub ends_count : {at : ℕ} {w : List ℕ} {hs : List (L × List Field)} {es : List ℕ} → Row Head at w hs es → length es ≡ length hs
  ends_count none = refl
  ends_count (more h k) = omega (arith, ends_count k)

  pub fitting_behind : (n : ℕ) (hs gs : List (L × List Field)) → Fitting n (hs ++ gs) → Fitting n gs
  fitting_behind n [] gs f = f
  fitting_behind n (h ∷ hs) gs f = fitting_behind n hs gs f.1

  -- where a row of heads that fit is left, the reading stopped at the end of all of it
  stopped_end : {K : Type 0} {read : ℕ → List ℕ → Heads K} {n stop : ℕ} {rest : List ℕ} {count room : ℕ} {left slots : List ℕ} {x : Stop} → Stopped Head read n stop rest count room left x slots → {at : ℕ} {hs : List (L × List Field)} {es : List ℕ} → Row Head at rest hs es → Fitting n hs → count + length hs ≤ room → (x ≡ stops.End) × (rest ≡ [])
  stopped_end (all_read e) r f h = (refl, e)
  stopped_end (full e l) none f h = absurd (omega (arith, l))
  stopped_end (full e l) (more d k) f h = absurd (omega (arith, e, h))
  stopped_end (unfinished a y l m) none f h = absurd (omega (arith, l))
  stopped_end (unfinished a y l m) (more {w = w} {v = v} {l = k} {fs = fs} d q) f h = absurd (y w v k fs refl d)
  stopped_end (wrong a i y z l m) none f h = absurd (omega (arith, l))
  stopped_end (wrong a i y z l m) (more {w = w} {v = v} {l = k} {fs = fs} d q) f h = absurd (y [] w v k fs (append-nil (w ++ v)) d f.0)

  row_read : {K : Type 0} (read : ℕ → List ℕ → Heads K) → ReadsRow Head read
  row_read read n s slots old r slots' new P hs es q f h =
      let o = onward P.row P.rest q P.whole in
      let c : length hs ≡ length P.heads + length o.heads = ap length o.all ∙ length-append P.heads o.heads in
      let i : length P.ends ≡ length P.heads = ends_count P.row in
      let x = stopped_end P.stopped o.row (fitting_behind n P.heads o.heads (subst (Fitting n) o.all f)) (omega (arith, h, c, i, P.count)) in
      let z = row_empty o.row x.1 in
      let a : P.heads ≡ hs = sym (o.all ∙ ap (λ y. P.heads ++ y) z.0 ∙ append-nil P.heads) in
      let b : P.ends ≡ es = sym (o.all_ends ∙ ap (λ y. P.ends ++ y) z.1 ∙ append-nil P.ends) in
      let w : r.end ≡ length s = omega (arith, P.end, ap length P.whole, length-append P.bytes P.rest, ap length x.1) in
      (x.0, w, a, P.count ∙ i ∙ ap length a, P.kept ∙ ap (λ y. y ++ drop (length y) old) b)

  beside_more : {rest : List ℕ} {gs hs : List (L × List Field)} {ds es : List ℕ} {h g : L × List Field} {e d : ℕ} → g ≡ h → d ≡ e → Beside Head rest gs hs ds es → Beside Head rest (g ∷ gs) (h ∷ hs) (d ∷ ds) (e ∷ es)
  beside_more {gs = gs} {ds = ds} {h = h} {e = e} i j (beyond fs ends a b) = beyond fs ends (ap (λ y. y ∷ gs) i ∙ ap (λ y. h ∷ y) a) (ap (λ y. y ∷ ds) j ∙ ap (λ y. e ∷ y) b)
  beside_more {hs = hs} {g = g} i j (short w v l fs left d z a) = short w v l fs left d z (ap (λ y. y ∷ hs) (sym i) ∙ ap (λ y. g ∷ y) a)

  pub beside : {at : ℕ} {b : List ℕ} {gs : List (L × List Field)} {ds : List ℕ} → Row Head at b gs ds → (rest : List ℕ) {v : List ℕ} {hs : List (L × List Field)} {es : List ℕ} → Row Head at v hs es → (t : List ℕ) → b ++ rest ≡ v ++ t → Beside Head rest gs hs ds es
  beside none rest none t e = beyond [] [] refl refl
  beside none rest (more {w = w} {v = v} {l = l} {fs = fs} {rest = hs} h k) t e = short w (v ++ t) l fs hs h (e ∙ append_assoc w v t) refl
  beside (more {l = l} {fs = fs} {rest = gs} {ends = ds} h k) rest none t e = beyond ((l, fs) ∷ gs) _ refl refl
  beside {at} (more {w = w} {v = v} {l = l} {fs = fs} h k) rest (more {w = w'} {v = v'} {l = l'} {fs = fs'} {rest = hs} {ends = es} h' k') t e =
      let f : w ++ (v ++ rest) ≡ w' ++ (v' ++ t) = sym (append_assoc w v rest) ∙ e ∙ append_assoc w' v' t in
      let u = one w (v ++ rest) w' (v' ++ t) l l' fs fs' f h h' in
      let m : at + length w' ≡ at + length w = ap (λ y. at + length y) (sym u.0) in
      beside_more (ap (λ y. (y, fs)) u.1 ∙ ap (λ y. (l', y)) u.2) (sym m) (beside k rest (subst (λ y. Row Head y v' hs es) m k') t (same_rest w (v ++ rest) w' (v' ++ t) f u.0))

  -- the reading does not stop before a head that fits, where there is room for its end
  never_before : {K : Type 0} {read : ℕ → List ℕ → Heads K} {n stop : ℕ} {rest : List ℕ} {count room : ℕ} {left slots : List ℕ} {x : Stop} → Stopped Head read n stop rest count room left x slots → (w v : List ℕ) (l : L) (fs : List Field) → Head w l fs → rest ≡ w ++ v → length fs ≤ n → count + 1 ≤ room → ⊥
  never_before (all_read e) w v l fs d z f h = omega (arith, ap length (sym z ∙ e), length-append w v, long w l fs d)
  never_before (full e i) w v l fs d z f h = omega (arith, e, h)
  never_before (unfinished a y i m) w v l fs d z f h = y w v l fs z d
  never_before {rest = rest} (wrong a k y x i m) w v l fs d z f h = y [] w v l fs (append-nil rest ∙ z) d f

  pub row_first : {K : Type 0} (read : ℕ → List ℕ → Heads K) → ReadsFirst Head read
  row_first read n v t slots old r slots' new P hs es q f h = by (beside P.row P.rest q t (sym P.whole))
    where
      k : length es ≡ length hs
      k = ends_count q

      by : Beside Head P.rest P.heads hs P.ends es → (length hs ≤ r.count) × (take (length hs) new ≡ es) × (take (length hs) P.heads ≡ hs)
      by (beyond gs ds a b) = (
        omega (arith, k, P.count, ap length b, length-append es ds),
        ap (take (length hs)) (P.kept ∙ ap (λ y. y ++ drop (length P.ends) old) b ∙ append_assoc es ds (drop (length P.ends) old)) ∙ take_at es (ds ++ drop (length P.ends) old) (length hs) k,
        ap (take (length hs)) a ∙ take_at hs gs (length hs) refl,
      )
      by (short w v l fs left d z a) =
          let c = ap length a ∙ length-append P.heads ((l, fs) ∷ left) in
          absurd (never_before P.stopped w v l fs d z (fitting_behind n P.heads ((l, fs) ∷ left) (subst (Fitting n) a f)).0 (omega (arith, h, c, ends_count P.row, P.count)))

module _ {r : Rules} (fixed : Fixed r) where
  pub one_row_of_requests : OneRow (IsRequestHead r)
  one_row_of_requests = one_row (λ w l fs. head_long) (one_request fixed)

  pub one_row_of_responses : OneRow (IsResponseHead r)
  one_row_of_responses = one_row (λ w l fs. head_long) (one_response fixed)

  pub requests_read : ReadsRow (IsRequestHead r) (request r)
  requests_read = row_read (λ w l fs. head_long) (one_request fixed) (request r)

  pub responses_read : ReadsRow (IsResponseHead r) (response r)
  responses_read = row_read (λ w l fs. head_long) (one_response fixed) (response r)

  pub requests_first : ReadsFirst (IsRequestHead r) (request r)
  requests_first = row_first (λ w l fs. head_long) (one_request fixed) (request r)

  pub responses_first : ReadsFirst (IsResponseHead r) (response r)
  responses_first = row_first (λ w l fs. head_long) (one_response fixed) (response r)
