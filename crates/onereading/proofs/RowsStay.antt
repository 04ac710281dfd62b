-- What was read of a row of heads stays read when more bytes arrive, and its error lies where that of its head does.
-- Assumes nothing.
use Rattle.std.specs.Prelude.{ℕ, ◌+◌, ◌≤◌, ◌<◌, ◌≡◌, refl, List, ◌∷◌, ◌++◌, length, take, drop, Err}
use Rattle.std.proofs.Common.{arith, sym, ap, subst, ◌∙◌, append_assoc, length-append, take_at}
use Rattle.reader.specs.Tests.{never}
use Rattle.reader.specs.Answer.{bad}
use Rattle.rules.specs.Rules.{Rules}
use Rattle.grammar.specs.Fields.{Field}
use Rattle.grammar.specs.Message.{IsRequestHead, IsResponseHead}
use Rattle.lengths.specs.Lengths.{head_long}
use Rattle.parts.specs.declared.Fault.{Fault}
use Rattle.parts.specs.Answers.{fault}
use Rattle.parts.specs.declared.Unread.TheVariants.{Bad}
use Rattle.heads.specs.Head.{Heads, Known}
use Rattle.heads.specs.Calls.{request, response}
use Rattle.agreement.specs.Starts.{Fixed}
use Rattle.agreement.proofs.Calls.{request_exactly, response_exactly, request_at, response_at}
use Rattle.rowread.specs.declared.RowRead.{RowRead}
use Rattle.rowread.specs.declared.Stop.{Stop}
use Rattle.rowread.specs.declared.Stop.TheVariants as stops
use Rattle.rowread.specs.Row.{Row, none, more, Fitting, Ends, Stopped, all_read, full, unfinished, wrong, RowPromise}
use Rattle.onereading.specs.Statements.{OneHead, RowStays, RowSaysWhere}
use Rattle.onereading.proofs.Derivation.{same_rest, one_request, one_response}
use Rattle.onereading.specs.Rows.{Beside, beyond, short}
use Rattle.onereading.proofs.Rows.{beside, ends_count, fitting_behind, row_first}

-- where the reading stopped with an error, no head that fits begins, whatever bytes u follow; y is the reader's own, of the bytes from at on
record Wrong {L K : Type 0} (Head : List ℕ → L → List Field → Type 0) (read : ℕ → List ℕ → Heads K) (n at : ℕ) (rest : List ℕ) (count room : ℕ) (x : Fault) : Type 0 where
  y : Fault
  further : fault y.error (at + y.position) ≡ x
  ends : Ends (read n rest) (Err (Bad y))
  none_fits : (u w t : List ℕ) (l : L) (fs : List Field) → rest ++ u ≡ w ++ t → Head w l fs → length fs ≤ n → ⊥
  long : 1 ≤ length rest
  room_left : count < room

module _ {L K : Type 0} {Head : List ℕ → L → List Field → Type 0} {read : ℕ → List ℕ → Heads K} {n at : ℕ} {rest : List ℕ} {count room : ℕ} {left : List ℕ} where
  stopped_wrong : {slots : List ℕ} {x : Stop} {e : Fault} → Stopped Head read n at rest count room left x slots → x ≡ stops.Bad e → Wrong Head read n at rest count room e
  stopped_wrong {e = e} (wrong {x = f} a w y z l m) h = let g : fault f.error (at + f.position) ≡ e = cc in record { y = f; further = g; ends = a; none_fits = y; long = l; room_left = m }
  stopped_wrong (all_read r) h = never cc
  stopped_wrong (full r l) h = never cc
  stopped_wrong (unfinished a y l m) h = never cc

  -- a reading that has that error stops with it
  stops_wrong : {slots : List ℕ} {x : Stop} {k : Known K} {e : Fault} → Stopped Head read n at rest count room left x slots → read n rest ≡ bad (e, k) → 1 ≤ length rest → count < room → x ≡ stops.Bad (fault e.error (at + e.position))
  stops_wrong (all_read r) h l m = absurd (omega (arith, l, ap length r))
  stops_wrong (full r i) h l m = absurd (omega (arith, r, m))
  stops_wrong (unfinished a y i j) h l m = let c = a.1 ∙ h in never cc
  stops_wrong {k = k} {e = e} (wrong {x = f} a w y z i j) h l m = let u : ◌≡◌ {A = Fault × Known K} (f, a.0) (e, k) = by (a.1 ∙ h) in ap (λ y. stops.Bad (fault y.0.error (at + y.0.position))) u
    where
      by : {x y : Fault × Known K} → ◌≡◌ {A = Heads K} (bad x) (bad y) → x ≡ y
      by q = cc

module _ {L K : Type 0} {Head : List ℕ → L → List Field → Type 0} {read : ℕ → List ℕ → Heads K} (long : (w : List ℕ) (l : L) (fs : List Field) → Head w l fs → 1 ≤ length w) (one : OneHead Head)
    (stays : (n : ℕ) (s u : List ℕ) (x : Fault × Known K) → read n s ≡ bad x → read n (s ++ u) ≡ bad x) where
  -- as many heads of the same bytes take as many bytes
  level : {at : ℕ} {b : List ℕ} {gs : List (L × List Field)} {ds : List ℕ} → Row Head at b gs ds → (rest : List ℕ) {v : List ℕ} {hs : List (L × List Field)} {es : List ℕ} → Row Head at v hs es → (t : List ℕ) → b ++ rest ≡ v ++ t → length gs ≡ length hs → b ≡ v
  level none rest none t e h = refl
  level none rest (more k r) t e h = absurd (omega (arith, h))
  level (more k r) rest none t e h = absurd (omega (arith, h))
  level {at} (more {w = w} {v = v} {l = l} {fs = fs} k r) rest (more {w = w'} {v = v'} {l = l'} {fs = fs'} {rest = hs} {ends = es} k' r') t e h =
      let f : w ++ (v ++ rest) ≡ w' ++ (v' ++ t) = sym (append_assoc w v rest) ∙ e ∙ append_assoc w' v' t in
      let u = one w (v ++ rest) w' (v' ++ t) l l' fs fs' f k k' in
      let m : at + length w' ≡ at + length w = ap (λ y. at + length y) (sym u.0) in
      let i = level r rest (subst (λ y. Row Head y v' hs es) m r') t (same_rest w (v ++ rest) w' (v' ++ t) f u.0) (omega (arith, h)) in
      ap (λ y. y ++ v) u.0 ∙ ap (λ y. w' ++ y) i

  row_stays : (n : ℕ) (s t : List ℕ) {slots slots₂ old old₂ left left₂ new new₂ : List ℕ} {r r₂ : RowRead} → RowPromise Head read n s slots old r left new → RowPromise Head read n (s ++ t) slots₂ old₂ r₂ left₂ new₂ → length old ≤ length old₂ → RowStays r r₂ new new₂
  row_stays n s t {slots₂ = slots₂} {old = old} {old₂ = old₂} {left₂ = left₂} {new = new} {new₂ = new₂} {r = r} {r₂ = r₂} P Q room = record { ends = (count_grows, ends_same); wrong = wrong_same }
    where
      whole : s ++ t ≡ P.bytes ++ (P.rest ++ t)
      whole = ap (λ y. y ++ t) P.whole ∙ append_assoc P.bytes P.rest t

      counted : length P.heads ≡ r.count
      counted = omega (arith, ends_count long one P.row, P.count)

      first : (length P.heads ≤ r₂.count) × (take (length P.heads) new₂ ≡ P.ends)
      first =
          let f = row_first long one read n P.bytes (P.rest ++ t) slots₂ old₂ r₂ left₂ new₂ (subst (λ y. RowPromise Head read n y slots₂ old₂ r₂ left₂ new₂) whole Q) P.heads P.ends P.row P.fits (omega (arith, counted, P.room, room)) in
          (f.0, f.1)

      count_grows : r.count ≤ r₂.count
      count_grows = omega (arith, counted, first.0)

      ends_same : take r.count new₂ ≡ take r.count new
      ends_same = ap (λ y. take y new₂) (sym counted) ∙ first.1 ∙ sym (ap (take r.count) P.kept ∙ take_at P.ends (drop (length P.ends) old) r.count (sym P.count))

      wrong_same : (e : Fault) → r.stop ≡ stops.Bad e → (r₂.stop ≡ stops.Bad e) × (r₂.end ≡ r.end) × (r₂.count ≡ r.count)
      wrong_same e h = by (beside long one P.row (P.rest ++ t) Q.row Q.rest (sym whole ∙ Q.whole))
        where
          W : Wrong Head read n r.end P.rest r.count (length old) e
          W = stopped_wrong P.stopped h

          by : Beside Head (P.rest ++ t) P.heads Q.heads P.ends Q.ends → (r₂.stop ≡ stops.Bad e) × (r₂.end ≡ r.end) × (r₂.count ≡ r.count)
          by (short w v l fs ks d z a) = absurd (W.none_fits t w v l fs z d (fitting_behind long one n P.heads ((l, fs) ∷ ks) (subst (Fitting n) a Q.fits)).0)
          by (beyond ks ds a b) =
              let c : r₂.count ≡ r.count = omega (arith, count_grows, Q.count, P.count, ap length b, length-append Q.ends ds) in
              let m : length P.heads ≡ length Q.heads = omega (arith, c, counted, ends_count long one Q.row, Q.count) in
              let i : P.bytes ≡ Q.bytes = level P.row (P.rest ++ t) Q.row Q.rest (sym whole ∙ Q.whole) m in
              let j : P.rest ++ t ≡ Q.rest = same_rest P.bytes (P.rest ++ t) Q.bytes Q.rest (sym whole ∙ Q.whole) i in
              let x : read n Q.rest ≡ bad (W.y, W.ends.0) = ap (read n) (sym j) ∙ stays n P.rest t (W.y, W.ends.0) (sym W.ends.1) in
              let same_end : r₂.end ≡ r.end = Q.end ∙ ap length (sym i) ∙ sym P.end in
              (stops_wrong Q.stopped x (omega (arith, W.long, ap length j, length-append P.rest t)) (omega (arith, c, W.room_left, room)) ∙ ap (λ y. stops.Bad (fault W.y.error (y + W.y.position))) same_end ∙ ap stops.Bad W.further, same_end, c)

pub requests_stay : {rules : Rules} → Fixed rules → (n : ℕ) (s t : List ℕ) {slots slots₂ old old₂ left left₂ new new₂ : List ℕ} {r r₂ : RowRead} → RowPromise (IsRequestHead rules) (request rules) n s slots old r left new → RowPromise (IsRequestHead rules) (request rules) n (s ++ t) slots₂ old₂ r₂ left₂ new₂ → length old ≤ length old₂ → RowStays r r₂ new new₂
requests_stay fixed = row_stays (λ w l fs. head_long) (one_request fixed) (λ n. (request_exactly fixed n).stays)

pub responses_stay : {rules : Rules} → Fixed rules → (n : ℕ) (s t : List ℕ) {slots slots₂ old old₂ left left₂ new new₂ : List ℕ} {r r₂ : RowRead} → RowPromise (IsResponseHead rules) (response rules) n s slots old r left new → RowPromise (IsResponseHead rules) (response rules) n (s ++ t) slots₂ old₂ r₂ left₂ new₂ → length old ≤ length old₂ → RowStays r r₂ new new₂
responses_stay fixed = row_stays (λ w l fs. head_long) (one_response fixed) (λ n. (response_exactly fixed n).stays)

module _ (rules : Rules) (n : ℕ) {s slots old left new : List ℕ} {r : RowRead} (x : Fault) where
  pub requests_where : (P : RowPromise (IsRequestHead rules) (request rules) n s slots old r left new) → r.stop ≡ stops.Bad x → RowSaysWhere rules n (request rules n) r.end P.rest x
  requests_where P e = let W = stopped_wrong P.stopped e in record { y = W.y; same = sym W.further; placed = request_at rules n P.rest (W.y, W.ends.0) (sym W.ends.1) }

  pub responses_where : (P : RowPromise (IsResponseHead rules) (response rules) n s slots old r left new) → r.stop ≡ stops.Bad x → RowSaysWhere rules n (response rules n) r.end P.rest x
  responses_where P e = let W = stopped_wrong P.stopped e in record { y = W.y; same = sym W.further; placed = response_at rules n P.rest (W.y, W.ends.0) (sym W.ends.1) }
