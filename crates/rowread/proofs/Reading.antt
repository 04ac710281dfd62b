-- Reading a row: what the next head comes to, and what is kept from one to the next.
-- Assumes nothing.
use Rattle.std.specs.Prelude.{ℕ, suc, ◌+◌, ◌-◌, ◌/◌, ◌≤◌, ◌<◌, ◌≡◌, refl, List, [], ◌∷◌, ◌++◌, length, take, drop, get_or, set, Err, Ok}
use Rattle.std.proofs.Common.{arith, sym, ap, subst, ◌∙◌, append_assoc, append-nil, length-append, length-drop, length-set, take_all, drop_at, drop-cons}
use Rattle.std.proofs.lemmas.List.{set_at}
use Rattle.rules.specs.Rules.{Rules}
use Rattle.grammar.specs.Fields.{Field}
use Rattle.grammar.specs.Message.{IsRequestHead, IsResponseHead}
use Rattle.lengths.specs.Lengths.{head_long}
use Rattle.parts.specs.declared.Fault.{Fault}
use Rattle.parts.specs.declared.Unread.{Unread}
use Rattle.parts.specs.Answers.{Passed, fault}
use Rattle.parts.specs.declared.Unread.TheVariants.{More, Bad}
use Rattle.requestline.specs.declared.RequestLine.{RequestLine}
use Rattle.statusline.specs.declared.StatusLine.{StatusLine}
use Rattle.agreement.specs.Known.{RequestSays, StatusSays, RequestInside, StatusInside}
use Rattle.agreement.proofs.Kept.{fields_counted}
use Rattle.agreement.specs.Promises.{HeadPromise, FaultPromise}
use Rattle.heads.specs.Head.{Heads, Told, given}
use Rattle.heads.specs.Calls.{request, response}
use Rattle.rowread.specs.declared.RowRead.{RowRead}
use Rattle.rowread.specs.declared.Stop.{Stop}
use Rattle.rowread.specs.declared.Stop.TheVariants as stops
use Rattle.rowread.specs.Row.{Row, none, more, Fitting, used, Used, untouched, behind, Stopped, all_read, full, unfinished, wrong, RowPromise}
use Rattle.rowread.specs.Reading.{Next, Reading, fails, found, waits, stop_of, WrongBefore}

module _ {L K : Type 0} {Head : List ℕ → L → List Field → Type 0} {read : ℕ → List ℕ → Heads K} {Says : List ℕ → K → L → Type 0} {r : Rules} {In : List ℕ → K → Type 0} (long : (w : List ℕ) (l : L) (fs : List Field) → Head w l fs → 1 ≤ length w)
    {z old : List ℕ} {line : K} {count : ℕ} {new : List ℕ} where
  next : (end : Passed) → Told (read (length old / 4) z) end line count old new → HeadPromise r Head Says In z old end line count new → FaultPromise r (length old / 4) (read (length old / 4)) z end → Next Head read (length old / 4) z end
  next (Ok q) T P F = let H = P.complete q refl in found H.rest H.whole H.end (long H.bytes H.said _ H.head) H.head (omega (arith, fields_counted z count new, P.within.0))
  next (Err More) T P F = waits ((line, given (read (length old / 4) z)), T.answer) (P.incomplete refl)
  next (Err (Bad x)) T P F = fails ((line, given (read (length old / 4) z)), T.answer) (F.placed x refl).within (P.error x refl) (P.error_at_all x refl)

-- all that stands behind a position
rest_of : (s : List ℕ) (at : ℕ) → take (length s - at) (drop at s) ≡ drop at s
rest_of s at = take_all (length s - at) (drop at s) (omega (arith, length-drop at s))

module _ (r : Rules) (s : List ℕ) (at : ℕ) {old : List ℕ} {end : Passed} {count : ℕ} {new : List ℕ} where
  pub next_request : {line : RequestLine} → Told (request r (length old / 4) (take (length s - at) (drop at s))) end line count old new → HeadPromise r (IsRequestHead r) RequestSays (RequestInside r) (take (length s - at) (drop at s)) old end line count new → FaultPromise r (length old / 4) (request r (length old / 4)) (take (length s - at) (drop at s)) end → Next (IsRequestHead r) (request r) (length old / 4) (drop at s) end
  next_request T P F = subst (λ z. Next (IsRequestHead r) (request r) (length old / 4) z end) (rest_of s at) (next {read = request r} (λ w l fs. head_long) end T P F)

  pub used_request : {line : RequestLine} → Told (request r (length old / 4) (take (length s - at) (drop at s))) end line count old new → new ≡ used (request r) (length old / 4) (drop at s) old
  used_request T = T.slots ∙ ap (λ z. used (request r) (length old / 4) z old) (rest_of s at)

  pub next_response : {line : StatusLine} → Told (response r (length old / 4) (take (length s - at) (drop at s))) end line count old new → HeadPromise r (IsResponseHead r) StatusSays StatusInside (take (length s - at) (drop at s)) old end line count new → FaultPromise r (length old / 4) (response r (length old / 4)) (take (length s - at) (drop at s)) end → Next (IsResponseHead r) (response r) (length old / 4) (drop at s) end
  next_response T P F = subst (λ z. Next (IsResponseHead r) (response r) (length old / 4) z end) (rest_of s at) (next {read = response r} (λ w l fs. head_long) end T P F)

  pub used_response : {line : StatusLine} → Told (response r (length old / 4) (take (length s - at) (drop at s))) end line count old new → new ≡ used (response r) (length old / 4) (drop at s) old
  used_response T = T.slots ∙ ap (λ z. used (response r) (length old / 4) z old) (rest_of s at)

-- one head more behind a row
row_more : {L : Type 0} {Head : List ℕ → L → List Field → Type 0} {at : ℕ} {v : List ℕ} {hs : List (L × List Field)} {es : List ℕ} → Row Head at v hs es → {w : List ℕ} {l : L} {fs : List Field} → Head w l fs → Row Head at (v ++ w) (hs ++ ((l, fs) ∷ [])) (es ++ ((at + length (v ++ w)) ∷ []))
row_more {Head = Head} {at = at} none {w} {l} {fs} h = subst (λ y. Row Head at y ((l, fs) ∷ []) ((at + length w) ∷ [])) (append-nil w) (more h none)
row_more {Head = Head} {at = at} (more {w = x} {v = v} {l = k} {fs = gs} {rest = rest} {ends = ends} g r) {w} {l} {fs} h =
    let e : at + length x + length (v ++ w) ≡ at + length (x ++ v ++ w) = omega (arith, length-append x (v ++ w), ap length (append_assoc x v w)) in
    subst (λ y. Row Head at y ((k, gs) ∷ (rest ++ ((l, fs) ∷ []))) ((at + length x) ∷ (ends ++ ((at + length (x ++ v ++ w)) ∷ [])))) (sym (append_assoc x v w))
    (subst (λ y. Row Head at (x ++ (v ++ w)) ((k, gs) ∷ (rest ++ ((l, fs) ∷ []))) ((at + length x) ∷ (ends ++ (y ∷ [])))) e (more g (row_more r h)))

fitting_more : {L : Type 0} (n : ℕ) (hs : List (L × List Field)) (h : L × List Field) → Fitting n hs → length h.1 ≤ n → Fitting n (hs ++ (h ∷ []))
fitting_more n [] h f l = (l, tt)
fitting_more n (g ∷ hs) h f l = (f.0, fitting_more n hs h f.1 l)

pub reading_none : {L K : Type 0} {Head : List ℕ → L → List Field → Type 0} {read : ℕ → List ℕ → Heads K} {s slots old : List ℕ} → Reading Head read (length slots / 4) s slots old slots old 0 0
reading_none {s = s} = record { bytes = []; rest = s; heads = []; ends = []; whole = refl; row = none; fits = tt; place = refl; counted = refl; kept = refl; size = refl; room = omega arith; uses = untouched; many = refl; slots_are = refl }

module _ {L K : Type 0} {Head : List ℕ → L → List Field → Type 0} {read : ℕ → List ℕ → Heads K} {n : ℕ} {s slots old left new : List ℕ} {at count : ℕ} (c : Reading Head read n s slots old left new at count) where
  behind_at : drop at s ≡ c.rest
  behind_at = ap (drop at) c.whole ∙ drop_at c.bytes c.rest at (sym c.place)

  split_at : length s ≡ at + length c.rest
  split_at = omega (arith, ap length c.whole, length-append c.bytes c.rest, c.place)

  -- one end more in its place
  stored : (v : ℕ) → count < length new → set new count v ≡ c.ends ++ (v ∷ []) ++ drop (length (c.ends ++ (v ∷ []))) old
  stored v h =
      let n : length (c.ends ++ (v ∷ [])) ≡ suc (length c.ends) = omega (arith, length-append c.ends (v ∷ [])) in
      let d : drop (length c.ends) old ≡ get_or old (length c.ends) 0 ∷ drop (suc (length c.ends)) old = drop-cons old (length c.ends) 0 (omega (arith, h, c.counted, c.size)) in
      ap (λ y. set y count v) (c.kept ∙ ap (λ y. c.ends ++ y) d)
      ∙ set_at c.ends (get_or old (length c.ends) 0) (drop (suc (length c.ends)) old) v count (sym c.counted)
      ∙ sym (append_assoc c.ends (v ∷ []) (drop (suc (length c.ends)) old))
      ∙ ap (λ y. c.ends ++ (v ∷ []) ++ drop y old) (sym n)

  -- the next call has as many slots
  next_here : {p y : Passed} → Next Head read (length left / 4) (drop at s) p → p ≡ y → Next Head read n c.rest y
  next_here {y = y} x e = subst (λ v. Next Head read n v y) behind_at (subst (λ v. Next Head read v (drop at s) y) (ap (λ k. k / 4) c.many ∙ sym c.slots_are) (subst (Next Head read (length left / 4) (drop at s)) e x))

  used_here : {left' : List ℕ} → left' ≡ used read (length left / 4) (drop at s) left → left' ≡ used read n (drop at s) left
  used_here e = e ∙ ap (λ k. used read k (drop at s) left) (ap (λ k. k / 4) c.many ∙ sym c.slots_are)

  tried : {left' : List ℕ} → left' ≡ used read (length left / 4) (drop at s) left → left' ≡ used read n c.rest left
  tried u = used_here u ∙ ap (λ z. used read n z left) behind_at

  module _ {p : Passed} (x : Next Head read (length left / 4) (drop at s) p) where
    -- the reading goes on
    pub reading_less : {q : ℕ} → p ≡ Ok q → at < length s → length s - (at + q) < length s - at
    reading_less {q} e h = by (next_here x e)
      where
        by : Next Head read n c.rest (Ok q) → length s - (at + q) < length s - at
        by (found t z i k d f) = omega (arith, i, k, h)

    -- and within the input
    pub reading_within : {q : ℕ} → p ≡ Ok q → at + q ≤ length s
    reading_within {q} e = by (next_here x e)
      where
        by : Next Head read n c.rest (Ok q) → at + q ≤ length s
        by (found {w = w} t z i k d f) = omega (arith, i, split_at, ap length z, length-append w t)

    -- and so is a wrong byte
    pub reading_wrong_within : {y : Fault} → p ≡ Err (Bad y) → at + y.position < length s
    reading_wrong_within {y} e = by (next_here x e)
      where
        by : Next Head read n c.rest (Err (Bad y)) → at + y.position < length s
        by (fails a l f g) = omega (arith, l, split_at)

    pub reading_wrong_before : {n : ℕ} {y : Unread Fault} → p ≡ Err y → length s ≤ n → WrongBefore n at y
    reading_wrong_before {n} {y = More} e h = tt
    reading_wrong_before {n} {y = Bad z} e h = let w = reading_wrong_within e in omega arith

    module _ {left' : List ℕ} (u : left' ≡ used read (length left / 4) (drop at s) left) (size : length left' ≡ length left) where
      pub reading_more : {q : ℕ} → p ≡ Ok q → count < length new → Reading Head read n s slots old left' (set new count (at + q)) (at + q) (count + 1)
      reading_more {q} e h = by (next_here x e)
        where
          by : Next Head read n c.rest (Ok q) → Reading Head read n s slots old left' (set new count (at + q)) (at + q) (count + 1)
          by (found {w = w} t {l = l} {fs = fs} z i k d f) =
              let m : at + q ≡ length (c.bytes ++ w) = omega (arith, i, c.place, length-append c.bytes w) in
              let v : 0 + length (c.bytes ++ w) ≡ at + q = omega (arith, m) in
              record {
                bytes = c.bytes ++ w;
                rest = t;
                heads = c.heads ++ ((l, fs) ∷ []);
                ends = c.ends ++ ((at + q) ∷ []);
                whole = c.whole ∙ ap (λ y. c.bytes ++ y) z ∙ sym (append_assoc c.bytes w t);
                row = subst (λ y. Row Head 0 (c.bytes ++ w) (c.heads ++ ((l, fs) ∷ [])) (c.ends ++ (y ∷ []))) v (row_more c.row d);
                fits = fitting_more n c.heads (l, fs) c.fits f;
                place = m;
                counted = omega (arith, c.counted, length-append c.ends ((at + q) ∷ []));
                kept = stored (at + q) h;
                size = length-set new count (at + q) ∙ c.size;
                room = omega (arith, h, c.size);
                uses = subst (Used read n s slots (c.ends ++ ((at + q) ∷ [])) (at + q)) (sym (used_here u)) (behind (at + q) c.uses);
                many = size ∙ c.many;
                slots_are = c.slots_are;
              }

  module _ {r : RowRead} (i : r.count ≡ count) (j : r.end ≡ at) where
    ended : {x : Stop} {slots' : List ℕ} → r.stop ≡ x → Stopped Head read n at c.rest r.count (length old) left x slots' → RowPromise Head read n s slots old r slots' new
    ended {x = y} {slots' = slots'} e x = record {
      bytes = c.bytes;
      rest = c.rest;
      heads = c.heads;
      ends = c.ends;
      whole = c.whole;
      row = c.row;
      fits = c.fits;
      end = j ∙ c.place;
      count = i ∙ c.counted;
      room = omega (arith, i, c.room);
      kept = c.kept;
      left = left;
      uses = subst (λ y. Used read n s slots c.ends y left) (sym j) c.uses;
      stopped = subst (λ y. Stopped Head read n r.end c.rest r.count (length old) left y slots') (sym e) (subst (λ z. Stopped Head read n z c.rest r.count (length old) left y slots') (sym j) x);
    }

    pub reading_end : length s ≤ at → r.stop ≡ stops.End → RowPromise Head read n s slots old r left new
    reading_end h e = ended e (all_read (empty c.rest (omega (arith, h, split_at))))
      where
        empty : (l : List ℕ) → length l ≤ 0 → l ≡ []
        empty [] h = refl
        empty (y ∷ ys) h = absurd (omega (arith, h))

    pub reading_full : at < length s → length new ≤ count → r.stop ≡ stops.Full → RowPromise Head read n s slots old r left new
    reading_full h k e = ended e (full (omega (arith, i, k, c.size, c.room)) (omega (arith, h, split_at)))

    module _ {p : Passed} (x : Next Head read (length left / 4) (drop at s) p) {left' : List ℕ} (u : left' ≡ used read (length left / 4) (drop at s) left) (h : at < length s) (k : count < length new) where
      pub reading_unfinished : p ≡ Err More → r.stop ≡ stops.More → RowPromise Head read n s slots old r left' new
      reading_unfinished e f = ended f (subst (Stopped Head read n at c.rest r.count (length old) left stops.More) (sym (tried u)) (by (next_here x e)))
        where
          by : Next Head read n c.rest (Err More) → Stopped Head read n at c.rest r.count (length old) left stops.More (used read n c.rest left)
          by (waits a y) = unfinished a y (omega (arith, h, split_at)) (omega (arith, i, k, c.size))

      pub reading_wrong : {z : Fault} → p ≡ Err (Bad z) → r.stop ≡ stops.Bad (fault z.error (at + z.position)) → RowPromise Head read n s slots old r left' new
      reading_wrong {z} e f = ended f (subst (Stopped Head read n at c.rest r.count (length old) left (stops.Bad (fault z.error (at + z.position)))) (sym (tried u)) (by (next_here x e)))
        where
          by : Next Head read n c.rest (Err (Bad z)) → Stopped Head read n at c.rest r.count (length old) left (stops.Bad (fault z.error (at + z.position))) (used read n c.rest left)
          by (fails a l y b) = wrong a l y b (omega (arith, h, split_at)) (omega (arith, i, k, c.size))

      pub reading_unread : {y : Unread Fault} → p ≡ Err y → r.stop ≡ stop_of at y → RowPromise Head read n s slots old r left' new
      reading_unread {y = More} e f = reading_unfinished e f
      reading_unread {y = Bad z} e f = reading_wrong e f

pub ruleset readings = (reading_none, reading_less, reading_within, reading_wrong_before, reading_more, reading_end, reading_full, reading_unread)
