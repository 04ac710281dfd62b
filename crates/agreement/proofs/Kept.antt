-- The promises are kept wherever a call tells what an exact reader answers.
-- Assumes nothing.
use Rattle.std.specs.Prelude.{ℕ, zero, suc, ◌*◌, ◌/◌, ◌≤◌, ◌<◌, ◌≡◌, refl, List, [], ◌∷◌, ◌++◌, Bool, true, false, ltb, length, take, drop, Err, Ok}
use Rattle.std.proofs.Common.{arith, sym, ap, subst, ◌∙◌, length-append, length-drop, drop_at, ltb-true, ltb-false}
use Rattle.reader.specs.Answer.{got, bad}
use Rattle.reader.specs.Tests.{never}
use Rattle.reader.specs.Known.{known_of}
use Rattle.grammar.specs.Fields.{Field}
use Rattle.parts.specs.declared.Error.TheVariants.{TooManyHeaders}
use Rattle.parts.specs.declared.Fault.{Fault}
use Rattle.parts.specs.Answers.{Passed, fault}
use Rattle.parts.specs.declared.Unread.TheVariants.{More, Bad}
use Rattle.fields.specs.declared.Header.{Header}
use Rattle.blocks.specs.Slots.{flat, filled, length_flat}
use Rattle.startline.specs.Answers.{tell}
use Rattle.rules.specs.Rules.{Rules}
use Rattle.heads.specs.Head.{Heads, Known, given, Told}
use Rattle.agreement.specs.FieldLine.{field_of, HeaderIn}
use Rattle.agreement.specs.Fields.{fields_of, Each, are_fields}
use Rattle.agreement.specs.Known.{fields_in, SlotsInside, AreFields}
use Rattle.agreement.specs.Colons.{SlotsToColon}
use Rattle.agreement.proofs.Colons.{slots_to_colon}
use Rattle.agreement.specs.Exactly.{Exactly, Lies}
use Rattle.agreement.specs.Promises.{HeadAt, HeadPromise}

-- the slots hold the headers' fields
fields_filled : (z : List ℕ) (hs : List Header) (old : List ℕ) → fields_in z (length hs) (flat hs ++ old) ≡ fields_of z hs
unfolding flat
fields_filled z [] old = refl
fields_filled z (h ∷ hs) old = ap (λ y. field_of z h ∷ y) (fields_filled z hs old)

kept_behind : (hs : List Header) (old : List ℕ) → drop (length hs * 4) (filled hs old) ≡ drop (length hs * 4) old
unfolding filled
kept_behind hs old = drop_at (flat hs) (drop (length hs * 4) old) (length hs * 4) (length_flat hs)

fields_in_lem : (z : List ℕ) (hs : List Header) (old : List ℕ) → fields_in z (length hs) (filled hs old) ≡ fields_of z hs
unfolding filled
fields_in_lem z hs old = fields_filled z hs (drop (length hs * 4) old)

-- and their places lie where the headers' pieces do
slots_inside : (e : ℕ) (hs : List Header) (old : List ℕ) → Each (HeaderIn e) hs → SlotsInside e (length hs) (flat hs ++ old)
unfolding flat
slots_inside e [] old k = tt
slots_inside e (h ∷ hs) old k = (k.0.0, k.0.1, slots_inside e hs old k.1)

slots_in : (e : ℕ) (hs : List Header) (old : List ℕ) → Each (HeaderIn e) hs → SlotsInside e (length hs) (filled hs old)
unfolding filled
slots_in e hs old k = slots_inside e hs (drop (length hs * 4) old) k

-- as many numbers as before, where the headers fit
filled_length : (hs : List Header) (old : List ℕ) → length hs ≤ length old / 4 → length (filled hs old) ≡ length old
unfolding filled
filled_length hs old l = omega (arith, l, length-append (flat hs) (drop (length hs * 4) old), length_flat hs, length-drop (length hs * 4) old)

-- an answer tells how it ended, and what is known
module _ {K : Type 0} where
  pub told_got : (end : Passed) (k k' : K) (hs hs' : List Header) (q : ℕ) → ◌≡◌ {A = Heads K} (tell end (k, hs)) (got (k', hs') q) → (end ≡ Ok q) × (k ≡ k') × (hs ≡ hs')
  told_got (Ok p) k k' hs hs' q e = let u : ◌≡◌ {A = Known K} (k, hs) (k', hs') = cc in (cc, ap (λ y. y.0) u, ap (λ y. y.1) u)
  told_got (Err More) k k' hs hs' q e = never cc
  told_got (Err (Bad x)) k k' hs hs' q e = never cc

  pub told_bad : (end : Passed) (k k' : K) (hs hs' : List Header) (x : Fault) → ◌≡◌ {A = Heads K} (tell end (k, hs)) (bad (x, (k', hs'))) → (end ≡ Err (Bad x)) × (k ≡ k') × (hs ≡ hs')
  told_bad (Ok p) k k' hs hs' q e = never cc
  told_bad (Err More) k k' hs hs' q e = never cc
  told_bad (Err (Bad x)) k k' hs hs' q e = let u : ◌≡◌ {A = Fault × Known K} (x, (k, hs)) (q, (k', hs')) = cc in (ap (λ y. Err (Bad y.0)) u, ap (λ y. y.1.0) u, ap (λ y. y.1.1) u)

-- as many fields are in the slots as are counted
pub fields_counted : (z : List ℕ) (count : ℕ) (slots : List ℕ) → length (fields_in z count slots) ≡ count
fields_counted z zero slots = refl
fields_counted z (suc count) slots = ap suc (fields_counted z count (drop 4 slots))

-- what a call tells of the start line is what the reader knows of it
pub told_line : {K : Type 0} {a : Heads K} {end : Passed} {line : K} {count : ℕ} {old new : List ℕ} → Told a end line count old new → (known_of a).0 ≡ line
told_line {K} {a} {end} {line} T = ap (λ (y : Heads K). (known_of y).0) (sym T.answer) ∙ by end
  where
    by : (end : Passed) → (known_of {K = Known K} {E = Fault} (tell end (line, given a))).0 ≡ line
    by (Ok q) = refl
    by (Err More) = refl
    by (Err (Bad x)) = refl

at_more : {q : ℕ} → ◌≡◌ {A = Passed} (Ok q) (Err More) → ⊥
at_more e = never cc

bad_same : {x y : Fault} → ◌≡◌ {A = Passed} (Err (Bad x)) (Err (Bad y)) → x ≡ y
bad_same e = cc

bad_more : {x : Fault} → ◌≡◌ {A = Passed} (Err (Bad x)) (Err More) → ⊥
bad_more e = never cc

module _ {L K : Type 0} {Head : List ℕ → L → List Field → Type 0} {Says : List ℕ → K → L → Type 0} {s old : List ℕ} {end : Passed} {line : K} {count : ℕ} {new : List ℕ} {read : List ℕ → Heads K} {r : Rules} {In : List ℕ → K → Type 0} (X : Exactly Head Says (length old / 4) read) (Y : Lies r In read) (T : Told (read s) end line count old new) where
  -- the slots hold what the reader has given
  in_slots : fields_in s count new ≡ fields_of s (given (read s))
  in_slots = ap (λ y. fields_in s y new) T.count_is ∙ ap (fields_in s (length (given (read s)))) T.slots ∙ fields_in_lem s (given (read s)) old

  -- how the call ended says what the reader answered
  read_got : (q : ℕ) → end ≡ Ok q → read s ≡ got (line, given (read s)) q
  read_got q e = sym T.answer ∙ ap (λ y. tell y (line, given (read s))) e

  read_bad : (x : Fault) → end ≡ Err (Bad x) → read s ≡ bad (x, (line, given (read s)))
  read_bad x e = sym T.answer ∙ ap (λ y. tell y (line, given (read s))) e

  completes : (q : ℕ) → end ≡ Ok q → HeadAt Head Says s q line (fields_in s count new)
  completes q e =
      let F = X.sound s line (given (read s)) q (read_got q e) in
      record { bytes = F.w; rest = F.rest; said = F.l; whole = F.whole; end = F.place; head = subst (Head F.w F.l) (sym in_slots) F.head; says = F.says }

  accept : (w t : List ℕ) (l : L) (fs : List Field) → s ≡ w ++ t → Head w l fs → length fs ≤ length old / 4 → (end ≡ Ok (length w)) × Says s line l × (fields_in s count new ≡ fs)
  accept w t l fs e h f =
      let A = X.complete w t l fs h f in
      let r : read s ≡ got (A.k, A.hs) (length w) = ap read e ∙ A.answers in
      let u = told_got end line A.k (given (read s)) A.hs (length w) (T.answer ∙ r) in
      (u.0, subst (λ y. Says y line l) (sym e) (subst (λ y. Says (w ++ t) y l) (sym u.1) A.says), in_slots ∙ ap (fields_of s) u.2 ∙ ap (λ y. fields_of y A.hs) e ∙ A.holds)

  overflow : (w t : List ℕ) (l : L) (fs : List Field) → s ≡ w ++ t → Head w l fs → length old / 4 < length fs → (p : ℕ) × (end ≡ Err (Bad (fault TooManyHeaders p))) × Says s line l × (fields_in s count new ≡ take (length old / 4) fs)
  overflow w t l fs e h f =
      let B = X.too_many w t l fs h f in
      let A = B.1 in
      let x = fault TooManyHeaders B.0 in
      let r : read s ≡ bad (x, (A.k, A.hs)) = ap read e ∙ A.answers in
      let u = told_bad end line A.k (given (read s)) A.hs x (T.answer ∙ r) in
      (B.0, u.0, subst (λ y. Says y line l) (sym e) (subst (λ y. Says (w ++ t) y l) (sym u.1) A.says), in_slots ∙ ap (fields_of s) u.2 ∙ ap (λ y. fields_of y A.hs) e ∙ A.holds)

  -- an error stays, and a head that fits would not be one
  errs : (x : Fault) → end ≡ Err (Bad x) → (u w t : List ℕ) (l : L) (fs : List Field) → s ++ u ≡ w ++ t → Head w l fs → length fs ≤ length old / 4 → ⊥
  errs x e u w t l fs i h f =
      let A = X.complete w t l fs h f in
      let b : read (s ++ u) ≡ bad (x, (line, given (read s))) = X.stays s u (x, (line, given (read s))) (read_bad x e) in
      let g : read (s ++ u) ≡ got (A.k, A.hs) (length w) = ap read i ∙ A.answers in
      let c = sym b ∙ g in
      never cc

  errs_at_all : (x : Fault) → end ≡ Err (Bad x) → (x.error ≡ TooManyHeaders → ⊥) → (u w t : List ℕ) (l : L) (fs : List Field) → s ++ u ≡ w ++ t → Head w l fs → ⊥
  errs_at_all x e other u w t l fs i h = by (ltb (length old / 4) (length fs)) refl
    where
      by : (b : Bool) → ltb (length old / 4) (length fs) ≡ b → ⊥
      by false f = errs x e u w t l fs i h (ltb-false (length old / 4) (length fs) f)
      by true f =
          let B = X.too_many w t l fs h (ltb-true (length old / 4) (length fs) f) in
          let A = B.1 in
          let y = fault TooManyHeaders B.0 in
          let b : read (s ++ u) ≡ bad (x, (line, given (read s))) = X.stays s u (x, (line, given (read s))) (read_bad x e) in
          let g : read (s ++ u) ≡ bad (y, (A.k, A.hs)) = ap read i ∙ A.answers in
          let v = told_bad (Err (Bad x)) line A.k (given (read s)) A.hs y (sym b ∙ g) in
          other (ap (λ (z : Fault). z.error) (bad_same v.0))

  waits : end ≡ Err More → (w t : List ℕ) (l : L) (fs : List Field) → s ≡ w ++ t → Head w l fs → ⊥
  waits e w t l fs i h = by (ltb (length old / 4) (length fs)) refl
    where
      by : (b : Bool) → ltb (length old / 4) (length fs) ≡ b → ⊥
      by false f = at_more (sym (accept w t l fs i h (ltb-false (length old / 4) (length fs) f)).0 ∙ e)
      by true f = bad_more (sym (overflow w t l fs i h (ltb-true (length old / 4) (length fs) f)).1 ∙ e)

  pub kept : HeadPromise r Head Says In s old end line count new
  kept = record {
    complete = completes;
    accepts = accept;
    too_many = overflow;
    error = errs;
    error_at_all = errs_at_all;
    incomplete = waits;
    full = λ x e o. omega (arith, T.count_is, X.few s, X.full s (x, (line, given (read s))) (read_bad x e) o);
    inside = (subst (In s) (told_line T) (Y.line s), subst (λ y. SlotsInside (length s) y new) (sym T.count_is) (subst (SlotsInside (length s) (length (given (read s)))) (sym T.slots) (slots_in (length s) (given (read s)) old (Y.fields s))));
    fields = subst (AreFields r) (sym in_slots) (are_fields s r (given (read s)) (Y.are s));
    colons = subst (λ y. SlotsToColon r.spaces_after_name s y new) (sym T.count_is) (subst (SlotsToColon r.spaces_after_name s (length (given (read s)))) (sym T.slots) (slots_to_colon s r (given (read s)) old (Y.colons s)));
    within = (subst (λ y. y ≤ length old / 4) (sym T.count_is) (X.few s), ap length T.slots ∙ filled_length (given (read s)) old (X.few s));
    untouched = ap (λ y. drop (y * 4) new) T.count_is ∙ ap (drop (length (given (read s)) * 4)) T.slots ∙ kept_behind (given (read s)) old ∙ sym (ap (λ y. drop (y * 4) old) T.count_is);
  }
