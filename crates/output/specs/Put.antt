-- What it is for bytes to have been put into a slice, if there is room for all of them.
-- Assumes nothing.
use Rattle.std.specs.Prelude.{ℕ, ◌+◌, ◌-◌, ◌≤◌, ◌<◌, ◌≡◌, refl, List, [], ◌++◌, length, take, drop}
use Rattle.std.proofs.Common.{arith, sym, ap, subst, ◌∙◌, append_assoc, append-nil, length-append, length-drop, drop_of_length-le, take_at, length-take-le, drop-drop}
use Rattle.std.proofs.Math.Seq.{take-length, drop-append-add}

-- the greatest number that a position can be
abbrev pub greatest : ℕ
greatest = 18446744073709551615

-- the position behind n bytes, or the greatest where there are as many or more
pub data Behind (at n : ℕ) : Type 0 where
  is : at ≡ n → n ≤ greatest → Behind at n
  beyond : at ≡ greatest → greatest ≤ n → Behind at n

-- the bytes w stand at the start of what was old, if there is room for all of them, and at is the position behind them
pub record Put (w old new : List ℕ) (at : ℕ) : Type 0 where
  pub behind : Behind at (length w)
  pub bytes : length w ≤ length old → new ≡ w ++ drop (length w) old
  pub size : length new ≡ length old

pub nothing_put : (old : List ℕ) → Put [] old old 0
nothing_put old = record { behind = is refl (omega arith); bytes = λ f. refl; size = refl }

-- a text is put behind whatever bytes have been put before it
pub record Adds (text : List ℕ) (at : ℕ) (before : List ℕ) (end : ℕ) (after : List ℕ) : Type 0 where
  pub behind : (w old : List ℕ) → Put w old before at → Put (w ++ text) old after end
  pub size : length after ≡ length before

-- a text for which there is no room is not put, nor any part of it
abbrev pub WholeOrNot : List ℕ → ℕ → List ℕ → List ℕ → Type 0
WholeOrNot text at before after = length before < at + length text → after ≡ before

behind_add : {at n : ℕ} (k : ℕ) → Behind at n → at + k ≤ greatest → Behind (at + k) (n + k)
behind_add k (is e l) h = is (omega (arith, e)) (omega (arith, e, h))
behind_add k (beyond e l) h = beyond (omega (arith, e, h)) (omega (arith, l))

behind_past : {at n k : ℕ} → Behind at n → greatest - at < k → Behind greatest (n + k)
behind_past (is e l) h = beyond refl (omega (arith, e, h))
behind_past (beyond e l) h = beyond refl (omega (arith, l))

behind_under : {at n : ℕ} → Behind at n → at ≤ n
behind_under (is e l) = omega (arith, e)
behind_under (beyond e l) = omega (arith, e, l)

pub behind_is : {at n : ℕ} → Behind at n → n ≤ greatest → at ≡ n
behind_is (is e l) h = e
behind_is (beyond e l) h = omega (arith, e, l, h)

module _ {text : List ℕ} {at : ℕ} {before : List ℕ} where
  -- a text that ends at no number
  pub adds_past : length before ≤ greatest → greatest - at < length text → Adds text at before greatest before
  adds_past b h = record {
    behind = λ w old p.
        let l = length-append w text in
        record {
          behind = subst (Behind greatest) (sym l) (behind_past p.behind h);
          bytes = λ f. absurd (omega (arith, b, h, p.size, behind_under p.behind, l, f));
          size = p.size;
        };
    size = refl;
  }

  -- a text that ends behind the slice
  pub adds_out : at + length text ≤ greatest → length before < at + length text → Adds text at before (at + length text) before
  adds_out g h = record {
    behind = λ w old p.
        let l = length-append w text in
        record {
          behind = subst (Behind (at + length text)) (sym l) (behind_add (length text) p.behind g);
          bytes = λ f. absurd (omega (arith, h, p.size, behind_under p.behind, l, f));
          size = p.size;
        };
    size = refl;
  }

  -- a text that ends in the slice
  pub adds_in : length before ≤ greatest → at + length text ≤ length before → {after : List ℕ} → after ≡ take at before ++ (text ++ drop (at + length text) before) → Adds text at before (at + length text) after
  adds_in b h {after} e =
      let n = length-append (take at before) (text ++ drop (at + length text) before) in
      let m = length-append text (drop (at + length text) before) in
      let z : length after ≡ length before = omega (arith, ap length e, n, m, length-take-le at before (omega (arith, h)), length-drop (at + length text) before, h) in
      record {
        behind = λ w old p.
            let l = length-append w text in
            record {
              behind = subst (Behind (at + length text)) (sym l) (behind_add (length text) p.behind (omega (arith, b, h)));
              bytes = λ f. e ∙ joined w old p f;
              size = z ∙ p.size;
            };
        size = z;
      }
    where
      joined : (w old : List ℕ) → Put w old before at → length (w ++ text) ≤ length old → take at before ++ (text ++ drop (at + length text) before) ≡ w ++ text ++ drop (length (w ++ text)) old
      joined w old p f =
          let l = length-append w text in
          let i : at ≡ length w = behind_is p.behind (omega (arith, b, p.size, l, f)) in
          let y : before ≡ w ++ drop (length w) old = p.bytes (omega (arith, l, f)) in
          let t : take at before ≡ w = ap (take at) y ∙ take_at w (drop (length w) old) at (sym i) in
          let d : drop (at + length text) before ≡ drop (length (w ++ text)) old =
          ap (λ y. drop (at + length text) y) y ∙ ap (λ y. drop (y + length text) (w ++ drop (length w) old)) i ∙ drop-append-add w (drop (length w) old) (length text)
          ∙ drop-drop (length text) (length w) old ∙ ap (λ y. drop y old) (sym l) in
          ap (λ y. y ++ (text ++ drop (at + length text) before)) t ∙ ap (λ y. w ++ (text ++ y)) d ∙ sym (append_assoc w text (drop (length (w ++ text)) old))

-- nothing, and one text behind another
pub adds_nothing : {at : ℕ} {before : List ℕ} → Adds [] at before at before
adds_nothing {at} {before} = record { behind = λ w old p. subst (λ y. Put y old before at) (sym (append-nil w)) p; size = refl }

pub adds_then : {x y : List ℕ} {at : ℕ} {before : List ℕ} {m : ℕ} {middle : List ℕ} {end : ℕ} {after : List ℕ} → Adds x at before m middle → Adds y m middle end after → Adds (x ++ y) at before end after
adds_then {x} {y} {end = end} {after = after} a b = record { behind = λ w old p. subst (λ z. Put z old after end) (append_assoc w x y) (b.behind (w ++ x) old (a.behind w old p)); size = b.size ∙ a.size }

-- what a copy of a text into the part of a slice that it takes comes to
pub copied : (text before : List ℕ) (at : ℕ) → at + length text ≤ length before → {ys : List ℕ} → ys ≡ take (length text) text ++ drop (length text) (take (at + length text - at) (drop at before)) →
    take at before ++ (ys ++ drop (at + length text - at) (drop at before)) ≡ take at before ++ (text ++ drop (at + length text) before)
copied text before at h {ys} e =
    let k : at + length text - at ≡ length text = omega arith in
    let m : drop (length text) (take (length text) (drop at before)) ≡ [] = drop_of_length-le (take (length text) (drop at before)) {i = length text} (omega (arith, length-take-le (length text) (drop at before) (omega (arith, h, length-drop at before)))) in
    let y : ys ≡ text = e ∙ ap (λ y. take (length text) text ++ drop (length text) (take y (drop at before))) k ∙ ap (λ y. take (length text) text ++ y) m ∙ append-nil (take (length text) text) ∙ take-length text in
    ap (λ z. take at before ++ (z ++ drop (at + length text - at) (drop at before))) y ∙ ap (λ z. take at before ++ (text ++ drop z (drop at before))) k ∙ ap (λ z. take at before ++ (text ++ z)) (drop-drop (length text) at before)
