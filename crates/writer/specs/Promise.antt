-- What a writer's answer means, whatever it was given.
-- Assumes nothing.
use Rattle.std.specs.Prelude.{ℕ, ◌*◌, ◌≤◌, ◌<◌, ◌≡◌, refl, List, [], ◌++◌, length, drop, Bool, true, false, ltb, Err, Ok, Result}
use Rattle.std.proofs.Common.{arith, sym, ap, ◌∙◌, ltb-true, ltb-false}
use Rattle.std.proofs.lemmas.Bool.{not-true, not-false}
use Rattle.reader.specs.Tests.{never}
use Rattle.output.specs.Put.{greatest, Behind, is, beyond, Adds, nothing_put}
use Rattle.places.specs.Checks.{Decides}
pub use Rattle.formlines.specs.Forms.{request_form, response_form, block_form}
use Rattle.writer.specs.declared.Unwritten.{Unwritten}
use Rattle.writer.specs.declared.Unwritten.TheVariants.{Needs, Unwritable, TooLong}

-- a writer's answer
abbrev pub Writing : Type 0
Writing = Result ℕ Unwritten

-- Writable says of what was read that it is complete and lies in the input s, form is its plain form, and old are the lent bytes; last
-- stand the answer and the bytes behind it. The form is a head if what was read is what a call answered on the same input.
pub data PlainPromise (s : List ℕ) (Writable : Type 0) (form old : List ℕ) : Writing → List ℕ → Type 0 where
  -- the form was written, and the bytes behind it are as they were
  written : {n : ℕ} {new : List ℕ} → Writable → n ≡ length form → n ≤ length old → new ≡ form ++ drop n old → PlainPromise s Writable form old (Ok n) new
  -- the form has so many bytes, for which there is no room, and nothing was written
  needs : {n : ℕ} → Writable → n ≡ length form → length old < n → n < greatest → PlainPromise s Writable form old (Err (Needs n)) old
  -- there is nothing to write
  unwritable : (Writable → ⊥) → PlainPromise s Writable form old (Err Unwritable) old
  -- the form is longer than a number can say, which neither the lent bytes nor twice the input are
  too_long : Writable → greatest ≤ length form → length old < greatest → length s * 2 < greatest → PlainPromise s Writable form old (Err TooLong) old

-- a number that is not the greatest is the position behind all of the bytes
behind_all : {at n : ℕ} → Behind at n → (at ≡ greatest → ⊥) → (at ≡ n) × (at < greatest)
behind_all {at} (is e l) h = (e, by (ltb at greatest) refl)
  where
    by : (b : Bool) → ltb at greatest ≡ b → at < greatest
    by true t = ltb-true at greatest t
    by false t = absurd (h (omega (arith, e, l, ltb-false at greatest t)))
behind_all (beyond e l) h = absurd (h e)

behind_greatest : {at n : ℕ} → Behind at n → at ≡ greatest → greatest ≤ n
behind_greatest (is e l) h = omega (arith, e, h)
behind_greatest (beyond e l) h = l

-- a form of n bytes
pub form_length : {form : List ℕ} {before : List ℕ} {n : ℕ} {after : List ℕ} → Adds form 0 before n after → Behind n (length form)
form_length {before = before} a = (a.behind [] before (nothing_put before)).behind

module _ {s : List ℕ} {Writable : Type 0} {form old : List ℕ} where
  pub not_writable : {b : Bool} → Decides Writable b → b ≡ false → PlainPromise s Writable form old (Err Unwritable) old
  not_writable d t = unwritable (d.no t)

  module _ {before : List ℕ} {n : ℕ} {after : List ℕ} (a : Adds form 0 before n after) where
    module _ {b : Bool} (d : Decides Writable b) (t : b ≡ true) where
      pub no_number : n ≡ greatest → length old < greatest → length s * 2 < greatest → PlainPromise s Writable form old (Err TooLong) old
      no_number e g h = too_long (d.yes t) (behind_greatest (form_length a) e) g h

      pub no_room : (n ≡ greatest → ⊥) → length old < n → PlainPromise s Writable form old (Err (Needs n)) old
      no_room g h = let l = behind_all (form_length a) g in needs (d.yes t) l.0 h l.1

      pub all_written : (n ≡ greatest → ⊥) → n ≤ length old → {m : ℕ} {new : List ℕ} → Adds form 0 old m new → PlainPromise s Writable form old (Ok n) new
      all_written g h {new = new} w =
          let l : n ≡ length form = (behind_all (form_length a) g).0 in
          written (d.yes t) l h ((w.behind [] old (nothing_put old)).bytes (omega (arith, l, h)) ∙ ap (λ y. form ++ drop y old) (sym l))

pub ruleset promises = (not-true, not-false, not_writable, no_number, no_room, all_written)

-- a writer that answers Ok has written
pub was_written : {s : List ℕ} {Writable : Type 0} {form old : List ℕ} {r : Writing} {new : List ℕ} → PlainPromise s Writable form old r new → {n : ℕ} → r ≡ Ok n → Writable × (n ≡ length form) × (n ≤ length old) × (new ≡ form ++ drop n old)
was_written {form = form} {old = old} (written {n = m} f l h e) {n} x = let y : m ≡ n = cc in (f, sym y ∙ l, omega (arith, y, h), e ∙ ap (λ z. form ++ drop z old) y)
was_written (needs f l h g) x = never cc
was_written (unwritable f) x = never cc
was_written (too_long f g h i) x = never cc

-- a writer of what can't be written leaves the lent bytes alone
pub refused : {s : List ℕ} {Writable : Type 0} {form old : List ℕ} {r : Writing} {new : List ℕ} → PlainPromise s Writable form old r new → (Writable → ⊥) → (r ≡ Err Unwritable) × (new ≡ old)
refused (written f l h e) n = absurd (n f)
refused (needs f l h g) n = absurd (n f)
refused (unwritable f) n = (refl, refl)
refused (too_long f g h i) n = absurd (n f)

-- a writer with room for a form that can be written answers Ok
pub writes : {s : List ℕ} {Writable : Type 0} {form old : List ℕ} {r : Writing} {new : List ℕ} → PlainPromise s Writable form old r new → Writable → length form ≤ length old → r ≡ Ok (length form)
writes (written f l h e) w i = ap Ok l
writes (needs f l h g) w i = absurd (omega (arith, l, h, i))
writes (unwritable f) w i = absurd (f w)
writes (too_long f l g h) w i = absurd (omega (arith, l, i, g))

-- and without room it tells how much is needed, if that is at most twice the input
pub asks : {s : List ℕ} {Writable : Type 0} {form old : List ℕ} {r : Writing} {new : List ℕ} → PlainPromise s Writable form old r new → Writable → length form ≤ length s * 2 → length old < length form → r ≡ Err (Needs (length form))
asks (written f l h e) w t i = absurd (omega (arith, l, h, i))
asks (needs f l h g) w t i = ap (λ n. Err (Needs n)) l
asks (unwritable f) w t i = absurd (f w)
asks (too_long f l g h) w t i = absurd (omega (arith, l, t, h))
