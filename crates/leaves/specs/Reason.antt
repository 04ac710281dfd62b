-- A reason is read exactly as far as text goes, and is given as empty where a byte of it is not ASCII.
-- Assumes nothing.
use Rattle.std.specs.Prelude.{ℕ, suc, ◌+◌, ◌≡◌, refl, List, [], ◌∷◌, ◌++◌, Bool, true, false, not, length}
use Rattle.std.proofs.Common.{arith, sym, ap, subst, ◌∙◌, append_assoc, length-append}
use Rattle.reader.specs.Machine.{gave, after, run}
use Rattle.reader.specs.Tests.{split, never}
use Rattle.exact.specs.Exact.{Part, Exact}
use Rattle.octets.specs.Class.{is_value, is_ascii}
use Rattle.parts.specs.declared.Piece.{Piece}
use Rattle.parts.specs.Answers.{piece}
use Rattle.status.specs.Reason.{none, inside, empty, reason_step}
use Rattle.grammar.specs.Rows.{Many, none as no_more, more}
use Rattle.leaves.specs.Rows.{In, over}
use Rattle.leaves.specs.Value.{Stop}

-- a text byte that is ASCII, and one that is not
pub record Ascii (b : ℕ) : Type 0 where
  pub value : is_value b ≡ true
  pub ascii : is_ascii b ≡ true

pub record Obsolete (b : ℕ) : Type 0 where
  pub value : is_value b ≡ true
  pub not_ascii : is_ascii b ≡ false

pub data Reasoned (p : ℕ) : List ℕ → Piece → List ℕ → Type 0 where
  in_ascii : {w rest : List ℕ} → Many Ascii w → Stop rest → Reasoned p w (piece p (p + length w)) rest
  obsolete : {u v rest : List ℕ} {c : ℕ} → Many Ascii u → Obsolete c → Many (In is_value) v → Stop rest → Reasoned p (u ++ (c ∷ v)) (empty p) rest

-- from inside a reason that began at o: of text bytes, with or without one that is not ASCII
record Obs (o p : ℕ) (xs : List ℕ) (a : Piece) (q : ℕ) : Type 0 where
  w : List ℕ
  rest : List ℕ
  kind : Many (In is_value) w
  whole : xs ≡ w ++ rest
  behind : q ≡ p + length w
  given : a ≡ empty o
  stop : Stop rest

sound_obs : (o : ℕ) (xs : List ℕ) (p : ℕ) (a : Piece) (q : ℕ) → run reason_step (inside o true) p xs ≡ gave a q → Obs o p xs a q
sound_obs o [] p a q = λ e. never cc
sound_obs o (b ∷ bs) p a q =
    let ih = sound_obs o bs (p + 1) a q in
    split (λ u. after u p (λ s. run reason_step s (p + 1) bs) ≡ gave a q → Obs o p (b ∷ bs) a q) (is_value b)
    (λ h e. let k = ih e in record { w = b ∷ k.w; rest = k.rest; kind = more h k.kind; whole = ap (λ y. b ∷ y) k.whole; behind = omega (arith, k.behind); given = k.given; stop = k.stop })
    (λ h e. let i : empty o ≡ a = cc in let j : p ≡ q = cc in record { w = []; rest = b ∷ bs; kind = no_more; whole = refl; behind = omega arith; given = sym i; stop = record { b = b; ys = bs; whole = refl; stops = h } })

-- the answer for what is left from p on of a reason that began at o
data Rest (o p : ℕ) : List ℕ → Piece → Type 0 where
  ascii_rest : {w : List ℕ} → Many Ascii w → Rest o p w (piece o (p + length w))
  obs_rest : {u v : List ℕ} {c : ℕ} → Many Ascii u → Obsolete c → Many (In is_value) v → Rest o p (u ++ (c ∷ v)) (empty o)

record Left (o p : ℕ) (xs : List ℕ) (a : Piece) (q : ℕ) : Type 0 where
  w : List ℕ
  rest : List ℕ
  kind : Rest o p w a
  whole : xs ≡ w ++ rest
  behind : q ≡ p + length w
  stop : Stop rest

rest_more : (o p b : ℕ) {w : List ℕ} {a : Piece} → Ascii b → Rest o (p + 1) w a → Rest o p (b ∷ w) a
rest_more o p b h (ascii_rest {w = w} k) = let n : p + 1 + length w ≡ p + length (b ∷ w) = omega arith in rw n (ascii_rest {w = b ∷ w} (more h k))
rest_more o p b h (obs_rest {u = u} {v = v} {c = c} k d m) = obs_rest {u = b ∷ u} {v = v} {c = c} (more h k) d m

-- a byte of either kind
ascii_first : (o p b : ℕ) (bs : List ℕ) (a : Piece) (q : ℕ) → Ascii b → Left o (p + 1) bs a q → Left o p (b ∷ bs) a q
ascii_first o p b bs a q h k = record { w = b ∷ k.w; rest = k.rest; kind = rest_more o p b h k.kind; whole = ap (λ y. b ∷ y) k.whole; behind = omega (arith, k.behind); stop = k.stop }

obs_first : (o p b : ℕ) (bs : List ℕ) (a : Piece) (q : ℕ) → Obsolete b → Obs o (p + 1) bs a q → Left o p (b ∷ bs) a q
obs_first o p b bs a q d k = record { w = b ∷ k.w; rest = k.rest; kind = subst (Rest o p (b ∷ k.w)) (sym k.given) (obs_rest {u = []} {v = k.w} {c = b} no_more d k.kind); whole = ap (λ y. b ∷ y) k.whole; behind = omega (arith, k.behind); stop = k.stop }

-- the next state by whether the byte is ASCII
by_ascii : (o p b : ℕ) (bs : List ℕ) (a : Piece) (q : ℕ) → is_value b ≡ true → (run reason_step (inside o false) (p + 1) bs ≡ gave a q → Left o (p + 1) bs a q) → (t : Bool) → is_ascii b ≡ t → run reason_step (inside o (not t)) (p + 1) bs ≡ gave a q → Left o p (b ∷ bs) a q
by_ascii o p b bs a q h ih true t e = ascii_first o p b bs a q (record { value = h; ascii = t }) (ih e)
by_ascii o p b bs a q h ih false t e = obs_first o p b bs a q (record { value = h; not_ascii = t }) (sound_obs o bs (p + 1) a q e)

sound_inside : (o : ℕ) (xs : List ℕ) (p : ℕ) (a : Piece) (q : ℕ) → run reason_step (inside o false) p xs ≡ gave a q → Left o p xs a q
sound_inside o [] p a q = λ e. never cc
sound_inside o (b ∷ bs) p a q =
    let ih = sound_inside o bs (p + 1) a q in
    split (λ u. after u p (λ s. run reason_step s (p + 1) bs) ≡ gave a q → Left o p (b ∷ bs) a q) (is_value b)
    (λ h e. by_ascii o p b bs a q h ih (is_ascii b) refl e)
    (λ h e. let i : piece o p ≡ a = cc in let j : p ≡ q = cc in let n : p + 0 ≡ p = omega arith in record { w = []; rest = b ∷ bs; kind = subst (Rest o p []) (ap (piece o) n ∙ i) (ascii_rest no_more); whole = refl; behind = omega arith; stop = record { b = b; ys = bs; whole = refl; stops = h } })

reasoned : (p : ℕ) {w : List ℕ} {a : Piece} {rest : List ℕ} → Rest p p w a → Stop rest → Reasoned p w a rest
reasoned p (ascii_rest k) s = in_ascii k s
reasoned p (obs_rest k d m) s = obsolete k d m s

sound_reason : (p : ℕ) (xs : List ℕ) (a : Piece) (q : ℕ) → run reason_step none p xs ≡ gave a q → Part Reasoned p xs a q
sound_reason p [] a q = λ e. never cc
sound_reason p (b ∷ bs) a q =
    split (λ u. after u p (λ s. run reason_step s (p + 1) bs) ≡ gave a q → Part Reasoned p (b ∷ bs) a q) (is_value b)
    (λ h e. let k = by_ascii p p b bs a q h (sound_inside p bs (p + 1) a q) (is_ascii b) refl e in record { w = k.w; rest = k.rest; whole = k.whole; place = k.behind; holds = reasoned p k.kind k.stop })
    (λ h e. let i : piece p p ≡ a = cc in let j : p ≡ q = cc in let n : p + 0 ≡ p = omega arith in record { w = []; rest = b ∷ bs; whole = refl; place = omega arith; holds = subst (λ y. Reasoned p [] y (b ∷ bs)) (ap (piece p) n ∙ i) (in_ascii no_more (record { b = b; ys = bs; whole = refl; stops = h })) })

-- the other way
over_ascii : (o : ℕ) {w : List ℕ} → Many Ascii w → (p : ℕ) (ys : List ℕ) → run reason_step (inside o false) p (w ++ ys) ≡ run reason_step (inside o false) (p + length w) ys
over_ascii o = over reason_step (inside o false) (λ b h q. rw (h.value, h.ascii))

over_obs : (o : ℕ) {v : List ℕ} → Many (In is_value) v → (p : ℕ) (ys : List ℕ) → run reason_step (inside o true) p (v ++ ys) ≡ run reason_step (inside o true) (p + length v) ys
over_obs o = over reason_step (inside o true) (λ b h q. rw h)

stop_none : (p : ℕ) (rest : List ℕ) → Stop rest → run reason_step none p rest ≡ gave (piece p p) p
stop_none p rest s = rw (s.whole, s.stops)

stop_ascii : (o p : ℕ) (rest : List ℕ) → Stop rest → run reason_step (inside o false) p rest ≡ gave (piece o p) p
stop_ascii o p rest s = rw (s.whole, s.stops)

stop_obs : (o p : ℕ) (rest : List ℕ) → Stop rest → run reason_step (inside o true) p rest ≡ gave (empty o) p
stop_obs o p rest s = rw (s.whole, s.stops)

-- a byte that is not ASCII, and text behind it
from_obs : (o : ℕ) (c : ℕ) → Obsolete c → {v : List ℕ} → Many (In is_value) v → (p : ℕ) (rest : List ℕ) → Stop rest → run reason_step (inside o true) (p + 1) (v ++ rest) ≡ gave (empty o) (p + length (c ∷ v))
from_obs o c d {v} k p rest s = let n : p + 1 + length v ≡ p + length (c ∷ v) = omega arith in over_obs o k (p + 1) rest ∙ stop_obs o (p + 1 + length v) rest s ∙ ap (gave (empty o)) n

complete_reason : (p : ℕ) (w rest : List ℕ) (a : Piece) → Reasoned p w a rest → run reason_step none p (w ++ rest) ≡ gave a (p + length w)
complete_reason p w rest a (in_ascii no_more s) = let n : p ≡ p + 0 = omega arith in stop_none p rest s ∙ ap (λ y. gave (piece p y) y) n
complete_reason p w rest a (in_ascii (more {b = b} {w = v} h k) s) =
    let n : p + 1 + length v ≡ p + suc (length v) = omega arith in
    rw (h.value, h.ascii) (over_ascii p k (p + 1) rest ∙ stop_ascii p (p + 1 + length v) rest s ∙ ap (λ y. gave (piece p y) y) n)
complete_reason p w rest a (obsolete {v = v} {c = c} no_more d m s) = rw (d.value, d.not_ascii) (from_obs p c d m p rest s)
complete_reason p w rest a (obsolete {v = v} {c = c} (more {b = b} {w = u} h k) d m s) =
    let n : p + 1 + length u + length (c ∷ v) ≡ p + length ((b ∷ u) ++ (c ∷ v)) = omega (arith, length-append (b ∷ u) (c ∷ v)) in
    ap (λ y. run reason_step none p (b ∷ y)) (append_assoc u (c ∷ v) rest)
    ∙ rw (h.value, h.ascii) (over_ascii p k (p + 1) ((c ∷ v) ++ rest) ∙ rw (d.value, d.not_ascii) (from_obs p c d m (p + 1 + length u) rest s ∙ ap (gave (empty p)) n))

pub exact_reason : Exact reason_step none Reasoned
exact_reason = record { sound = sound_reason; complete = complete_reason }
