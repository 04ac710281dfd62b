-- A target is read exactly where one or more bytes of its class stand that are UTF-8 as a whole, and then a space.
-- Assumes nothing.
use Rattle.std.specs.Prelude.{ℕ, suc, ◌+◌, ◌≡◌, refl, List, [], ◌∷◌, ◌++◌, Bool, true, false, eqb, length}
use Rattle.std.proofs.Common.{arith, sym, ap, ◌∙◌, append_assoc, length-append, eqb-true}
use Rattle.reader.specs.Machine.{Move, gave, more as wants, after, run}
use Rattle.reader.specs.Laws.{resume}
use Rattle.reader.specs.Tests.{split, never}
use Rattle.exact.specs.Exact.{Part, Exact}
use Rattle.utf8.specs.Reader.{machine, whole, utf8}
use Rattle.parts.specs.declared.Fault.{Fault}
use Rattle.parts.specs.declared.Piece.{Piece}
use Rattle.parts.specs.Answers.{piece}
use Rattle.words.specs.Target.{Utf8, Target, none, some as inside, feed, target_step, resume_none, resume_fed, anywhere}
use Rattle.grammar.specs.Rows.{Many, none as no_more, more, Some, some}
use Rattle.leaves.specs.Rows.{In}

-- the bytes v and a space; the answer is the piece of v
pub record Targeted (class : ℕ → Bool) (p : ℕ) (w : List ℕ) (a : Piece) (rest : List ℕ) : Type 0 where
  pub v : List ℕ
  pub kind : Some (In class) v
  pub text : utf8 v ≡ true
  pub line : w ≡ v ++ (32 ∷ [])
  pub place : a ≡ piece p (p + length v)

-- the rest of a target that began at o, of which the UTF-8 reader has come to u
record Left (class : ℕ → Bool) (o : ℕ) (u : Utf8) (p : ℕ) (xs : List ℕ) (a : Piece) (q : ℕ) : Type 0 where
  v : List ℕ
  ys : List ℕ
  kind : Many (In class) v
  text : whole (resume machine u p v) ≡ true
  line : xs ≡ v ++ (32 ∷ ys)
  behind : q ≡ p + length v + 1
  place : a ≡ piece o (p + length v)

module _ (class : ℕ → Bool) (space : class 32 ≡ false) where
  left_more : (o : ℕ) (u : Utf8) (p b : ℕ) (bs : List ℕ) (a : Piece) (q : ℕ) → class b ≡ true → Left class o (feed u p b) (p + 1) bs a q → Left class o u p (b ∷ bs) a q
  left_more o u p b bs a q h k =
      let n : p + 1 + length k.v ≡ p + length (b ∷ k.v) = omega arith in
      record { v = b ∷ k.v; ys = k.ys; kind = more h k.kind; text = rw (resume_fed u p b k.v) at k.text; line = ap (λ y. b ∷ y) k.line; behind = k.behind ∙ ap (λ y. y + 1) n; place = k.place ∙ ap (piece o) n }

  sound_inside : (o : ℕ) (xs : List ℕ) (u : Utf8) (p : ℕ) (a : Piece) (q : ℕ) → run (target_step class) (inside o u) p xs ≡ gave a q → Left class o u p xs a q
  sound_inside o [] u p a q = λ e. never cc
  sound_inside o (b ∷ bs) u p a q =
      let G : Move Target Piece Fault → Type 0 = λ v. after v p (λ s. run (target_step class) s (p + 1) bs) ≡ gave a q → Left class o u p (b ∷ bs) a q in
      let ih = sound_inside o bs (feed u p b) (p + 1) a q in
      split G (class b) (λ h e. left_more o u p b bs a q h (ih e))
      (λ _. split G (eqb b 32)
      (λ t. split G (whole u)
      (λ g e. let i : piece o p ≡ a = cc in let j : p + 1 ≡ q = cc in let n : p ≡ p + 0 = omega arith in record { v = []; ys = bs; kind = no_more; text = ap whole (resume_none u p) ∙ g; line = ap (λ y. y ∷ bs) (eqb-true b 32 t); behind = sym j ∙ ap (λ y. y + 1) n; place = sym i ∙ ap (piece o) n })
      (λ g e. never cc))
      (λ t e. never cc))

  whole_target : (p b : ℕ) (bs : List ℕ) (a : Piece) (q : ℕ) → class b ≡ true → Left class p (feed (wants []) p b) (p + 1) bs a q → Part (Targeted class) p (b ∷ bs) a q
  whole_target p b bs a q h k =
      let n : p + 1 + length k.v ≡ p + length (b ∷ k.v) = omega arith in
      let t : whole (run machine [] p (b ∷ k.v)) ≡ true = rw (resume_fed (wants []) p b k.v) at k.text in
      record {
        w = (b ∷ k.v) ++ (32 ∷ []);
        rest = k.ys;
        whole = ap (λ y. b ∷ y) k.line ∙ sym (append_assoc (b ∷ k.v) (32 ∷ []) k.ys);
        place = omega (arith, k.behind, length-append (b ∷ k.v) (32 ∷ []));
        holds = record { v = b ∷ k.v; kind = some h k.kind; text = anywhere (b ∷ k.v) [] 0 p ∙ t; line = refl; place = k.place ∙ ap (piece p) n };
      }

  sound_target : (p : ℕ) (xs : List ℕ) (a : Piece) (q : ℕ) → run (target_step class) none p xs ≡ gave a q → Part (Targeted class) p xs a q
  sound_target p [] a q = λ e. never cc
  sound_target p (b ∷ bs) a q =
      split (λ u. after u p (λ s. run (target_step class) s (p + 1) bs) ≡ gave a q → Part (Targeted class) p (b ∷ bs) a q) (class b)
      (λ h e. whole_target p b bs a q h (sound_inside p bs (feed (wants []) p b) (p + 1) a q e))
      (λ _ e. never cc)

  complete_inside : (o : ℕ) {v : List ℕ} → Many (In class) v → (u : Utf8) (p : ℕ) (rest : List ℕ) → whole (resume machine u p v) ≡ true → run (target_step class) (inside o u) p (v ++ (32 ∷ rest)) ≡ gave (piece o (p + length v)) (p + length v + 1)
  complete_inside o no_more u p rest t = let n : p ≡ p + 0 = omega arith in let g : whole u ≡ true = ap whole (sym (resume_none u p)) ∙ t in rw (space, g) (ap (λ y. gave (piece o y) (y + 1)) n)
  complete_inside o (more {b = b} {w = v} h m) u p rest t = let n : p + 1 + length v ≡ p + suc (length v) = omega arith in rw h (complete_inside o m (feed u p b) (p + 1) rest (rw (resume_fed u p b v) t) ∙ ap (λ y. gave (piece o y) (y + 1)) n)

  complete_some : {v : List ℕ} → Some (In class) v → (p : ℕ) (rest : List ℕ) → utf8 v ≡ true → run (target_step class) none p (v ++ (32 ∷ rest)) ≡ gave (piece p (p + length v)) (p + length v + 1)
  complete_some (some {b = b} {w = v} h m) p rest t =
      let n : p + 1 + length v ≡ p + suc (length v) = omega arith in
      let g : whole (run machine [] p (b ∷ v)) ≡ true = anywhere (b ∷ v) [] p 0 ∙ t in
      rw h (complete_inside p m (feed (wants []) p b) (p + 1) rest (rw (resume_fed (wants []) p b v) g) ∙ ap (λ y. gave (piece p y) (y + 1)) n)

  complete_target : (p : ℕ) (w rest : List ℕ) (a : Piece) → Targeted class p w a rest → run (target_step class) none p (w ++ rest) ≡ gave a (p + length w)
  complete_target p w rest a K =
      let l : p + length K.v + 1 ≡ p + length w = omega (arith, ap length K.line, length-append K.v (32 ∷ [])) in
      ap (λ y. run (target_step class) none p (y ++ rest)) K.line ∙ ap (run (target_step class) none p) (append_assoc K.v (32 ∷ []) rest) ∙ complete_some K.kind p rest K.text ∙ rw (K.place, l)

  pub exact_target : Exact (target_step class) none (Targeted class)
  exact_target = record { sound = sound_target; complete = complete_target }
