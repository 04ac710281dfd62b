-- A word is read exactly where one or more bytes of its class stand, and then the byte that ends it.
-- Assumes nothing.
use Rattle.std.specs.Prelude.{ℕ, suc, ◌+◌, ◌≡◌, refl, List, [], ◌∷◌, ◌++◌, Bool, true, false, eqb, length}
use Rattle.std.proofs.Common.{arith, sym, ap, ◌∙◌, append_assoc, length-append, eqb-true, eq-eqb}
use Rattle.reader.specs.Machine.{Run, gave, after, run}
use Rattle.reader.specs.Tests.{split, never}
use Rattle.exact.specs.Exact.{Part, Exact}
use Rattle.parts.specs.declared.Error.{Error}
use Rattle.parts.specs.declared.Fault.{Fault}
use Rattle.parts.specs.declared.Piece.{Piece}
use Rattle.parts.specs.Answers.{piece}
use Rattle.words.specs.Word.{Word, none, some as inside, word_step}
use Rattle.grammar.specs.Rows.{Many, none as no_more, more, Some, some}
use Rattle.leaves.specs.Rows.{In, over}

-- the bytes v and the byte that ends them; the answer is the piece of v
pub record Worded (class : ℕ → Bool) (end : ℕ) (p : ℕ) (w : List ℕ) (a : Piece) (rest : List ℕ) : Type 0 where
  pub v : List ℕ
  pub kind : Some (In class) v
  pub whole : w ≡ v ++ (end ∷ [])
  pub place : a ≡ piece p (p + length v)

module _ (class : ℕ → Bool) (end : ℕ) (x : Error) (outside : class end ≡ false) where
  -- the rest of a word that began at o
  record Left (o p : ℕ) (xs : List ℕ) (a : Piece) (q : ℕ) : Type 0 where
    v : List ℕ
    ys : List ℕ
    kind : Many (In class) v
    whole : xs ≡ v ++ (end ∷ ys)
    behind : q ≡ p + length v + 1
    place : a ≡ piece o (p + length v)

  left_more : (o p b : ℕ) (bs : List ℕ) (a : Piece) (q : ℕ) → class b ≡ true → Left o (p + 1) bs a q → Left o p (b ∷ bs) a q
  left_more o p b bs a q h k =
      let n : p + 1 + length k.v ≡ p + length (b ∷ k.v) = omega arith in
      record { v = b ∷ k.v; ys = k.ys; kind = more h k.kind; whole = ap (λ y. b ∷ y) k.whole; behind = k.behind ∙ ap (λ y. y + 1) n; place = k.place ∙ ap (piece o) n }

  sound_inside : (o : ℕ) (xs : List ℕ) (p : ℕ) (a : Piece) (q : ℕ) → run (word_step class end x) (inside o) p xs ≡ gave a q → Left o p xs a q
  sound_inside o [] p a q = λ e. never cc
  sound_inside o (b ∷ bs) p a q =
      let k : Word → Run Word Piece Fault = λ s. run (word_step class end x) s (p + 1) bs in
      let ih = sound_inside o bs (p + 1) a q in
      split (λ u. after u p k ≡ gave a q → Left o p (b ∷ bs) a q) (class b) (λ h e. left_more o p b bs a q h (ih e))
      (λ _. split (λ u. after u p k ≡ gave a q → Left o p (b ∷ bs) a q) (eqb b end)
      (λ t e. let i : piece o p ≡ a = cc in let j : p + 1 ≡ q = cc in let n : p ≡ p + 0 = omega arith in record { v = []; ys = bs; kind = no_more; whole = ap (λ y. y ∷ bs) (eqb-true b end t); behind = sym j ∙ ap (λ y. y + 1) n; place = sym i ∙ ap (piece o) n })
      (λ t e. never cc))

  whole_word : (p b : ℕ) (bs : List ℕ) (a : Piece) (q : ℕ) → class b ≡ true → Left p (p + 1) bs a q → Part (Worded class end) p (b ∷ bs) a q
  whole_word p b bs a q h k =
      let n : p + 1 + length k.v ≡ p + length (b ∷ k.v) = omega arith in
      record {
        w = (b ∷ k.v) ++ (end ∷ []);
        rest = k.ys;
        whole = ap (λ y. b ∷ y) k.whole ∙ sym (append_assoc (b ∷ k.v) (end ∷ []) k.ys);
        place = omega (arith, k.behind, length-append (b ∷ k.v) (end ∷ []));
        holds = record { v = b ∷ k.v; kind = some h k.kind; whole = refl; place = k.place ∙ ap (piece p) n };
      }

  sound_word : (p : ℕ) (xs : List ℕ) (a : Piece) (q : ℕ) → run (word_step class end x) none p xs ≡ gave a q → Part (Worded class end) p xs a q
  sound_word p [] a q = λ e. never cc
  sound_word p (b ∷ bs) a q =
      split (λ u. after u p (λ s. run (word_step class end x) s (p + 1) bs) ≡ gave a q → Part (Worded class end) p (b ∷ bs) a q) (class b)
      (λ h e. whole_word p b bs a q h (sound_inside p bs (p + 1) a q e))
      (λ _ e. never cc)

  complete_inside : (o : ℕ) {v : List ℕ} → Many (In class) v → (p : ℕ) (rest : List ℕ) → run (word_step class end x) (inside o) p (v ++ (end ∷ rest)) ≡ gave (piece o (p + length v)) (p + length v + 1)
  complete_inside o k p rest = over (word_step class end x) (inside o) (λ b h q. rw h) k p (end ∷ rest) ∙ rw (outside, eq-eqb end end refl)

  complete_some : {v : List ℕ} → Some (In class) v → (p : ℕ) (rest : List ℕ) → run (word_step class end x) none p (v ++ (end ∷ rest)) ≡ gave (piece p (p + length v)) (p + length v + 1)
  complete_some (some {b = b} {w = v} h m) p rest = let n : p + 1 + length v ≡ p + suc (length v) = omega arith in rw h (complete_inside p m (p + 1) rest ∙ ap (λ y. gave (piece p y) (y + 1)) n)

  complete_word : (p : ℕ) (w rest : List ℕ) (a : Piece) → Worded class end p w a rest → run (word_step class end x) none p (w ++ rest) ≡ gave a (p + length w)
  complete_word p w rest a K =
      let l : p + length K.v + 1 ≡ p + length w = omega (arith, ap length K.whole, length-append K.v (end ∷ [])) in
      ap (λ y. run (word_step class end x) none p (y ++ rest)) K.whole ∙ ap (run (word_step class end x) none p) (append_assoc K.v (end ∷ []) rest) ∙ complete_some K.kind p rest ∙ rw (K.place, l)

  pub exact_word : Exact (word_step class end x) none (Worded class end)
  exact_word = record { sound = sound_word; complete = complete_word }
