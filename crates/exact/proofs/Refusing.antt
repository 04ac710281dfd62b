-- A machine that refuses exactly where a relation holds: of the position, the bytes before the one that is refused, what it is refused with, and the bytes from that one on.
-- Assumes nothing.
use Rattle.std.specs.Prelude.{ℕ, zero, suc, ◌+◌, ◌≤◌, ◌≡◌, refl, List, [], ◌∷◌, ◌++◌, Bool, true, false, length}
use Rattle.std.proofs.Common.{arith, sym, ap, subst, ◌∙◌, append_assoc, length-append}
use Rattle.reader.specs.Machine.{Move, keep, give, before, refuse, Run, more, gave, refused, Step, after, run}
use Rattle.reader.specs.Lifted.{ran}
use Rattle.reader.specs.Judged.{pass, moved, judged}
use Rattle.reader.specs.Seq.{first, second, seq}
use Rattle.reader.specs.Branch.{Branch, fresh, branch}
use Rattle.reader.proofs.Branch.{run_fresh_one, run_fresh_other}
use Rattle.reader.specs.Loop.{Turn, again, done, loop, Fresh}
use Rattle.reader.specs.Refusals.{Refuses}
use Rattle.reader.proofs.Refusals.{refused_is}
use Rattle.reader.specs.Tests.{never}
use Rattle.exact.specs.Exact.{Relation, Part, Exact}
use Rattle.exact.proofs.Seq.{both, onto}
use Rattle.exact.specs.Branch.{Forks, one, other}
use Rattle.exact.proofs.Loop as loops
use Rattle.exact.specs.Refusing.{Either, LapsTo, Never, Refusing, early, here, late, next}

pub refusing_never : {S A F : Type 0} (m : Step S A F) (s : S) → Refuses (λ _ _. ⊥) m → Refusing m s Never
refusing_never m s R = record { sound = λ p xs x q e. absurd (refused_is (λ _ _. ⊥) m R xs s p x q e); complete = λ p w rest x k. absurd k }

ran_refused : {S T A F : Type 0} (f : S → T) (r : Run S A F) {x : F} {q : ℕ} → ran f r ≡ refused x q → r ≡ refused x q
ran_refused f (more s) e = never cc
ran_refused f (gave b i) e = never cc
ran_refused f (refused y i) e = cc

-- in a larger machine's words, which passes every answer
module _ {S A B F : Type 0} (h : A → B) (m : Step S A F) where
  abbrev told : Run S A F → Run S B F
  told (more s) = more s
  told (gave a q) = gave (h a) q
  told (refused x q) = refused x q

  told_step : (bs : List ℕ) (p : ℕ) (v : Move S A F) → ((s : S) → run (judged (λ a. pass (h a)) (λ e. e) m) s (p + 1) bs ≡ told (run m s (p + 1) bs)) → after (moved (λ a. pass (h a)) (λ e. e) v) p (λ s. run (judged (λ a. pass (h a)) (λ e. e) m) s (p + 1) bs) ≡ told (after v p (λ s. run m s (p + 1) bs))
  told_step bs p (keep s) ih = ih s
  told_step bs p (give a) ih = refl
  told_step bs p (before a) ih = refl
  told_step bs p (refuse x) ih = refl

  told_run : (bs : List ℕ) (s : S) (p : ℕ) → run (judged (λ a. pass (h a)) (λ e. e) m) s p bs ≡ told (run m s p bs)
  told_run [] s p = refl
  told_run (b ∷ bs) s p = told_step bs p (m s p b) (λ s'. told_run bs s' (p + 1))

  told_refused : (r : Run S A F) {x : F} {q : ℕ} → told r ≡ refused x q → r ≡ refused x q
  told_refused (more s) e = never cc
  told_refused (gave a i) e = never cc
  told_refused (refused y i) e = cc

  pub refusing_judged : {s : S} {W : Relation F} → Refusing m s W → Refusing (judged (λ a. pass (h a)) (λ e. e) m) s W
  refusing_judged {s} R = record {
    sound = λ p xs x q e. R.sound p xs x q (told_refused (run m s p xs) (sym (told_run xs s p) ∙ e));
    complete = λ p w rest x k. told_run (w ++ rest) s p ∙ ap told (R.complete p w rest x k);
  }

module _ {S A T B F : Type 0} (m : Step S A F) (start : A → T) (n : A → Step T B F) (s : S) {G : Relation A} {W : Relation F} {U : A → Relation F} (M : Exact m s G) (R : Refusing m s W) (N : (a : A) → Refusing (n a) (start a) (U a)) where
  second_wrong : (p : ℕ) (x : F) (q : ℕ) (a : A) (w rest : List ℕ) → G p w a rest → run (n a) (start a) (p + length w) rest ≡ refused x q → Part (Either W G U) p (w ++ rest) x q
  second_wrong p x q a w rest g v =
      let P = (N a).sound (p + length w) rest x q v in
      record { w = w ++ P.w; rest = P.rest; whole = ap (λ l. w ++ l) P.whole ∙ sym (append_assoc w P.w P.rest); place = omega (arith, length-append w P.w, P.place); holds = late w P.w a refl (subst (G p w a) P.whole g) P.holds }

  first_wrong : (p : ℕ) (xs : List ℕ) (x : F) (q : ℕ) → run (seq m start n) (first s) p xs ≡ refused x q → (r : Run S A F) → run m s p xs ≡ r → Part (Either W G U) p xs x q
  first_wrong p xs x q e (more t) u = let k = sym (both m start n s p xs) ∙ e in let k' : more (first t) ≡ refused x q = rw u at k in never cc
  first_wrong p xs x q e (refused y i) u =
      let k = sym (both m start n s p xs) ∙ e in
      let k' : refused y i ≡ refused x q = rw u at k in
      let P = R.sound p xs x q (u ∙ cc) in
      record { w = P.w; rest = P.rest; whole = P.whole; place = P.place; holds = early P.holds }
  first_wrong p xs x q e (gave a i) u =
      let P = M.sound p xs a i u in
      let u' : run m s p (P.w ++ P.rest) ≡ gave a (p + length P.w) = ap (run m s p) (sym P.whole) ∙ u ∙ ap (gave a) P.place in
      let e' : run (seq m start n) (first s) p (P.w ++ P.rest) ≡ refused x q = ap (run (seq m start n) (first s) p) (sym P.whole) ∙ e in
      subst (λ y. Part (Either W G U) p y x q) (sym P.whole) (second_wrong p x q a P.w P.rest P.holds (ran_refused (second a) _ (sym (onto m start n s p P.w P.rest a u') ∙ e')))

  seq_wrong : (p : ℕ) (w rest : List ℕ) (x : F) → Either W G U p w x rest → run (seq m start n) (first s) p (w ++ rest) ≡ refused x (p + length w)
  seq_wrong p w rest x (early k) = both m start n s p (w ++ rest) ∙ rw (R.complete p w rest x k)
  seq_wrong p w rest x (late w₁ w₂ a i g v) =
      let l : p + length w₁ + length w₂ ≡ p + length (w₁ ++ w₂) = omega (arith, length-append w₁ w₂) in
      rw (i, append_assoc w₁ w₂ rest)
      (onto m start n s p w₁ (w₂ ++ rest) a (M.complete p w₁ (w₂ ++ rest) a g) ∙ rw ((N a).complete (p + length w₁) w₂ rest x v, l))

  pub refusing_seq : Refusing (seq m start n) (first s) (Either W G U)
  refusing_seq = record { sound = λ p xs x q e. first_wrong p xs x q e (run m s p xs) refl; complete = seq_wrong }

-- one of two machines, by the first byte
module _ {S T A F : Type 0} (test : ℕ → Bool) (m : Step S A F) (s₀ : S) (n : Step T A F) (t₀ : T) {W U : Relation F} (M : Refusing m s₀ W) (N : Refusing n t₀ U) where
  fork_wrong : (b : ℕ) (bs : List ℕ) (p : ℕ) (x : F) (q : ℕ) → run (branch test m s₀ n t₀) fresh p (b ∷ bs) ≡ refused x q → (t : Bool) → test b ≡ t → Part (Forks test W U) p (b ∷ bs) x q
  fork_wrong b bs p x q e true h =
      let P = M.sound p (b ∷ bs) x q (ran_refused Branch.one _ (sym (run_fresh_one test m s₀ n t₀ b bs p h) ∙ e)) in
      record { w = P.w; rest = P.rest; whole = P.whole; place = P.place; holds = one b bs (sym P.whole) h P.holds }
  fork_wrong b bs p x q e false h =
      let P = N.sound p (b ∷ bs) x q (ran_refused Branch.other _ (sym (run_fresh_other test m s₀ n t₀ b bs p h) ∙ e)) in
      record { w = P.w; rest = P.rest; whole = P.whole; place = P.place; holds = other b bs (sym P.whole) h P.holds }

  branch_wrong : (p : ℕ) (xs : List ℕ) (x : F) (q : ℕ) → run (branch test m s₀ n t₀) fresh p xs ≡ refused x q → Part (Forks test W U) p xs x q
  branch_wrong p [] x q e = never cc
  branch_wrong p (b ∷ bs) x q e = fork_wrong b bs p x q e (test b) refl

  branch_refused : (p : ℕ) (w rest : List ℕ) (x : F) → Forks test W U p w x rest → run (branch test m s₀ n t₀) fresh p (w ++ rest) ≡ refused x (p + length w)
  branch_refused p w rest x (one b bs e h g) = let k : run m s₀ p (b ∷ bs) ≡ refused x (p + length w) = rw e at (M.complete p w rest x g) in rw e (run_fresh_one test m s₀ n t₀ b bs p h ∙ ap (ran Branch.one) k)
  branch_refused p w rest x (other b bs e h g) = let k : run n t₀ p (b ∷ bs) ≡ refused x (p + length w) = rw e at (N.complete p w rest x g) in rw e (run_fresh_other test m s₀ n t₀ b bs p h ∙ ap (ran Branch.other) k)

  pub refusing_branch : Refusing (branch test m s₀ n t₀) fresh (Forks test W U)
  refusing_branch = record { sound = branch_wrong; complete = branch_refused }

module _ {A S B F : Type 0} (start : A → S) (m : A → Step S (Turn A B) F) (fresh : Fresh start m) {G : A → Relation (Turn A B)} {W : A → Relation F} (M : (a : A) → Exact (m a) (start a) (G a)) (R : (a : A) → Refusing (m a) (start a) (W a)) (longer : (a : A) (p : ℕ) (w : List ℕ) (a' : A) (rest : List ℕ) → G a p w (again a') rest → 1 ≤ length w) where
  laps_refused : {a : A} {p : ℕ} {w : List ℕ} {x : F} {rest : List ℕ} → LapsTo G W a p w x rest → run (loop start m) (a, start a) p (w ++ rest) ≡ refused x (p + length w)
  laps_refused (here {a = a} {p = p} {w = w} {x = x} {rest = rest} g) = loops.lap_run start m fresh a p (w ++ rest) ∙ rw ((R a).complete p w rest x g)
  laps_refused (next {a = a} {a' = a'} {p = p} {w₁ = w₁} {w₂ = w₂} {x = x} {rest = rest} g k) =
      let l : p + length w₁ + length w₂ ≡ p + length (w₁ ++ w₂) = omega (arith, length-append w₁ w₂) in
      rw (append_assoc w₁ w₂ rest)
      (loops.onto start m fresh a a' p w₁ (w₂ ++ rest) ((M a).complete p w₁ (w₂ ++ rest) (again a') g) ∙ laps_refused k ∙ rw l)

  module _ (a : A) (p : ℕ) (xs : List ℕ) (x : F) (q : ℕ) (e : run (loop start m) (a, start a) p xs ≡ refused x q) where
    lap_wrong : (n : ℕ) → length xs ≤ suc n → ((a' : A) (p' : ℕ) (ys : List ℕ) → length ys ≤ n → run (loop start m) (a', start a') p' ys ≡ refused x q → Part (LapsTo G W a') p' ys x q) → (r : Run S (Turn A B) F) → run (m a) (start a) p xs ≡ r → Part (LapsTo G W a) p xs x q
    lap_wrong n h ih (more t) u = let k = sym (loops.lap_run start m fresh a p xs) ∙ e in let k' : ◌≡◌ {A = Run (A × S) B F} (more (a, t)) (refused x q) = rw u at k in never cc
    lap_wrong n h ih (gave (done c) i) u = let k = sym (loops.lap_run start m fresh a p xs) ∙ e in let k' : ◌≡◌ {A = Run (A × S) B F} (gave c i) (refused x q) = rw u at k in never cc
    lap_wrong n h ih (refused y i) u =
        let k = sym (loops.lap_run start m fresh a p xs) ∙ e in
        let k' : ◌≡◌ {A = Run (A × S) B F} (refused y i) (refused x q) = rw u at k in
        let v : run (m a) (start a) p xs ≡ refused x q = u ∙ cc in
        let P = (R a).sound p xs x q v in
        record { w = P.w; rest = P.rest; whole = P.whole; place = P.place; holds = here P.holds }
    lap_wrong n h ih (gave (again a') i) u =
        let P = (M a).sound p xs (again a') i u in
        let u' : run (m a) (start a) p (P.w ++ P.rest) ≡ gave (again a') (p + length P.w) = ap (run (m a) (start a) p) (sym P.whole) ∙ u ∙ ap (gave (again a')) P.place in
        let e' : run (loop start m) (a, start a) p (P.w ++ P.rest) ≡ refused x q = ap (run (loop start m) (a, start a) p) (sym P.whole) ∙ e in
        let l : length xs ≡ length P.w + length P.rest = ap length P.whole ∙ length-append P.w P.rest in
        let s : 1 ≤ length P.w = longer a p P.w a' P.rest P.holds in
        let Q = ih a' (p + length P.w) P.rest (omega (arith, l, s, h)) (sym (loops.onto start m fresh a a' p P.w P.rest u') ∙ e') in
        record {
          w = P.w ++ Q.w;
          rest = Q.rest;
          whole = P.whole ∙ ap (λ y. P.w ++ y) Q.whole ∙ sym (append_assoc P.w Q.w Q.rest);
          place = omega (arith, length-append P.w Q.w, Q.place);
          holds = next (subst (G a p P.w (again a')) Q.whole P.holds) Q.holds;
        }

  laps_wrong : (n : ℕ) (a : A) (p : ℕ) (xs : List ℕ) (x : F) (q : ℕ) → length xs ≤ n → run (loop start m) (a, start a) p xs ≡ refused x q → Part (LapsTo G W a) p xs x q
  laps_wrong zero a p [] x q h e = never cc
  laps_wrong zero a p (y ∷ xs) x q h e = absurd (omega (arith, h))
  laps_wrong (suc n) a p xs x q h e = lap_wrong a p xs x q e n h (λ a' p' ys. laps_wrong n a' p' ys x q) (run (m a) (start a) p xs) refl

  pub refusing_loop : (a : A) → Refusing (loop start m) (a, start a) (LapsTo G W a)
  refusing_loop a = record { sound = λ p xs x q. laps_wrong (length xs) a p xs x q (omega arith); complete = λ p w rest x. laps_refused }
