-- An exact machine in a larger one's words is exact for what the larger one passes.
-- Assumes nothing.
use Rattle.std.specs.Prelude.{ℕ, ◌≡◌, refl, List, ◌++◌}
use Rattle.std.proofs.Common.{sym, ap, ◌∙◌}
use Rattle.reader.specs.Machine.{Run, more, gave, refused, Step, run}
use Rattle.reader.specs.Judged.{Verdict, pass, fail, judged}
use Rattle.reader.specs.Answer.{got, answer, verdict, retold}
use Rattle.reader.proofs.Answer.{answered, answer_judged}
use Rattle.reader.specs.Chain.{nothing}
use Rattle.reader.specs.Tests.{never}
use Rattle.exact.specs.Exact.{Relation, Exact}

pub record Passes {A B F : Type 0} (f : A → Verdict B F) (G : Relation A) (p : ℕ) (w : List ℕ) (b : B) (rest : List ℕ) : Type 0 where
  pub a : A
  pub holds : G p w a rest
  pub passes : f a ≡ pass b

module _ {S A B E F : Type 0} (f : A → Verdict B F) (g : E → F) (m : Step S A E) where
  -- what the machine answered where the larger one answers
  record Behind (r : Run S A E) (b : B) (q : ℕ) : Type 0 where
    a : A
    answers : r ≡ gave a q
    passes : f a ≡ pass b

  behind : (r : Run S A E) (b : B) (q : ℕ) → retold (λ u. u) f g (answer nothing r) ≡ got b q → Behind r b q
  behind (more s) b q e = never cc
  behind (gave a i) b q e = by (f a) refl e
    where
      by : (v : Verdict B F) → f a ≡ v → verdict {W = Unit {0}} (λ (u : Unit {0}). u) f g v i ≡ got b q → Behind (gave a i) b q
      by (pass c) h k = record { a = a; answers = cc; passes = h ∙ cc }
      by (fail x) h k = never cc
  behind (refused x i) b q e = never cc

  told : (s : S) (p : ℕ) (xs : List ℕ) → answer nothing (run (judged f g m) s p xs) ≡ retold (λ u. u) f g (answer nothing (run m s p xs))
  told s p xs = answer_judged (λ u. u) f g nothing m xs s p

  pub exact_judged : {s : S} {G : Relation A} → Exact m s G → Exact (judged f g m) s (Passes f G)
  exact_judged {s} M = record {
    sound = λ p xs b q e. let k = behind (run m s p xs) b q (sym (told s p xs) ∙ ap (answer nothing) e) in let P = M.sound p xs k.a q k.answers in record { w = P.w; rest = P.rest; whole = P.whole; place = P.place; holds = record { a = k.a; holds = P.holds; passes = k.passes } };
    complete = λ p w rest b K. answered nothing _ (told s p (w ++ rest) ∙ rw (M.complete p w rest K.a K.holds, K.passes));
  }
