-- Two readers, of which one accepts what the other does and has slots enough, end at the same place with the same fields.
-- Assumes nothing.
use Rattle.std.specs.Prelude.{ℕ, ◌/◌, ◌≤◌, ◌≡◌, List, length, Ok}
use Rattle.std.proofs.Common.{arith, sym, ap, ◌∙◌}
use Rattle.rules.specs.Rules.{Rules}
use Rattle.grammar.specs.Fields.{Field}
use Rattle.parts.specs.Answers.{Passed}
use Rattle.agreement.specs.Known.{fields_in}
use Rattle.agreement.specs.Promises.{HeadPromise}
use Rattle.agreement.proofs.Kept.{fields_counted}
use Rattle.leniency.specs.Agree.{Agrees}

module _ {L K : Type 0} {r r' : Rules} {Head Head' : List ℕ → L → List Field → Type 0} {Says : List ℕ → K → L → Type 0} {In In' : List ℕ → K → Type 0} {s old old' : List ℕ} {end end' : Passed} {line line' : K} {count count' : ℕ} {new new' : List ℕ} where
  pub agrees : ((w : List ℕ) (l : L) (fs : List Field) → Head w l fs → Head' w l fs) → HeadPromise r Head Says In s old end line count new → HeadPromise r' Head' Says In' s old' end' line' count' new' → (q : ℕ) → end ≡ Ok q → count ≤ length old' / 4 → Agrees Says s q end' line line' (fields_in s count new) (fields_in s count' new')
  agrees onto P Q q e room =
      let H = P.complete q e in
      let A = Q.accepts H.bytes H.rest H.said (fields_in s count new) H.whole (onto H.bytes H.said (fields_in s count new) H.head) (omega (arith, room, fields_counted s count new)) in
      (A.0 ∙ ap Ok (sym H.end), A.2, (H.said, H.says, A.1))
