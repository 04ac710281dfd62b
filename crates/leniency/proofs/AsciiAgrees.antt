-- Targets in plain ASCII change nothing of what is accepted with them: a reader with the setting on and one with it off agree.
-- Assumes nothing.
use Rattle.std.specs.Prelude.{ℕ, ◌/◌, ◌≤◌, ◌≡◌, List, Bool, length, Ok}
use Rattle.grammar.specs.Message.{IsRequestHead}
use Rattle.parts.specs.Answers.{Passed}
use Rattle.requestline.specs.declared.RequestLine as told
use Rattle.agreement.specs.Known.{RequestSays, fields_in}
use Rattle.agreement.specs.Promises.{HeadPromise}
use Rattle.leniency.specs.Agree.{Agrees}
use Rattle.leniency.proofs.Agrees.{agrees}
use Rattle.leniency.specs.Settings.{ascii_off, ascii_on}
use Rattle.leniency.proofs.Settings.{ascii_request}

module _ (q f i : Bool) where
  -- two readers of the same bytes, of which one has the setting on and the other off and slots enough, do not disagree about where a request ends
  -- or what is in it
  pub ascii_agrees : {In In' : List ℕ → told.RequestLine → Type 0} {s old old' : List ℕ} {end end' : Passed} {line line' : told.RequestLine} {count count' : ℕ} {new new' : List ℕ} → HeadPromise (ascii_on q f i) (IsRequestHead (ascii_on q f i)) RequestSays In s old end line count new → HeadPromise (ascii_off q f i) (IsRequestHead (ascii_off q f i)) RequestSays In' s old' end' line' count' new' → (p : ℕ) → end ≡ Ok p → count ≤ length old' / 4 → Agrees RequestSays s p end' line line' (fields_in s count new) (fields_in s count' new')
  ascii_agrees = agrees (λ w l fs h. ((ascii_request q f i).0 h).0)
