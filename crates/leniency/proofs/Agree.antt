-- Two readers of the same bytes, of which one has more settings on and slots enough, do not disagree about what the other accepts: where the head
-- ends, and what is in it. Where the other passes over lines this asks that no setting makes something else of them.
-- Assumes nothing.
use Rattle.std.specs.Prelude.{ℕ, ◌/◌, ◌≤◌, ◌≡◌, refl, List, true, length, Ok}
use Rattle.reader.specs.Tests.{clash}
use Rattle.rules.specs.declared.Settings.{Settings}
use Rattle.rules.specs.Settings.{request_rules, response_rules}
use Rattle.grammar.specs.Message.{IsRequestHead, IsResponseHead}
use Rattle.parts.specs.Answers.{Passed}
use Rattle.requestline.specs.declared.RequestLine.{RequestLine}
use Rattle.statusline.specs.declared.StatusLine.{StatusLine}
use Rattle.agreement.specs.Known.{RequestSays, StatusSays, fields_in}
use Rattle.agreement.specs.Promises.{HeadPromise}
use Rattle.leniency.specs.Allows.{KeptIgnored}
use Rattle.leniency.specs.More.{More}
use Rattle.leniency.proofs.More.{request_more, response_more}
use Rattle.leniency.specs.Agree.{Agrees, also_ignoring}
use Rattle.leniency.proofs.Agrees.{agrees}

module _ {a b : Settings} (on : More a b) {s old old' : List ℕ} {end end' : Passed} {count count' : ℕ} {new new' : List ℕ} where
  pub request_agrees : {In In' : List ℕ → RequestLine → Type 0} {line line' : RequestLine} → KeptIgnored (request_rules a) (request_rules b) → HeadPromise (request_rules a) (IsRequestHead (request_rules a)) RequestSays In s old end line count new → HeadPromise (request_rules b) (IsRequestHead (request_rules b)) RequestSays In' s old' end' line' count' new' → (q : ℕ) → end ≡ Ok q → count ≤ length old' / 4 → Agrees RequestSays s q end' line line' (fields_in s count new) (fields_in s count' new')
  request_agrees lines = agrees (λ w l fs. request_more on lines)

  -- of a status line with the same setting for its spaces
  pub response_agrees : {In In' : List ℕ → StatusLine → Type 0} {line line' : StatusLine} → KeptIgnored (response_rules a) (response_rules b) → (b.spaces_in_status_line ≡ true → a.spaces_in_status_line ≡ true) → HeadPromise (response_rules a) (IsResponseHead (response_rules a)) StatusSays In s old end line count new → HeadPromise (response_rules b) (IsResponseHead (response_rules b)) StatusSays In' s old' end' line' count' new' → (q : ℕ) → end ≡ Ok q → count ≤ length old' / 4 → Agrees StatusSays s q end' line line' (fields_in s count new) (fields_in s count' new')
  response_agrees lines same = agrees (λ w l fs. response_more on lines (λ t f. absurd (clash (same t) f)))

also_more : (a : Settings) → More a (also_ignoring a)
also_more a = record {
  ascii_targets = λ t. t;
  spaces_in_request_line = λ t. t;
  spaces_in_status_line = λ t. t;
  space_before_first_name = λ t. t;
  spaces_after_name = λ t. t;
  multiline_headers = λ t. t;
  ignore_invalid_headers_in_requests = λ _. refl;
  ignore_invalid_headers_in_responses = λ _. refl;
}

-- a reader that ignores invalid lines too ends where the other does, with the same fields, whatever else is set
module _ (a : Settings) {s old old' : List ℕ} {end end' : Passed} {count count' : ℕ} {new new' : List ℕ} where
  pub request_end_stays : {In In' : List ℕ → RequestLine → Type 0} {line line' : RequestLine} → HeadPromise (request_rules a) (IsRequestHead (request_rules a)) RequestSays In s old end line count new → HeadPromise (request_rules (also_ignoring a)) (IsRequestHead (request_rules (also_ignoring a))) RequestSays In' s old' end' line' count' new' → (q : ℕ) → end ≡ Ok q → count ≤ length old' / 4 → Agrees RequestSays s q end' line line' (fields_in s count new) (fields_in s count' new')
  request_end_stays = request_agrees (also_more a) (λ _. record { space_before_first_name = λ t. t; spaces_after_name = λ t. t; multiline_headers = λ t. t })

  pub response_end_stays : {In In' : List ℕ → StatusLine → Type 0} {line line' : StatusLine} → HeadPromise (response_rules a) (IsResponseHead (response_rules a)) StatusSays In s old end line count new → HeadPromise (response_rules (also_ignoring a)) (IsResponseHead (response_rules (also_ignoring a))) StatusSays In' s old' end' line' count' new' → (q : ℕ) → end ≡ Ok q → count ≤ length old' / 4 → Agrees StatusSays s q end' line line' (fields_in s count new) (fields_in s count' new')
  response_end_stays = response_agrees (also_more a) (λ _. record { space_before_first_name = λ t. t; spaces_after_name = λ t. t; multiline_headers = λ t. t }) (λ t. t)
