-- What the calls answer: the reader of a request and of a response, for every input and every number of slots.
-- Assumes nothing.
use Rattle.std.specs.Prelude.{ℕ, ◌≡◌, List, []}
use Rattle.reader.specs.Seq.{first}
use Rattle.rules.specs.Rules.{Rules}
use Rattle.parts.specs.EmptyLines.{start}
use Rattle.parts.specs.Answers.{Passed}
use Rattle.requestline.specs.declared.RequestLine.{RequestLine}
use Rattle.statusline.specs.declared.StatusLine.{StatusLine}
use Rattle.requestline.specs.RequestLine.{request_line_step, request_line}
use Rattle.requestline.specs.RequestLine as requests
use Rattle.statusline.specs.StatusLine.{status_line_step, status_line}
use Rattle.statusline.specs.StatusLine as statuses
use Rattle.blocks.specs.Block.{block}
use Rattle.heads.specs.Head.{Heads, head, over, headed, head_parts, Told, told_block, head_on, head_stops}

unfoldable pub request : Rules → ℕ → List ℕ → Heads RequestLine
request r n xs = head r n (request_line_step r) requests.line_known (first start) xs

unfoldable pub response : Rules → ℕ → List ℕ → Heads StatusLine
response r n xs = head r n (status_line_step r) statuses.line_known (first start) xs

-- by its start line and its block
module _ (r : Rules) (n : ℕ) (xs : List ℕ) where
  pub request_parts : request r n xs ≡ headed (request_line r xs 0) (λ k q. over k (block r n [] xs q))
  unfolding request
  request_parts = head_parts r n (request_line_step r) requests.line_known (first start) xs

  pub response_parts : response r n xs ≡ headed (status_line r xs 0) (λ k q. over k (block r n [] xs q))
  unfolding response
  response_parts = head_parts r n (status_line_step r) statuses.line_known (first start) xs

  module _ {end : Passed} {count : ℕ} {old new : List ℕ} where
    pub request_whole : {line : RequestLine} → Told (headed (request_line r xs 0) (λ k q. over k (block r n [] xs q))) end line count old new → Told (request r n xs) end line count old new
    request_whole t = rw request_parts t

    pub response_whole : {line : StatusLine} → Told (headed (status_line r xs 0) (λ k q. over k (block r n [] xs q))) end line count old new → Told (response r n xs) end line count old new
    response_whole t = rw response_parts t

pub ruleset calls = (request_whole, response_whole, told_block, head_on, head_stops)
