-- A header's name and the colon behind it (RFC 9112, 5), with the blanks that a setting lets stand between them (5.1).
-- Assumes nothing.
use Rattle.std.specs.Prelude.{ℕ, ◌+◌, ◌≤◌, ◌<◌, ◌≡◌, List, Bool, true, false, cond, eqb, length, get_or}
use Rattle.std.proofs.Common.{arith, sym, ap, ◌∙◌}
use Rattle.reader.specs.Machine.{keep, before, give, refuse, Step, run_at}
use Rattle.reader.specs.Judged.{pass, judged}
use Rattle.reader.specs.Seq.{Then, first, seq}
use Rattle.reader.specs.Skip.{Skipped}
use Rattle.reader.proofs.Skip.{skip}
use Rattle.reader.proofs.Laws.{run_in, run_out}
use Rattle.reader.specs.Answer.{Answer, got, short, bad, and}
use Rattle.reader.proofs.Answer.{and_same, answer_seq}
use Rattle.reader.specs.Chain.{nothing, reads, ended}
use Rattle.reader.proofs.Chain.{answer_ended}
use Rattle.octets.specs.Class.{is_token}
use Rattle.gaps.specs.Gap.{Behind, blanks_if, behind_gap}
use Rattle.gaps.proofs.Gap.{reads_behind}
use Rattle.rules.specs.Rules.{Rules}
use Rattle.parts.specs.declared.Error.TheVariants.{HeaderName}
use Rattle.parts.specs.declared.Fault.{Fault}
use Rattle.parts.specs.declared.Piece.{Piece}
use Rattle.parts.specs.Answers.{piece, fault}

-- no byte of the name yet, or one or more from a position on
pub data Token : Type 0 where
  none : Token
  some : ℕ → Token

-- one or more token bytes, up to the first that is none
abbrev pub token_step : Step Token Piece Fault
token_step none p b = cond (is_token b) (keep (some p)) (refuse (fault HeaderName p))
token_step (some a) p b = cond (is_token b) (keep (some a)) (before (piece a p))

abbrev pub is_colon : ℕ → Bool
is_colon b = eqb b 58

abbrev pub colon_step : Step (Unit {0}) (Unit {0}) Fault
colon_step s p b = cond (is_colon b) (give tt) (refuse (fault HeaderName p))

abbrev pub Colon : Type 0
Colon = Behind (Unit {0})

abbrev pub Name : Type 0
Name = Then Token Piece Colon

module _ (r : Rules) where
  -- what is passed over between a name and its colon
  abbrev pub before_colon : ℕ → Bool
  before_colon b = blanks_if r.spaces_after_name b

  abbrev pub gap_colon : Step Colon (Unit {0}) Fault
  gap_colon = behind_gap before_colon colon_step tt

  abbrev pub name_step : Step Name Piece Fault
  name_step = seq token_step (λ _. first tt) (λ n. judged (λ _. pass n) (λ e. e) gap_colon)

abbrev pub name : Rules → List ℕ → ℕ → Answer (Unit {0}) Piece Fault
name r xs at = reads (name_step r) (first none) xs at

module _ (r : Rules) (xs : List ℕ) (at : ℕ) where
  -- a name by its parts
  name_parts : name r xs at ≡ and (reads token_step none xs at) (λ n q. ended n (reads (gap_colon r) (first tt) xs q))
  name_parts =
      answer_seq nothing (λ _. nothing) token_step (λ _. first tt) (λ n. judged (λ _. pass n) (λ e. e) (gap_colon r)) none xs at
      ∙ and_same (reads token_step none xs at) (λ n q. answer_ended n (gap_colon r) (first tt) xs q)

  pub name_none : length xs ≤ at → short tt ≡ name r xs at
  name_none h = sym (name_parts ∙ rw (run_out token_step none xs at h))

  pub name_not : at < length xs → is_token (get_or xs at 0) ≡ false → bad (fault HeaderName at) ≡ name r xs at
  name_not h c = sym (name_parts ∙ rw (run_in token_step none xs at h, c))

  module _ {e : ℕ} (h : at < length xs) (c : is_token (get_or xs at 0) ≡ true) (k : Skipped is_token xs (at + 1) e) where
    token_some : run_at token_step none xs at ≡ run_at token_step (some at) xs e
    token_some =
        rw (run_in token_step none xs at h, c)
        (skip token_step is_token (some at) (λ q b t. rw t) xs (omega arith) k.passed)

    pub name_more : length xs ≤ e → short tt ≡ name r xs at
    name_more l = sym (name_parts ∙ rw (token_some, run_out token_step (some at) xs e l))

    -- the colon is looked for where what is passed over behind the name ends
    module _ (l : e < length xs) {q : ℕ} (g : Skipped (before_colon r) xs e q) where
      to_colon : name r xs at ≡ ended (piece at e) (reads colon_step tt xs q)
      to_colon = name_parts ∙ rw (token_some, run_in token_step (some at) xs e l, k.stop l) (ap (ended (piece at e)) (reads_behind g colon_step tt))

      pub colon_more : length xs ≤ q → short tt ≡ name r xs at
      colon_more u = sym (to_colon ∙ rw (run_out colon_step tt xs q u))

      pub colon_there : q < length xs → is_colon (get_or xs q 0) ≡ true → got (piece at e) (q + 1) ≡ name r xs at
      colon_there u t = sym (to_colon ∙ rw (run_in colon_step tt xs q u, t))

      pub colon_not : q < length xs → is_colon (get_or xs q 0) ≡ false → bad (fault HeaderName q) ≡ name r xs at
      colon_not u t = sym (to_colon ∙ rw (run_in colon_step tt xs q u, t))
