-- When the lines around a start line may be by some rules whatever they may be by others: what is derived by these is then derived by those, where
-- lines that these pass over are nothing else by those.
-- Assumes nothing.
use Rattle.std.specs.Prelude.{ℕ, ◌≡◌, refl, List, ◌∷◌, Bool, true, false}
use Rattle.reader.specs.Tests.{clash}
use Rattle.octets.specs.Grammar.{IsBlank}
use Rattle.octets.specs.Class.{is_blank}
use Rattle.octets.proofs.Ties.{blank_is_blank, token_is_tchar}
use Rattle.octets.specs.Outside.{differs, cr_no_blank, lf_no_blank, token_no_blank}
use Rattle.rules.specs.Rules.{Rules}
use Rattle.grammar.specs.Rows.{some}
use Rattle.grammar.specs.Fields.{Field}
use Rattle.grammar.specs.Message.{IsLineEnd, crlf, lf, IsEmptyLines, IsBehindName, IsObsFold, fold, IsAroundValue, IsWithinValue, IsValueLines, IsFieldLine, IsBeforeFirstName, IsIgnoredLine, NoFoldLeft, IsHeaderBlock, head}
use Rattle.grammar.specs.Message as grammar
use Rattle.leniency.specs.Allows.{KeptIgnored, LinesAllowed, NoMoreBlanks}

-- no line's end begins with a blank, and behind a field no block does, unless a line is passed over
no_blank_end : {r : Rules} {e : List ℕ} → IsLineEnd r e → (c : ℕ) (u : List ℕ) → e ≡ c ∷ u → IsBlank c → ⊥
no_blank_end crlf c u e h = let same : c ≡ 0x0D = cc in differs is_blank cr_no_blank ((blank_is_blank c).1 h) same
no_blank_end (lf t) c u e h = let same : c ≡ 0x0A = cc in differs is_blank lf_no_blank ((blank_is_blank c).1 h) same

pub no_blank_block : {r : Rules} {b : List ℕ} {fs : List Field} → r.ignore_invalid_headers ≡ false → IsHeaderBlock r false b fs → (c : ℕ) (u : List ℕ) → b ≡ c ∷ u → IsBlank c → ⊥
no_blank_block off (grammar.IsHeaderBlock.end grammar.IsBeforeFirstName.nothing d) c u e h = no_blank_end d c u e h
no_blank_block off (grammar.IsHeaderBlock.field grammar.IsBeforeFirstName.nothing (grammar.IsFieldLine.line (some {b = b} x k) a o v t) d i j) c u e h = let same : c ≡ b = cc in differs is_blank (token_no_blank b ((token_is_tchar b).1 x)) ((blank_is_blank c).1 h) same
no_blank_block off (grammar.IsHeaderBlock.ignored t x l i j) c u e h = clash t off

module _ {r s : Rules} (lf_too : r.lf_alone ≡ true → s.lf_alone ≡ true) where
  pub line_end_as : {w : List ℕ} → IsLineEnd r w → IsLineEnd s w
  line_end_as crlf = crlf
  line_end_as (lf t) = lf (lf_too t)

  pub empty_lines_as : {w : List ℕ} → (r.empty_lines ≡ true → s.empty_lines ≡ true) → IsEmptyLines r w → IsEmptyLines s w
  empty_lines_as f grammar.IsEmptyLines.none = grammar.IsEmptyLines.none
  empty_lines_as f (grammar.IsEmptyLines.more t e k) = grammar.IsEmptyLines.more (f t) (line_end_as e) (empty_lines_as f k)

module _ {r s : Rules} (allowed : LinesAllowed r s) where
  behind_as : {w : List ℕ} → IsBehindName r w → IsBehindName s w
  behind_as grammar.IsBehindName.nothing = grammar.IsBehindName.nothing
  behind_as (grammar.IsBehindName.blanks t k) = grammar.IsBehindName.blanks (allowed.spaces_after_name t) k

  fold_as : {w : List ℕ} → IsObsFold r w → IsObsFold s w
  fold_as (fold t e b) = fold (allowed.multiline_headers t) (line_end_as allowed.lf_alone e) b

  around_as : {w : List ℕ} → IsAroundValue r w → IsAroundValue s w
  around_as grammar.IsAroundValue.none = grammar.IsAroundValue.none
  around_as (grammar.IsAroundValue.more b k) = grammar.IsAroundValue.more b (around_as k)
  around_as (grammar.IsAroundValue.folded f k) = grammar.IsAroundValue.folded (fold_as f) (around_as k)

  within_as : {w : List ℕ} → IsWithinValue r w → IsWithinValue s w
  within_as grammar.IsWithinValue.none = grammar.IsWithinValue.none
  within_as (grammar.IsWithinValue.more b k) = grammar.IsWithinValue.more b (within_as k)
  within_as (grammar.IsWithinValue.folded f k) = grammar.IsWithinValue.folded (fold_as f) (within_as k)

  value_as : {w : List ℕ} → IsValueLines r w → IsValueLines s w
  value_as (grammar.IsValueLines.one k) = grammar.IsValueLines.one k
  value_as (grammar.IsValueLines.several t b m c) = grammar.IsValueLines.several (allowed.multiline_headers t) b (within_as m) c

  field_as : {w : List ℕ} {f : Field} → IsFieldLine r w f → IsFieldLine s w f
  field_as (grammar.IsFieldLine.line n a o v t) = grammar.IsFieldLine.line n (behind_as a) (around_as o) (value_as v) (around_as t)

  before_as : {first : Bool} {w : List ℕ} → IsBeforeFirstName r first w → IsBeforeFirstName s first w
  before_as grammar.IsBeforeFirstName.nothing = grammar.IsBeforeFirstName.nothing
  before_as (grammar.IsBeforeFirstName.blanks t k) = grammar.IsBeforeFirstName.blanks (allowed.space_before_first_name t) k

  ignored_as : {w : List ℕ} → NoMoreBlanks r s → IsIgnoredLine r w → IsIgnoredLine s w
  ignored_as same (grammar.IsIgnoredLine.no_name x i u e) = grammar.IsIgnoredLine.no_name x i u (line_end_as allowed.lf_alone e)
  ignored_as same (grammar.IsIgnoredLine.no_colon n a x u e) =
      grammar.IsIgnoredLine.no_colon n (behind_as a) (λ c v q. let h = x c v q in (h.0, h.1, λ on. h.2 (same.spaces_after_name on))) u (line_end_as allowed.lf_alone e)
  ignored_as same (grammar.IsIgnoredLine.no_value n a m x i u e) = grammar.IsIgnoredLine.no_value n (behind_as a) (within_as m) x i u (line_end_as allowed.lf_alone e)

  module _ (kept : KeptIgnored r s) where
    fold_left_as : {b : List ℕ} {fs : List Field} → IsHeaderBlock r false b fs → NoFoldLeft r b → NoFoldLeft s b
    fold_left_as {b} k left on = by r.ignore_invalid_headers refl
      where
        by : (t : Bool) → r.ignore_invalid_headers ≡ t → (c : ℕ) (u : List ℕ) → b ≡ c ∷ u → IsBlank c → ⊥
        by true t = left ((kept t).multiline_headers on)
        by false off = no_blank_block off k

    pub block_as : {first : Bool} {w : List ℕ} {fs : List Field} → IsHeaderBlock r first w fs → IsHeaderBlock s first w fs
    block_as (grammar.IsHeaderBlock.end a e) = grammar.IsHeaderBlock.end (before_as a) (line_end_as allowed.lf_alone e)
    block_as (grammar.IsHeaderBlock.field a f e o b) = grammar.IsHeaderBlock.field (before_as a) (field_as f) (line_end_as allowed.lf_alone e) (fold_left_as b o) (block_as b)
    block_as (grammar.IsHeaderBlock.ignored t a l o b) = grammar.IsHeaderBlock.ignored (allowed.ignore_invalid_headers t) (before_as a) (ignored_as (kept t) l) (λ on. o ((kept t).space_before_first_name on)) (block_as b)

    -- where the start line is by B whatever it is by A
    pub head_as : {L : Type 0} {A B : List ℕ → L → Type 0} {w : List ℕ} {l k : L} {fs : List Field} → ((v : List ℕ) → A v l → B v k) → head r A w l fs → head s B w k fs
    head_as f (grammar.head.message {w = v} e l c b) = grammar.head.message (empty_lines_as allowed.lf_alone allowed.empty_lines e) (f v l) (line_end_as allowed.lf_alone c) (block_as b)
