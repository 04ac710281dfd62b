-- A name up to its colon is read exactly where the grammar has a field name, what may stand behind it, and a colon.
-- Assumes nothing.
use Rattle.std.specs.Prelude.{ℕ, ◌+◌, ◌≤◌, ◌≡◌, refl, List, ◌∷◌, ◌++◌, Bool, true, false, length}
use Rattle.std.proofs.Common.{arith, sym, ap, ◌∙◌, append_assoc, length-append}
use Rattle.std.proofs.Math.Bool.{and-false}
use Rattle.reader.specs.Tests.{both_true}
use Rattle.octets.specs.Grammar.{IsBlank}
use Rattle.octets.specs.Class.{is_blank, is_token}
use Rattle.octets.proofs.Ties.{blank_is_blank}
use Rattle.octets.specs.Outside.{colon_no_blank, colon_no_token, token_no_blank}
use Rattle.rules.specs.Rules.{Rules}
use Rattle.gaps.specs.Gap.{blanks_if}
use Rattle.grammar.specs.Rows.{Many, none, more, Some, some}
use Rattle.grammar.specs.Fields.{IsFieldName}
use Rattle.grammar.specs.Message.{colon, IsBehindName}
use Rattle.grammar.specs.Message as grammar
use Rattle.parts.specs.declared.Piece.{Piece}
use Rattle.parts.specs.Answers.{piece}
use Rattle.leaves.specs.Rows.{In}
use Rattle.leaves.specs.Byte.{Byte, byte}
use Rattle.leaves.specs.Gap.{GapStops}
use Rattle.leaves.specs.Name.{Named}
use Rattle.agreement.specs.Rows.{many_as, tokens, in_token}
use Rattle.agreement.specs.Steps.{passed_is}

-- blanks that are allowed are blanks, and where some stand they are allowed
pub allowed_blanks : (allowed : Bool) {w : List ℕ} → Many (In (blanks_if allowed)) w → Many IsBlank w
allowed_blanks allowed = many_as (λ b h. (blank_is_blank b).0 (both_true allowed (is_blank b) h).1)

pub some_allowed : (allowed : Bool) (b : ℕ) → In (blanks_if allowed) b → allowed ≡ true
some_allowed allowed b h = (both_true allowed (is_blank b) h).0

pub in_allowed : (allowed : Bool) → allowed ≡ true → {w : List ℕ} → Some IsBlank w → Many (In (blanks_if allowed)) w
in_allowed allowed e (some {b = b} x k) = more {b = b} (rw (e, (blank_is_blank b).1 x)) (many_as (λ c h. rw (e, (blank_is_blank c).1 h)) k)

-- a byte that is no blank ends them
pub no_blank_stops : (allowed : Bool) (b : ℕ) (ys : List ℕ) → is_blank b ≡ false → GapStops (blanks_if allowed) (b ∷ ys)
no_blank_stops allowed b ys h = record { b = b; ys = ys; whole = refl; stops = rw h (and-false allowed) }

module _ (r : Rules) where
  pub behind_derived : {w : List ℕ} → Many (In (blanks_if r.spaces_after_name)) w → IsBehindName r w
  behind_derived none = grammar.IsBehindName.nothing
  behind_derived (more {b = b} h k) = grammar.IsBehindName.blanks (some_allowed r.spaces_after_name b h) (all (allowed_blanks r.spaces_after_name (more h k)))
    where
      all : {b : ℕ} {v : List ℕ} → Many IsBlank (b ∷ v) → Some IsBlank (b ∷ v)
      all (more x l) = some x l

  pub behind_read : {w : List ℕ} → IsBehindName r w → Many (In (blanks_if r.spaces_after_name)) w
  behind_read grammar.IsBehindName.nothing = none
  behind_read (grammar.IsBehindName.blanks h k) = in_allowed r.spaces_after_name h k

one_colon : {p : ℕ} {w rest : List ℕ} → Byte 58 p w tt rest → w ≡ colon
one_colon byte = refl

-- a name and what is behind it, in the grammar's words
pub record NameIs (r : Rules) (p : ℕ) (w : List ℕ) (a : Piece) : Type 0 where
  pub n : List ℕ
  pub s : List ℕ
  pub whole : w ≡ n ++ s ++ colon
  pub name : IsFieldName n
  pub behind : IsBehindName r s
  pub place : a ≡ piece p (p + length n)

pub name_derived : {r : Rules} {p : ℕ} {w : List ℕ} {a : Piece} {rest : List ℕ} → Named r p w a rest → NameIs r p w a
name_derived {r} K =
    let C = K.right.holds in
    record {
      n = K.w₁;
      s = C.w₁;
      whole = K.whole ∙ ap (λ y. K.w₁ ++ y) (C.whole ∙ ap (λ y. C.w₁ ++ y) (one_colon C.right)) ∙ sym (append_assoc K.w₁ C.w₁ colon);
      name = tokens K.left.kind;
      behind = behind_derived r C.left.all;
      place = passed_is K.right.passes ∙ K.left.place;
    }

-- neither a blank nor a colon is a token byte
pub blank_no_token : (b : ℕ) (t : Bool) → is_token b ≡ t → is_blank b ≡ true → t ≡ false
blank_no_token b true e h = sym (sym (token_no_blank b e) ∙ h)
blank_no_token b false e h = refl

token_stops : (r : Rules) {s : List ℕ} → IsBehindName r s → (rest : List ℕ) → GapStops is_token ((s ++ colon) ++ rest)
token_stops r grammar.IsBehindName.nothing rest = record { b = 58; ys = rest; whole = refl; stops = colon_no_token }
token_stops r (grammar.IsBehindName.blanks h (some {b = b} {w = w} x k)) rest = record { b = b; ys = (w ++ colon) ++ rest; whole = refl; stops = blank_no_token b (is_token b) refl ((blank_is_blank b).1 x) }

pub name_read : {r : Rules} (p : ℕ) {n s : List ℕ} (rest : List ℕ) → IsFieldName n → IsBehindName r s → Named r p (n ++ s ++ colon) (piece p (p + length n)) rest
name_read {r} p {n} {s} rest k h = record {
  w₁ = n;
  w₂ = s ++ colon;
  a = piece p (p + length n);
  left = record { kind = in_token k; place = refl; stops = token_stops r h rest };
  right = record { a = tt; holds = record { w₁ = s; w₂ = colon; a = tt; left = record { all = behind_read r h; stops = no_blank_stops r.spaces_after_name 58 rest colon_no_blank }; right = byte; whole = refl }; passes = refl };
  whole = append_assoc n s colon;
}

-- a name's piece ends before its colon does
pub name_in : (r : Rules) {p : ℕ} {w : List ℕ} {a : Piece} {rest : List ℕ} → Named r p w a rest → a.offset + a.length ≤ p + length w
name_in r {p} {w} K =
    let N : NameIs r p w _ = name_derived K in
    let l : length w ≡ length (N.n ++ N.s) + 1 = ap length N.whole ∙ length-append (N.n ++ N.s) colon in
    rw N.place (omega (arith, l, length-append N.n N.s))
