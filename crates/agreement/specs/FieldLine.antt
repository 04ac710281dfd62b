-- A line of a block is read exactly where the grammar has a field line, an empty line or one that is passed over, and its pieces hold the field.
-- Assumes nothing.
use Rattle.std.specs.Prelude.{ℕ, ◌+◌, ◌≤◌, ◌≡◌, refl, List, ◌∷◌, ◌++◌, Bool, true, false, ◌&&◌, ◌||◌, length}
use Rattle.std.proofs.Common.{arith, sym, ap, subst, ◌∙◌, append_assoc, length-append}
use Rattle.reader.specs.Tests.{never}
use Rattle.exact.specs.Branch.{one, other}
use Rattle.octets.proofs.Ties.{token_is_tchar}
use Rattle.rules.specs.Rules.{Rules}
use Rattle.grammar.specs.Rows.{some}
use Rattle.grammar.specs.Fields.{Field}
use Rattle.grammar.specs.Message.{IsLineEnd, crlf, lf, IsFieldLine, IsIgnoredLine, colon}
use Rattle.grammar.specs.Message as grammar
use Rattle.parts.specs.declared.Piece.{Piece}
use Rattle.parts.specs.Answers.{piece}
use Rattle.fields.specs.declared.Header.{Header}
use Rattle.fields.specs.Line.{Kind, header, end, ignored, named}
use Rattle.agreement.specs.Tried.{good, wrong}
use Rattle.agreement.specs.IgnoredLine.{token_no_end, ignored_derived}
use Rattle.agreement.specs.Line.{Fielded, Lined}
use Rattle.agreement.specs.Places.{held, At, at_as, at_first, at_second, held_at}
use Rattle.agreement.specs.Steps.{passed_is}
use Rattle.agreement.specs.Names.{NameIs, name_derived, name_read, name_in}
use Rattle.agreement.specs.Folded.{NoBlank, lines_derived, lines_read, lines_in}

-- the field that a header's pieces hold
abbrev pub field_of : List ℕ → Header → Field
field_of z h = record { name = held z h.name; value = held z h.value }

-- where a value may go on over several lines, the line behind its end begins with no blank
abbrev pub NoMore : Rules → List ℕ → Type 0
NoMore r rest = r.multiline_headers ≡ true → NoBlank rest

-- a line in the grammar's words
pub data LineIs (z : List ℕ) (r : Rules) (w : List ℕ) (k : Kind) (rest : List ℕ) : Type 0 where
  ended : k ≡ end → IsLineEnd r w → LineIs z r w k rest
  field : (h : Header) (l e : List ℕ) → k ≡ header h → w ≡ l ++ e → IsFieldLine r l (field_of z h) → IsLineEnd r e → NoMore r rest → LineIs z r w k rest
  passed : k ≡ ignored → r.ignore_invalid_headers ≡ true → IsIgnoredLine r w → LineIs z r w k rest

-- name, what is behind it, colon, value with what is around it, line end, in two ways of grouping
regroup : (n s c o v t e : List ℕ) → (n ++ s ++ c) ++ ((o ++ v ++ t) ++ e) ≡ n ++ s ++ c ++ o ++ v ++ t ++ e
regroup n s c o v t e = simp append_assoc

module _ {z : List ℕ} {r : Rules} {p : ℕ} {rest : List ℕ} where
  fielded : {w : List ℕ} {k : Kind} → At z p w rest → Fielded r p w k rest → LineIs z r w k rest
  fielded {w = w} {k = k} h K =
      let N = name_derived K.left in
      let second = K.right in
      let h₁ = at_as K.whole h in
      let S = lines_derived (at_second K.w₁ K.w₂ h₁) second.holds in
      let n = N.n in
      let l = n ++ N.s ++ colon ++ S.o ++ S.v ++ S.t in
      let named_n : held z K.a ≡ n = ap (held z) N.place ∙ held_at (at_first n (N.s ++ colon) (at_as (N.whole ∙ append_assoc n N.s colon) (at_first K.w₁ K.w₂ h₁))) in
      let kind : k ≡ named K.a second.a = passed_is second.passes in
      let whole : w ≡ l ++ S.e = K.whole ∙ ap (λ y. y ++ K.w₂) N.whole ∙ ap (λ y. (n ++ N.s ++ colon) ++ y) S.whole ∙ regroup n N.s colon S.o S.v S.t S.e in
      field (record { name = K.a; value = second.a }) l S.e kind whole
      (subst (λ y. IsFieldLine r l y) (ap (λ y. record { name = y; value = S.v }) (sym named_n) ∙ ap (λ y. record { name = held z K.a; value = y }) (sym S.holds)) (grammar.IsFieldLine.line N.name N.behind S.left S.value S.right))
      S.ends S.next

  pub line_derived : {w : List ℕ} {k : Kind} → At z p w rest → Lined r p w k rest → LineIs z r w k rest
  line_derived {k = k} h (one b bs e t K) = let kind : k ≡ end = cc in ended kind K.holds
  line_derived h (other b bs e t (good K)) = fielded h K
  line_derived h (other b bs e t (wrong w₁ w₂ o i W R j)) = passed j o (subst (IsIgnoredLine r) (sym i) (ignored_derived rest b bs (ap (λ y. y ++ rest) (sym i) ∙ e) t W R))

-- the header that is given for a field line
pub record HeaderRead (z : List ℕ) (r : Rules) (p : ℕ) (w : List ℕ) (f : Field) (rest : List ℕ) : Type 0 where
  pub h : Header
  pub reads : Lined r p w (header h) rest
  pub holds : field_of z h ≡ f

module _ {z : List ℕ} {r : Rules} {p : ℕ} {rest : List ℕ} where
  pub field_read : {l e : List ℕ} {f : Field} → At z p (l ++ e) rest → IsFieldLine r l f → IsLineEnd r e → NoMore r rest → HeaderRead z r p (l ++ e) f rest
  field_read {e = e} h (grammar.IsFieldLine.line {n = n} {s = s} {o = o} {v = v} {t = t} (some {b = b} {w = m} x k) behind left value right) d over =
      let same : n ++ s ++ colon ++ o ++ v ++ t ++ e ≡ (n ++ s ++ colon) ++ ((o ++ v ++ t) ++ e) = sym (regroup n s colon o v t e) in
      let h₁ = at_as same h in
      let h₂ = at_second (n ++ s ++ colon) ((o ++ v ++ t) ++ e) h₁ in
      let G = lines_read h₂ left value right d over in
      let named_n : held z (piece p (p + length n)) ≡ n = held_at (at_first n (s ++ colon) (at_as (append_assoc n s colon) (at_first (n ++ s ++ colon) ((o ++ v ++ t) ++ e) h₁))) in
      let K : Fielded r p (n ++ s ++ colon ++ o ++ v ++ t ++ e) (named (piece p (p + length n)) G.a) rest =
      record {
        w₁ = n ++ s ++ colon;
        w₂ = (o ++ v ++ t) ++ e;
        a = piece p (p + length n);
        left = name_read p (((o ++ v ++ t) ++ e) ++ rest) (some x k) behind;
        right = record { a = G.a; holds = G.reads; passes = refl };
        whole = same;
      } in
      record {
        h = record { name = piece p (p + length n); value = G.a };
        reads = other b (m ++ s ++ colon ++ o ++ v ++ t ++ e ++ rest) refl (token_no_end r b ((token_is_tchar b).1 x)) (good K);
        holds = ap (λ y. record { name = y; value = held z G.a }) named_n ∙ ap (λ y. record { name = n; value = y }) G.holds;
      }

-- an empty line, by its first byte
ends_lf : (t : Bool) → t ≡ true → (false || (t && true)) ≡ true
ends_lf t h = rw h

pub end_read : {r : Rules} {p : ℕ} {e rest : List ℕ} → IsLineEnd r e → Lined r p e end rest
end_read {r} {rest = rest} crlf = one 13 (10 ∷ rest) refl refl (record { a = tt; holds = crlf; passes = refl })
end_read {r} {rest = rest} (lf h) = one 10 rest refl (ends_lf r.lf_alone h) (record { a = tt; holds = lf h; passes = refl })

-- a piece ends within the first e bytes
abbrev pub PieceIn : ℕ → Piece → Type 0
PieceIn e a = a.offset + a.length ≤ e

abbrev pub HeaderIn : ℕ → Header → Type 0
HeaderIn e h = PieceIn e h.name × PieceIn e h.value

kind_name : {h : Header} {n v : Piece} → header h ≡ named n v → h.name ≡ n
kind_name e = cc

kind_value : {h : Header} {n v : Piece} → header h ≡ named n v → h.value ≡ v
kind_value e = cc

-- a header's name begins where its line does
pub name_first : (r : Rules) {p : ℕ} {w rest : List ℕ} {h : Header} → Lined r p w (header h) rest → h.name.offset ≡ p
name_first r (one b bs e t K) = never cc
name_first r (other b bs e t (wrong w₁ w₂ o i W R j)) = never cc
name_first r {p} {h = h} (other b bs e t (good K)) =
    let same : header h ≡ named K.a K.right.a = passed_is K.right.passes in
    let N : NameIs r p K.w₁ K.a = name_derived K.left in
    ap (λ (y : Piece). y.offset) (kind_name same ∙ N.place)

-- where a line is a header's, its pieces are those that were read
pub line_in : {r : Rules} {p : ℕ} {w rest : List ℕ} {h : Header} → Lined r p w (header h) rest → HeaderIn (p + length w) h
line_in (one b bs e t K) = never cc
line_in (other b bs e t (wrong w₁ w₂ o i W R j)) = never cc
line_in {r} {p = p} {w = w} {h = h} (other b bs e t (good K)) =
    let same : header h ≡ named K.a K.right.a = passed_is K.right.passes in
    let l : length w ≡ length K.w₁ + length K.w₂ = ap length K.whole ∙ length-append K.w₁ K.w₂ in
    let i = name_in r K.left in
    let j = lines_in K.right.holds in
    (subst (PieceIn (p + length w)) (sym (kind_name same)) (omega (arith, i, l)), subst (PieceIn (p + length w)) (sym (kind_value same)) (omega (arith, j, l)))
