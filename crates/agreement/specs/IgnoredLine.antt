-- A line is passed over exactly where the grammar has an ignored line.
-- Assumes nothing.
use Rattle.std.specs.Prelude.{ℕ, ◌+◌, ◌≡◌, refl, List, [], ◌∷◌, ◌++◌, Bool, true, false, ◌&&◌, ◌||◌, length}
use Rattle.std.proofs.Common.{sym, ap, subst, ◌∙◌, append_assoc, ne_eqb}
use Rattle.std.proofs.Math.Bool.{and-false}
use Rattle.reader.specs.Tests.{clash, never}
use Rattle.exact.specs.Branch.{other}
use Rattle.octets.specs.Grammar.{IsTchar, IsBlank}
use Rattle.octets.specs.Class.{is_token}
use Rattle.octets.proofs.Ties.{blank_is_blank, token_is_tchar}
use Rattle.octets.specs.Outside.{differs_test, cr_no_token, lf_no_token, cr_no_blank, lf_no_blank}
use Rattle.rules.specs.Rules.{Rules}
use Rattle.grammar.specs.Rows.{Many, none, more, some}
use Rattle.grammar.specs.Fields.{IsFieldName}
use Rattle.grammar.specs.Message.{IsLineEnd, crlf, lf, colon, IsIgnorable, IsIgnoredLine}
use Rattle.grammar.specs.Message as grammar
use Rattle.ignored.specs.Rest.{is_ignorable}
use Rattle.ignored.proofs.RestOfLine.{nul_stops, cr_stops, lf_stops, others_pass}
use Rattle.fields.specs.Line.{ignored, ends}
use Rattle.leaves.specs.Rows.{In}
use Rattle.leaves.specs.Gap.{GapStops}
use Rattle.agreement.specs.Rows.{many_as}
use Rattle.agreement.specs.Wrong.{Stray, LineWrongIs, no_name, no_colon, no_value}
use Rattle.agreement.specs.Tried.{RestIs, wrong}
use Rattle.agreement.specs.Line.{Lined}

-- the bytes that may be passed over
is_ignorable_lem : (b : ℕ) → is_ignorable b ≡ true → IsIgnorable b
is_ignorable_lem b h = record { no_nul = λ e. clash h (nul_stops e); no_cr = λ e. clash h (cr_stops e); no_lf = λ e. clash h (lf_stops e) }

pub in_ignorable : (b : ℕ) → IsIgnorable b → is_ignorable b ≡ true
in_ignorable b i = others_pass i.no_nul i.no_cr i.no_lf

-- a line's end stops them, and begins with no byte that a name, blanks or a colon begin with
rest_stops : {r : Rules} {e : List ℕ} → IsLineEnd r e → (rest : List ℕ) → GapStops is_ignorable (e ++ rest)
rest_stops crlf rest = record { b = 13; ys = 10 ∷ rest; whole = refl; stops = cr_stops refl }
rest_stops (lf h) rest = record { b = 10; ys = rest; whole = refl; stops = lf_stops refl }

pub token_no_end : (r : Rules) (b : ℕ) → is_token b ≡ true → ends r b ≡ false
token_no_end r b t = rw (differs_test is_token b 13 cr_no_token t, differs_test is_token b 10 lf_no_token t) (and-false r.lf_alone)

pub ignorable_no_end : (r : Rules) (b : ℕ) → IsIgnorable b → ends r b ≡ false
ignorable_no_end r b i = rw (ne_eqb b 13 i.no_cr, ne_eqb b 10 i.no_lf) (and-false r.lf_alone)

-- the first byte of a line's end, if it is this one
end_first : {r : Rules} {e : List ℕ} (rest : List ℕ) (c : ℕ) {ys : List ℕ} → IsLineEnd r e → e ++ rest ≡ c ∷ ys → ends r c ≡ true
end_first {r} rest c crlf i = let h : 13 ≡ c = cc in ap (ends r) (sym h)
end_first {r} rest c (lf l) i = let h : 10 ≡ c = cc in ap (ends r) (sym h) ∙ ap (λ y. false || (y && true)) l

-- a wrong byte that begins no line's end is passed over with what follows it
wrong_first : {r : Rules} {u e : List ℕ} (rest : List ℕ) (c : ℕ) (ys : List ℕ) → ends r c ≡ false → (u ++ e) ++ rest ≡ c ∷ ys → Many (In is_ignorable) u → IsLineEnd r e → (v : List ℕ) × (u ≡ c ∷ v) × IsIgnorable c × Many IsIgnorable v
wrong_first rest c ys t i none d = absurd (clash (end_first rest c d i) t)
wrong_first rest c ys t i (more {b = b} {w = w} x k) d = let same : b ≡ c = cc in (w, ap (λ y. y ∷ w) same, is_ignorable_lem c (ap is_ignorable (sym same) ∙ x), many_as is_ignorable_lem k)

stray_no_end : (r : Rules) (c : ℕ) → Stray r c → ends r c ≡ false
stray_no_end r c q = by r.lf_alone refl
  where
    by : (t : Bool) → r.lf_alone ≡ t → ends r c ≡ false
    by true h = rw (ne_eqb c 13 q.no_cr, ne_eqb c 10 (q.no_lf h)) (and-false r.lf_alone)
    by false h = rw (ne_eqb c 13 q.no_cr, h)

module _ {r : Rules} where
  line_by : {w₁ u e : List ℕ} (rest : List ℕ) (b : ℕ) (bs : List ℕ) → (w₁ ++ (u ++ e)) ++ rest ≡ b ∷ bs → ends r b ≡ false → LineWrongIs r w₁ ((u ++ e) ++ rest) → Many (In is_ignorable) u → IsLineEnd r e → IsIgnoredLine r (w₁ ++ (u ++ e))
  line_by {w₁} {u} {e} rest b bs whole t (no_name c ys z i h) k d =
      let same : b ∷ bs ≡ c ∷ ys = sym whole ∙ ap (λ y. (y ++ (u ++ e)) ++ rest) z ∙ i in
      let c_is : b ≡ c = cc in
      let U = wrong_first rest c ys (ap (ends r) (sym c_is) ∙ t) i k d in
      subst (IsIgnoredLine r) (ap (λ y. y ++ e) (sym U.1) ∙ ap (λ y. y ++ (u ++ e)) (sym z)) (grammar.IsIgnoredLine.no_name h U.2 U.3 d)
  line_by {w₁} {u} {e} rest b bs whole t (no_colon n s c ys z i name behind f g h) k d =
      subst (λ y. IsIgnoredLine r (y ++ (u ++ e))) (sym z)
      (grammar.IsIgnoredLine.no_colon name behind
      (λ c' v j.
      let same : c' ∷ ((v ++ e) ++ rest) ≡ c ∷ ys = ap (λ y. (y ++ e) ++ rest) (sym j) ∙ i in
      let c_is : c ≡ c' = cc in
      (λ x. f (c_is ∙ x), λ x y. g x (subst IsTchar (sym c_is) y), λ x y. h x (subst IsBlank (sym c_is) y)))
      (many_as is_ignorable_lem k) d)
  line_by {w₁} {u} {e} rest b bs whole t (no_value n s m c ys z i name behind within q) k d =
      let U = wrong_first rest c ys (stray_no_end r c q) i k d in
      subst (IsIgnoredLine r) (ap (λ y. n ++ s ++ colon ++ m ++ (y ++ e)) (sym U.1) ∙ ap (λ y. y ++ (u ++ e)) (sym z)) (grammar.IsIgnoredLine.no_value name behind within q.no_text U.2 U.3 d)

  pub ignored_derived : {p : ℕ} {w₁ w₂ : List ℕ} (rest : List ℕ) (b : ℕ) (bs : List ℕ) → (w₁ ++ w₂) ++ rest ≡ b ∷ bs → ends r b ≡ false → LineWrongIs r w₁ (w₂ ++ rest) → RestIs r p w₂ tt rest → IsIgnoredLine r (w₁ ++ w₂)
  ignored_derived {w₁ = w₁} rest b bs whole t W R =
      subst (λ y. IsIgnoredLine r (w₁ ++ y)) (sym R.whole)
      (line_by rest b bs (ap (λ y. (w₁ ++ y) ++ rest) (sym R.whole) ∙ whole) t (subst (λ y. LineWrongIs r w₁ (y ++ rest)) R.whole W) R.left.all R.right)

-- the other way: the bytes u of a line and its end e are passed over
rest_read : {r : Rules} (p : ℕ) {u e : List ℕ} (rest : List ℕ) → Many IsIgnorable u → IsLineEnd r e → RestIs r p (u ++ e) tt rest
rest_read p {u} {e} rest k d = record { w₁ = u; w₂ = e; a = tt; left = record { all = many_as in_ignorable k; stops = rest_stops d rest }; right = d; whole = refl }

name_begins : (r : Rules) {n : List ℕ} → IsFieldName n → (w : List ℕ) → (b : ℕ) × (bs : List ℕ) × (n ++ w ≡ b ∷ bs) × (ends r b ≡ false)
name_begins r (some {b = b} {w = n} x k) w = (b, n ++ w, refl, token_no_end r b ((token_is_tchar b).1 x))

-- the first byte behind a name that has no colon
byte_next : {r : Rules} {s u e : List ℕ} (rest : List ℕ) → grammar.NoColonNext r s u → IsLineEnd r e → (c : ℕ) × (ys : List ℕ) × ((u ++ e) ++ rest ≡ c ∷ ys) × (c ≡ 0x3A → ⊥) × (s ≡ [] → IsTchar c → ⊥) × (r.spaces_after_name ≡ true → IsBlank c → ⊥)
byte_next {u = []} rest f crlf = (13, 10 ∷ rest, refl, (λ e. never cc), (λ _ x. clash ((token_is_tchar 13).1 x) cr_no_token), (λ _ x. clash ((blank_is_blank 13).1 x) cr_no_blank))
byte_next {u = []} rest f (lf h) = (10, rest, refl, (λ e. never cc), (λ _ x. clash ((token_is_tchar 10).1 x) lf_no_token), (λ _ x. clash ((blank_is_blank 10).1 x) lf_no_blank))
byte_next {u = c ∷ u} {e = e} rest f d = let g = f c u refl in (c, (u ++ e) ++ rest, refl, g.0, g.1, g.2)

pub ignored_read : {r : Rules} (p : ℕ) {w : List ℕ} (rest : List ℕ) → r.ignore_invalid_headers ≡ true → IsIgnoredLine r w → Lined r p w ignored rest
ignored_read {r} p rest o (grammar.IsIgnoredLine.no_name {c = c} {u = u} {e = e} h i k d) =
    other c ((u ++ e) ++ rest) refl (ignorable_no_end r c i) (wrong [] ((c ∷ u) ++ e) o refl (no_name c ((u ++ e) ++ rest) refl refl h) (rest_read (p + 0) rest (more i k) d) refl)
ignored_read {r} p rest o (grammar.IsIgnoredLine.no_colon {n = n} {s = s} {u = u} {e = e} name behind f k d) =
    let B = name_begins r name (s ++ ((u ++ e) ++ rest)) in
    let C = byte_next rest f d in
    let whole : (n ++ s ++ (u ++ e)) ++ rest ≡ n ++ (s ++ ((u ++ e) ++ rest)) = append_assoc (n ++ s) (u ++ e) rest ∙ append_assoc n s ((u ++ e) ++ rest) in
    other B.0 B.1 (whole ∙ B.2) B.3 (wrong (n ++ s) (u ++ e) o refl (no_colon n s C.0 C.1 refl C.2 name behind C.3 C.4 C.5) (rest_read (p + length (n ++ s)) rest k d) refl)
ignored_read {r} p rest o (grammar.IsIgnoredLine.no_value {n = n} {s = s} {m = m} {u = u} {e = e} {c = c} name behind within h i k d) =
    let v : List ℕ = (c ∷ u) ++ e in
    let B = name_begins r name (s ++ (colon ++ (m ++ (v ++ rest)))) in
    let whole : (n ++ s ++ colon ++ m ++ v) ++ rest ≡ n ++ (s ++ (colon ++ (m ++ (v ++ rest)))) = append_assoc (n ++ s ++ colon ++ m) v rest ∙ append_assoc (n ++ s ++ colon) m (v ++ rest) ∙ append_assoc (n ++ s) colon (m ++ (v ++ rest)) ∙ append_assoc n s (colon ++ (m ++ (v ++ rest))) in
    let q : Stray r c = record { no_text = h; no_cr = i.no_cr; no_lf = λ _. i.no_lf } in
    other B.0 B.1 (whole ∙ B.2) B.3 (wrong (n ++ s ++ colon ++ m) v o refl (no_value n s m c ((u ++ e) ++ rest) refl refl name behind within q) (rest_read (p + length (n ++ s ++ colon ++ m)) rest (more i k) d) refl)
