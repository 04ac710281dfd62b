-- Where a byte is wrong in a field line, in the grammar's words: no name begins, no colon stands behind it, or a byte can't stand in a value.
-- Assumes nothing.
use Rattle.std.specs.Prelude.{ℕ, zero, suc, ◌+◌, ◌≤◌, ◌≡◌, refl, ◌⊎◌, List, [], ◌∷◌, ◌++◌, Bool, true, false, ◌&&◌, eqb, length}
use Rattle.std.proofs.Common.{arith, sym, ap, subst, ◌∙◌, inl, inr, append_assoc, append-nil, length-append, eqb-true, eq-eqb, ne_eqb}
use Rattle.reader.specs.Judged.{Verdict, pass, judged}
use Rattle.reader.specs.Seq.{first}
use Rattle.reader.specs.Loop.{Turn, again}
use Rattle.reader.specs.Branch.{fresh}
use Rattle.reader.specs.Tests.{clash, never, both_true}
use Rattle.exact.specs.Exact.{Relation}
use Rattle.exact.specs.Branch.{one, other}
use Rattle.exact.specs.Refusing.{Refusing, Either, early, late, LapsTo, here, next}
use Rattle.exact.proofs.Refusing.{refusing_judged, refusing_seq}
use Rattle.octets.specs.Grammar.{IsTchar, IsBlank, IsText}
use Rattle.octets.specs.Class.{is_blank, is_token, is_value}
use Rattle.octets.specs.Outside.{cr_no_blank, lf_no_blank}
use Rattle.octets.proofs.Ties.{blank_is_blank, token_is_tchar, value_is_text}
use Rattle.rules.specs.Rules.{Rules}
use Rattle.grammar.specs.Rows.{Many, none, more, some}
use Rattle.grammar.specs.Fields.{IsFieldName}
use Rattle.grammar.specs.Message.{IsLineEnd, colon, IsBehindName, IsObsFold, IsWithinValue}
use Rattle.grammar.specs.Message as grammar
use Rattle.parts.specs.declared.Error.TheVariants.{HeaderName, HeaderValue}
use Rattle.parts.specs.declared.Fault.{Fault}
use Rattle.parts.specs.declared.Piece.{Piece}
use Rattle.parts.specs.Answers.{fault, piece}
use Rattle.names.specs.Name as names
use Rattle.folds.specs.Folded.{joined, turn, nothing_yet, lines_step}
use Rattle.fields.specs.Line.{named, field_step}
use Rattle.leaves.specs.Gap.{GapStops}
use Rattle.leaves.specs.Name.{Named, exact_name}
use Rattle.leaves.specs.Value.{Valued, empty, full, Core, Stop}
use Rattle.leaves.specs.Value as values
use Rattle.leaves.specs.Folded.{LapValued, end_longer}
use Rattle.leaves.specs.Wrong.{NameWrong, refusing_name, no_end, bare_cr, LineWrong, LapWrong, LinesWrong, refusing_lines}
use Rattle.agreement.specs.Rows.{many_as, many_append, tokens, in_token, texts, in_value}
use Rattle.agreement.specs.Names.{NameIs, name_derived, name_read, behind_derived, behind_read, blank_no_token}
use Rattle.agreement.specs.Around.{within_append}
use Rattle.agreement.specs.SoFar.{any_value}
use Rattle.agreement.specs.Folded.{end_stops}

-- a byte that neither stands in a value nor begins a line's end
pub record Stray (r : Rules) (c : ℕ) : Type 0 where
  pub no_text : IsText c → ⊥
  pub no_cr : c ≡ 0x0D → ⊥
  pub no_lf : r.lf_alone ≡ true → c ≡ 0x0A → ⊥

-- what stands before the byte that is wrong in a value, and that byte: a CR, if it is the LF that is missing
pub data ValueWrong (r : Rules) (w rest : List ℕ) : Type 0 where
  value : (c : ℕ) (ys : List ℕ) → rest ≡ c ∷ ys → IsWithinValue r w → Stray r c → ValueWrong r w rest
  cr : (u : List ℕ) (c : ℕ) (ys : List ℕ) → w ≡ u ++ (0x0D ∷ []) → rest ≡ c ∷ ys → (c ≡ 0x0A → ⊥) → ValueWrong r w rest

-- rows of text stand within a value
texts_within : (r : Rules) {w : List ℕ} → Many IsText w → IsWithinValue r w
texts_within r none = grammar.IsWithinValue.none
texts_within r (more x k) = grammar.IsWithinValue.more x (texts_within r k)

core_values : {v : List ℕ} → Core v → Many (λ b. is_value b ≡ true) v
core_values (values.one s) = more s.value none
core_values (values.two {m = m} s k t) = more s.value (many_append k (more t.value none))

blank_values : {w : List ℕ} → Many (λ b. is_blank b ≡ true) w → Many (λ b. is_value b ≡ true) w
blank_values = many_as (λ b h. (value_is_text b).1 (IsText.white ((blank_is_blank b).0 h)))

valued_texts : {p : ℕ} {w : List ℕ} {a : Piece} {rest : List ℕ} → Valued p w a rest → Many IsText w × Stop rest
valued_texts (empty k s) = (texts (blank_values k), s)
valued_texts (full k c u s) = (texts (many_append (many_append (blank_values k) (core_values c)) (blank_values u)), s)

module _ {r : Rules} where
  line_wrong : {p : ℕ} {w : List ℕ} {x : Fault} {rest : List ℕ} → LineWrong r p w x rest → ValueWrong r w rest
  line_wrong (early k) = absurd k
  line_wrong {rest = rest} (late w₁ w₂ v i K (no_end b ys e j t l q)) =
      let U = valued_texts K in
      let same : w₂ ++ rest ≡ b ∷ ys = ap (λ y. y ++ rest) e ∙ j in
      let first_is : U.1.b ∷ U.1.ys ≡ b ∷ ys = sym U.1.whole ∙ same in
      let b_is : U.1.b ≡ b = cc in
      value b ys j (subst (IsWithinValue r) (sym (i ∙ ap (λ y. w₁ ++ y) e ∙ append-nil w₁)) (texts_within r U.0))
      (record {
        no_text = λ h. clash ((value_is_text b).1 h) (ap is_value (sym b_is) ∙ U.1.stops);
        no_cr = λ h. clash (eq-eqb b 13 h) t;
        no_lf = λ h k. clash (rw (h, k)) l;
      })
  line_wrong (late w₁ w₂ v i K (bare_cr b ys e j t q)) = cr w₁ b ys (i ∙ ap (λ y. w₁ ++ y) e) j (λ h. clash (eq-eqb b 10 h) t)

  -- a fold before what stands within a value
  no_fold_first : {b : ℕ} {m : List ℕ} → is_blank b ≡ true → IsWithinValue r (b ∷ m) → IsWithinValue r m
  no_fold_first h k = by h k refl
    where
      by : {b : ℕ} {m w : List ℕ} → is_blank b ≡ true → IsWithinValue r w → w ≡ b ∷ m → IsWithinValue r m
      by h grammar.IsWithinValue.none e = never cc
      by {m = m} h (grammar.IsWithinValue.more {w = w} x k) e = let same : w ≡ m = cc in subst (IsWithinValue r) same k
      by {b} h (grammar.IsWithinValue.folded (IsObsFold.fold t grammar.IsLineEnd.crlf y) k) e = let same : 13 ≡ b = cc in absurd (clash (ap is_blank same ∙ h) cr_no_blank)
      by {b} h (grammar.IsWithinValue.folded (IsObsFold.fold t (grammar.IsLineEnd.lf l) y) k) e = let same : 10 ≡ b = cc in absurd (clash (ap is_blank same ∙ h) lf_no_blank)

  folded_wrong : {t e w rest : List ℕ} {b : ℕ} {ys : List ℕ} → r.multiline_headers ≡ true → Many IsText t → IsLineEnd r e → w ++ rest ≡ b ∷ ys → is_blank b ≡ true → ValueWrong r w rest → ValueWrong r ((t ++ e) ++ w) rest
  folded_wrong {t} {e} {w} m k d s h (cr u c zs i j l) = cr ((t ++ e) ++ u) c zs (ap (λ y. (t ++ e) ++ y) i ∙ sym (append_assoc (t ++ e) u (13 ∷ []))) j l
  folded_wrong {t} {e} {w = []} {rest} {b} {ys} m k d s h (value c zs j v q) =
      let same : c ∷ zs ≡ b ∷ ys = sym j ∙ s in
      let c_is : c ≡ b = cc in
      absurd (q.no_text (IsText.white ((blank_is_blank c).0 (ap is_blank c_is ∙ h))))
  folded_wrong {t} {e} {w = a ∷ w} {rest} {b} {ys} m k d s h (value c zs j v q) =
      let a_is : a ≡ b = cc in
      let blank_a : is_blank a ≡ true = ap is_blank a_is ∙ h in
      let inner = grammar.IsWithinValue.folded (grammar.IsObsFold.fold m d ((blank_is_blank a).0 blank_a)) (no_fold_first blank_a v) in
      let same : t ++ ((e ++ (a ∷ [])) ++ w) ≡ (t ++ e) ++ (a ∷ w) = ap (λ y. t ++ y) (append_assoc e (a ∷ []) w) ∙ sym (append_assoc t e (a ∷ w)) in
      value c zs j (subst (IsWithinValue r) same (within_append (texts_within r k) inner)) q

  laps_wrong : {a : Piece} {p : ℕ} {w : List ℕ} {x : Fault} {rest : List ℕ} → r.multiline_headers ≡ true → LapsTo (LapValued r) (λ _. LapWrong r) a p w x rest → ValueWrong r w rest
  laps_wrong m (here (early k)) = line_wrong k
  laps_wrong m (here (late w₁ w₂ v i K k)) = absurd k
  laps_wrong {rest = rest} m (next {w₁ = w₁} {w₂ = w₂} K k) =
      let L = K.left in
      let B = K.right.holds in
      let t : Many IsText L.w₁ = (valued_texts L.left).0 in
      let whole : w₁ ≡ L.w₁ ++ L.w₂ = K.whole ∙ ap (λ y. K.w₁ ++ y) B.nothing ∙ append-nil K.w₁ ∙ L.whole in
      subst (λ y. ValueWrong r (y ++ w₂) rest) (sym whole) (folded_wrong m t L.right.holds B.whole (goes_on B.b _ K.right.a B.tells K.right.passes) (laps_wrong m k))
    where
      goes_on : (b : ℕ) (c : Piece) {a' : Piece} (u : Bool) → is_blank b ≡ u → ◌≡◌ {A = Verdict (Turn Piece Piece) Fault} (pass (turn c u)) (pass (again a')) → is_blank b ≡ true
      goes_on b c true e h = e
      goes_on b c false e h = never cc

  pub lines_wrong : {p : ℕ} {w : List ℕ} {x : Fault} {rest : List ℕ} → LinesWrong r p w x rest → ValueWrong r w rest
  lines_wrong (one b bs e m k) = laps_wrong m k
  lines_wrong (other b bs e m k) = line_wrong k

-- the other way: what stands within a value, by its first line
data Split (r : Rules) : List ℕ → Type 0 where
  line : {t : List ℕ} → Many IsText t → Split r t
  fold : {t e m : List ℕ} {b : ℕ} → r.multiline_headers ≡ true → Many IsText t → IsLineEnd r e → IsBlank b → IsWithinValue r m → Split r (t ++ (e ++ (b ∷ m)))

split_more : {r : Rules} {w : List ℕ} (b : ℕ) → IsText b → Split r w → Split r (b ∷ w)
split_more b x (line k) = line (more x k)
split_more b x (fold {t = t} m k d y v) = fold {t = b ∷ t} m (more x k) d y v

split_within : {r : Rules} {w : List ℕ} → IsWithinValue r w → Split r w
split_within grammar.IsWithinValue.none = line none
split_within (grammar.IsWithinValue.more {b = b} x k) = split_more b x (split_within k)
split_within {r} (grammar.IsWithinValue.folded {w = w} (grammar.IsObsFold.fold {e = e} {b = b} m d y) k) = subst (Split r) (sym (append_assoc e (b ∷ []) w)) (fold {t = []} m none d y k)

module _ {r : Rules} (c : ℕ) (ys : List ℕ) (q : Stray r c) where
  stops : Stop (c ∷ ys)
  stops = record { b = c; ys = ys; whole = refl; stops = by (is_value c) refl }
    where
      by : (t : Bool) → is_value c ≡ t → t ≡ false
      by true h = absurd (q.no_text ((value_is_text c).0 h))
      by false h = refl

  no_lf_here : (r.lf_alone && eqb c 10) ≡ false
  no_lf_here = by (r.lf_alone && eqb c 10) refl
    where
      by : (t : Bool) → (r.lf_alone && eqb c 10) ≡ t → t ≡ false
      by true h = let k = both_true r.lf_alone (eqb c 10) h in absurd (q.no_lf k.0 (eqb-true c 10 k.1))
      by false h = refl

  line_refused : (p : ℕ) {t : List ℕ} → Many IsText t → LineWrong r p t (fault HeaderValue (p + length t)) (c ∷ ys)
  line_refused p {t} k = let A = any_value p (in_value k) stops in late t [] A.c (sym (append-nil t)) A.reads (no_end c ys refl refl (ne_eqb c 13 q.no_cr) no_lf_here refl)

  abbrev LapsRefused : Piece → ℕ → List ℕ → Type 0
  LapsRefused a p w = LapsTo (LapValued r) (λ _. LapWrong r) a p w (fault HeaderValue (p + length w)) (c ∷ ys)

  no_laps : (a : Piece) (p : ℕ) {w : List ℕ} → length w ≤ 0 → Split r w → LapsRefused a p w
  no_laps a p l (line k) = here (early (line_refused p k))
  no_laps a p l (fold {t = t} {e = e} {m = m} {b = b} h k d y v) = absurd (omega (arith, l, length-append t (e ++ (b ∷ m)), length-append e (b ∷ m)))

  more_laps : (n : ℕ) → ((a : Piece) (p : ℕ) (w : List ℕ) → length w ≤ n → IsWithinValue r w → LapsRefused a p w) → (a : Piece) (p : ℕ) {w : List ℕ} → length w ≤ suc n → Split r w → LapsRefused a p w
  more_laps n ih a p l (line k) = here (early (line_refused p k))
  more_laps n ih a p l (fold {t = t} {e = e} {m = m} {b = b} h k d y v) =
      let rest : List ℕ = (b ∷ m) ++ (c ∷ ys) in
      let A = any_value p (in_value k) (end_stops d rest) in
      let size : length (t ++ e) + length (b ∷ m) ≡ length (t ++ (e ++ (b ∷ m))) = omega (arith, length-append t e, length-append t (e ++ (b ∷ m)), length-append e (b ∷ m)) in
      let K : LapValued r a p (t ++ e) (again (joined a A.c)) rest =
      record {
        w₁ = t ++ e;
        w₂ = [];
        a = A.c;
        left = record { w₁ = t; w₂ = e; a = A.c; left = A.reads; right = record { a = tt; holds = d; passes = refl }; whole = refl };
        right = record { a = true; holds = record { b = b; ys = m ++ (c ∷ ys); nothing = refl; whole = refl; tells = (blank_is_blank b).1 y }; passes = refl };
        whole = sym (append-nil (t ++ e));
      } in
      let later = ih (joined a A.c) (p + length (t ++ e)) (b ∷ m) (omega (arith, l, size, length-append t e, end_longer d)) (grammar.IsWithinValue.more (IsText.white y) v) in
      let place : p + length (t ++ e) + length (b ∷ m) ≡ p + length (t ++ (e ++ (b ∷ m))) = omega (arith, size) in
      subst (λ u. LapsTo (LapValued r) (λ _. LapWrong r) a p u (fault HeaderValue (p + length (t ++ (e ++ (b ∷ m))))) (c ∷ ys)) (append_assoc t e (b ∷ m))
      (subst (λ u. LapsTo (LapValued r) (λ _. LapWrong r) a p ((t ++ e) ++ (b ∷ m)) (fault HeaderValue u) (c ∷ ys)) place (next K later))

  laps_refused : (n : ℕ) (a : Piece) (p : ℕ) (w : List ℕ) → length w ≤ n → IsWithinValue r w → LapsRefused a p w
  laps_refused zero a p w l k = no_laps a p l (split_within k)
  laps_refused (suc n) a p w l k = more_laps n (laps_refused n) a p l (split_within k)

  all_texts : {w : List ℕ} → r.multiline_headers ≡ false → Split r w → Many IsText w
  all_texts h (line k) = k
  all_texts h (fold m k d y v) = absurd (clash m h)

  first_byte : (w : List ℕ) → (b : ℕ) × (bs : List ℕ) × (w ++ (c ∷ ys) ≡ b ∷ bs)
  first_byte [] = (c, ys, refl)
  first_byte (b ∷ w) = (b, w ++ (c ∷ ys), refl)

  pub value_wrong : (p : ℕ) {w : List ℕ} → IsWithinValue r w → LinesWrong r p w (fault HeaderValue (p + length w)) (c ∷ ys)
  value_wrong p {w} k = by r.multiline_headers refl
    where
      by : (t : Bool) → r.multiline_headers ≡ t → LinesWrong r p w (fault HeaderValue (p + length w)) (c ∷ ys)
      by true h = let f = first_byte w in one f.0 f.1 f.2 h (laps_refused (length w) nothing_yet p w (omega arith) k)
      by false h = let f = first_byte w in other f.0 f.1 f.2 h (line_refused p (all_texts h (split_within k)))

-- where a line is wrong: before its name, behind it, or in its value
pub data LineWrongIs (r : Rules) (w rest : List ℕ) : Type 0 where
  no_name : (c : ℕ) (ys : List ℕ) → w ≡ [] → rest ≡ c ∷ ys → (IsTchar c → ⊥) → LineWrongIs r w rest
  no_colon : (n s : List ℕ) (c : ℕ) (ys : List ℕ) → w ≡ n ++ s → rest ≡ c ∷ ys → IsFieldName n → IsBehindName r s → (c ≡ 0x3A → ⊥) → (s ≡ [] → IsTchar c → ⊥) → (r.spaces_after_name ≡ true → IsBlank c → ⊥) → LineWrongIs r w rest
  no_value : (n s m : List ℕ) (c : ℕ) (ys : List ℕ) → w ≡ n ++ s ++ colon ++ m → rest ≡ c ∷ ys → IsFieldName n → IsBehindName r s → IsWithinValue r m → Stray r c → LineWrongIs r w rest

-- or behind a CR that no LF follows
pub record NoLf (w rest : List ℕ) : Type 0 where
  pub u : List ℕ
  pub c : ℕ
  pub ys : List ℕ
  pub before : w ≡ u ++ (0x0D ∷ [])
  pub whole : rest ≡ c ∷ ys
  pub other : c ≡ 0x0A → ⊥

abbrev pub FieldWrong : Rules → Relation Fault
FieldWrong r = Either (NameWrong r) (Named r) (λ n. LinesWrong r)

pub refusing_field : (r : Rules) → Refusing (field_step r) (first (first names.none)) (FieldWrong r)
refusing_field r =
    refusing_seq (names.name_step r) (λ n. fresh) (λ n. judged (λ v. pass (named n v)) (λ e. e) (lines_step r)) (first names.none) (exact_name r) (refusing_name r) (λ n.
    refusing_judged (named n) (lines_step r) (refusing_lines r))

module _ {r : Rules} where
  name_wrong : {p : ℕ} {w : List ℕ} {x : Fault} {rest : List ℕ} → NameWrong r p w x rest → LineWrongIs r w rest
  name_wrong (early K) = no_name K.b K.ys K.nothing K.whole (λ h. clash ((token_is_tchar K.b).1 h) K.outside)
  name_wrong (late w₁ w₂ a i K (early k)) = absurd k
  name_wrong {rest = rest} (late w₁ w₂ a i K (late g₁ g₂ u j G C)) =
      let s_is : w₂ ≡ g₁ = j ∙ ap (λ y. g₁ ++ y) C.nothing ∙ append-nil g₁ in
      let behind : g₂ ++ rest ≡ C.b ∷ C.ys = ap (λ y. y ++ rest) C.nothing ∙ C.whole in
      let stop : G.stops.b ∷ G.stops.ys ≡ C.b ∷ C.ys = sym G.stops.whole ∙ behind in
      let b_is : G.stops.b ≡ C.b = cc in
      no_colon w₁ g₁ C.b C.ys (i ∙ ap (λ y. w₁ ++ y) s_is) C.whole (tokens K.kind) (behind_derived r G.all)
      (λ h. clash (eq-eqb C.b 58 h) C.outside)
      (λ e h.
      let first_is : K.stops.b ∷ K.stops.ys ≡ C.b ∷ C.ys = sym K.stops.whole ∙ ap (λ y. y ++ rest) (s_is ∙ e) ∙ C.whole in
      let c_is : K.stops.b ≡ C.b = cc in
      clash ((token_is_tchar C.b).1 h) (ap is_token (sym c_is) ∙ K.stops.stops))
      (λ t h. clash (rw (t, (blank_is_blank C.b).1 h)) (ap (names.before_colon r) (sym b_is) ∙ G.stops.stops))

  pub wrong_derived : {p : ℕ} {w : List ℕ} {x : Fault} {rest : List ℕ} → FieldWrong r p w x rest → LineWrongIs r w rest ⊎ NoLf w rest
  wrong_derived (early K) = inl (name_wrong K)
  wrong_derived {p} {w} (late w₁ w₂ a i K L) = by (lines_wrong L)
    where
      N : NameIs r p w₁ a
      N = name_derived K

      by : {rest : List ℕ} → ValueWrong r w₂ rest → LineWrongIs r w rest ⊎ NoLf w rest
      by (value c ys e k q) = inl (no_value N.n N.s w₂ c ys (i ∙ ap (λ y. y ++ w₂) N.whole) e N.name N.behind k q)
      by (cr u c ys e j l) = inr (record { u = w₁ ++ u; c = c; ys = ys; before = i ∙ ap (λ y. w₁ ++ y) e ∙ sym (append_assoc w₁ u (13 ∷ [])); whole = j; other = l })

  -- and the other way
  pub no_name_read : (p c : ℕ) (ys : List ℕ) → (IsTchar c → ⊥) → FieldWrong r p [] (fault HeaderName p) (c ∷ ys)
  no_name_read p c ys h = early (early (record { b = c; ys = ys; nothing = refl; whole = refl; outside = by (is_token c) refl; is = refl }))
    where
      by : (t : Bool) → is_token c ≡ t → t ≡ false
      by true e = absurd (h ((token_is_tchar c).0 e))
      by false e = refl

  pub no_colon_read : (p : ℕ) {n s : List ℕ} (c : ℕ) (ys : List ℕ) → IsFieldName n → IsBehindName r s → (c ≡ 0x3A → ⊥) → (s ≡ [] → IsTchar c → ⊥) → (r.spaces_after_name ≡ true → IsBlank c → ⊥) → FieldWrong r p (n ++ s) (fault HeaderName (p + length n + length s)) (c ∷ ys)
  no_colon_read p {n} {s} c ys k b other_byte no_token no_blank =
      early (late n s (piece p (p + length n)) refl (record { kind = in_token k; place = refl; stops = ends b no_token })
      (late s [] tt (sym (append-nil s)) (record { all = behind_read r b; stops = record { b = c; ys = ys; whole = refl; stops = passed (names.before_colon r c) refl } })
      (record { b = c; ys = ys; nothing = refl; whole = refl; outside = ne_eqb c 58 other_byte; is = refl })))
    where
      passed : (t : Bool) → names.before_colon r c ≡ t → t ≡ false
      passed true e = let h = both_true r.spaces_after_name (is_blank c) e in absurd (no_blank h.0 ((blank_is_blank c).0 h.1))
      passed false e = refl

      no_token_here : (IsTchar c → ⊥) → (t : Bool) → is_token c ≡ t → t ≡ false
      no_token_here h true e = absurd (h ((token_is_tchar c).0 e))
      no_token_here h false e = refl

      ends : {v : List ℕ} → IsBehindName r v → (v ≡ [] → IsTchar c → ⊥) → GapStops is_token (v ++ (c ∷ ys))
      ends grammar.IsBehindName.nothing f = record { b = c; ys = ys; whole = refl; stops = no_token_here (f refl) (is_token c) refl }
      ends (grammar.IsBehindName.blanks h (some {b = d} {w = w} x j)) f = record { b = d; ys = w ++ (c ∷ ys); whole = refl; stops = blank_no_token d (is_token d) refl ((blank_is_blank d).1 x) }

  pub no_value_read : (p : ℕ) {n s m : List ℕ} (c : ℕ) (ys : List ℕ) → IsFieldName n → IsBehindName r s → IsWithinValue r m → Stray r c → FieldWrong r p (n ++ s ++ colon ++ m) (fault HeaderValue (p + length (n ++ s ++ colon) + length m)) (c ∷ ys)
  no_value_read p {n} {s} {m} c ys k b v q = late (n ++ s ++ colon) m (piece p (p + length n)) refl (name_read p (m ++ (c ∷ ys)) k b) (value_wrong c ys q (p + length (n ++ s ++ colon)) v)

  unfoldable pub wrong_read : (p : ℕ) {w rest : List ℕ} → LineWrongIs r w rest → (x : Fault) × FieldWrong r p w x rest
  wrong_read p {w} {rest} (no_name c ys e i h) = (fault HeaderName p, subst (λ y. FieldWrong r p y (fault HeaderName p) rest) (sym e) (subst (FieldWrong r p [] (fault HeaderName p)) (sym i) (no_name_read p c ys h)))
  wrong_read p {w} {rest} (no_colon n s c ys e i k b f g h) =
      let x = fault HeaderName (p + length n + length s) in
      (x, subst (λ y. FieldWrong r p y x rest) (sym e) (subst (FieldWrong r p (n ++ s) x) (sym i) (no_colon_read p c ys k b f g h)))
  wrong_read p {w} {rest} (no_value n s m c ys e i k b v q) =
      let x = fault HeaderValue (p + length (n ++ s ++ colon) + length m) in
      (x, subst (λ y. FieldWrong r p y x rest) (sym e) (subst (FieldWrong r p (n ++ s ++ colon ++ m) x) (sym i) (no_value_read p c ys k b v q)))
