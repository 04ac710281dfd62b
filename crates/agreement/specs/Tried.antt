-- A line that is no field line is passed over exactly where one is wrong and what follows on its line may be passed over.
-- Assumes nothing.
use Rattle.std.specs.Prelude.{ℕ, ◌+◌, ◌≡◌, refl, ◌⊎◌, List, [], ◌∷◌, ◌++◌, Bool, true, false, eqb, length}
use Rattle.std.proofs.Common.{arith, sym, ap, subst, ◌∙◌, inl, inr, append_assoc, length-append, ne_eqb}
use Rattle.reader.specs.Machine.{Run, more, gave, refused, run}
use Rattle.reader.specs.Lifted.{ran, ran_gave}
use Rattle.reader.specs.Judged.{pass}
use Rattle.reader.specs.Seq.{first, second}
use Rattle.reader.specs.Rescued.{rescuing, watched}
use Rattle.reader.proofs.Rescued.{run_waiting, run_good, run_bad, run_rescued}
use Rattle.reader.specs.Tests.{never}
use Rattle.exact.specs.Exact.{Relation, Part, Exact}
use Rattle.exact.specs.Judged.{Passes, exact_judged}
use Rattle.octets.specs.Class.{is_blank, is_token, is_value}
use Rattle.octets.proofs.Ties.{blank_is_blank, token_is_tchar, value_is_text}
use Rattle.octets.specs.Outside.{differs_test, cr_no_token, cr_no_blank, cr_no_value}
use Rattle.rules.specs.Rules.{Rules}
use Rattle.grammar.specs.Rows.{Many, some}
use Rattle.grammar.specs.Rows as rows
use Rattle.grammar.specs.Fields.{IsFieldName}
use Rattle.grammar.specs.Message.{colon, IsBehindName, IsWithinValue}
use Rattle.grammar.specs.Message as grammar
use Rattle.octets.specs.Grammar.{IsTchar, IsBlank, IsText}
use Rattle.parts.specs.declared.Fault.{Fault}
use Rattle.parts.specs.Answers.{fault}
use Rattle.parts.specs.LineEnd.{LineEnd, begin, cr, line_end_step}
use Rattle.gaps.specs.Gap.{Behind}
use Rattle.ignored.specs.Rest.{is_ignorable, rest_step, behind_byte}
use Rattle.names.specs.Name as names
use Rattle.fields.specs.Wrong.{blamed}
use Rattle.fields.specs.Line.{Kind, ignored, FieldState, field_step, TriedState, ignored_step, tried_step, untried}
use Rattle.leaves.specs.Gap.{BehindGap, exact_behind_gap}
use Rattle.leaves.specs.LineEnd.{EndsAt, exact_line_end}
use Rattle.agreement.specs.Steps.{passed_is}
use Rattle.agreement.specs.Wrong.{LineWrongIs, no_name, no_colon, no_value, NoLf, FieldWrong, refusing_field, wrong_derived, wrong_read}

-- what is passed over of a line, from the wrong byte on
abbrev pub RestIs : Rules → Relation (Unit {0})
RestIs r = BehindGap is_ignorable (EndsAt r)

-- a field line, or one that is wrong and passed over
pub data Tried (r : Rules) (Good : Relation Kind) (p : ℕ) (w : List ℕ) (k : Kind) (rest : List ℕ) : Type 0 where
  good : Good p w k rest → Tried r Good p w k rest
  wrong : (w₁ w₂ : List ℕ) → r.ignore_invalid_headers ≡ true → w ≡ w₁ ++ w₂ → LineWrongIs r w₁ (w₂ ++ rest) → RestIs r (p + length w₁) w₂ tt rest → k ≡ ignored → Tried r Good p w k rest

module _ (r : Rules) where
  abbrev seen : Behind LineEnd → List ℕ → Behind LineEnd
  seen t w = watched r.ignore_invalid_headers (field_step r) behind_byte (ignored_step r) t w

  seen_append : (t : Behind LineEnd) (u v : List ℕ) → seen t (u ++ v) ≡ seen (seen t u) v
  seen_append t [] v = refl
  seen_append t (b ∷ u) v = seen_append (behind_byte t b) u v

  -- bytes that are no CR leave nothing to be seen
  no_cr_seen : {c : ℕ → Type 0} → ((b : ℕ) → c b → eqb b 13 ≡ false) → {w : List ℕ} → Many c w → seen (first tt) w ≡ first tt
  no_cr_seen f rows.none = refl
  no_cr_seen f (rows.more {b = b} x k) = rw (f b x) (no_cr_seen f k)

  token_no_cr : (b : ℕ) → IsTchar b → eqb b 13 ≡ false
  token_no_cr b x = differs_test is_token b 13 cr_no_token ((token_is_tchar b).1 x)

  blank_no_cr : (b : ℕ) → IsBlank b → eqb b 13 ≡ false
  blank_no_cr b x = differs_test is_blank b 13 cr_no_blank ((blank_is_blank b).1 x)

  text_no_cr : (b : ℕ) → IsText b → eqb b 13 ≡ false
  text_no_cr b x = differs_test is_value b 13 cr_no_value ((value_is_text b).1 x)

  name_seen : {n : List ℕ} → IsFieldName n → seen (first tt) n ≡ first tt
  name_seen (some {b = b} x k) = rw (token_no_cr b x) (no_cr_seen token_no_cr k)

  behind_seen : {s : List ℕ} → IsBehindName r s → seen (first tt) s ≡ first tt
  behind_seen grammar.IsBehindName.nothing = refl
  behind_seen (grammar.IsBehindName.blanks h (some {b = b} x k)) = rw (blank_no_cr b x) (no_cr_seen blank_no_cr k)

  within_seen : {m : List ℕ} → IsWithinValue r m → seen (first tt) m ≡ first tt
  within_seen grammar.IsWithinValue.none = refl
  within_seen (grammar.IsWithinValue.more {b = b} x k) = rw (text_no_cr b x) (within_seen k)
  within_seen (grammar.IsWithinValue.folded (grammar.IsObsFold.fold {b = b} h grammar.IsLineEnd.crlf y) k) = rw (blank_no_cr b y) (within_seen k)
  within_seen (grammar.IsWithinValue.folded (grammar.IsObsFold.fold {b = b} h (grammar.IsLineEnd.lf l) y) k) = rw (blank_no_cr b y) (within_seen k)

  pub wrong_seen : {w rest : List ℕ} → LineWrongIs r w rest → seen (first tt) w ≡ first tt
  wrong_seen (no_name c ys e i h) = ap (seen (first tt)) e
  wrong_seen (no_colon n s c ys e i k b f g h) = ap (seen (first tt)) e ∙ seen_append (first tt) n s ∙ ap (λ t. seen t s) (name_seen k) ∙ behind_seen b
  wrong_seen (no_value n s m c ys e i k b v q) =
      ap (seen (first tt)) e ∙ seen_append (first tt) (n ++ s ++ colon) m
      ∙ ap (λ t. seen t m) (seen_append (first tt) (n ++ s) colon ∙ ap (λ t. seen t colon) (seen_append (first tt) n s ∙ ap (λ t. seen t s) (name_seen k) ∙ behind_seen b))
      ∙ within_seen v

  no_lf_seen : {w rest : List ℕ} → NoLf w rest → seen (first tt) w ≡ second tt cr
  no_lf_seen N = ap (seen (first tt)) N.before ∙ seen_append (first tt) N.u (13 ∷ [])

  -- the rest of a line, from where nothing is seen
  exact_rest : (x : Fault) → Exact (ignored_step r x) (first tt) (Passes {F = Fault} (λ _. pass ignored) (RestIs r))
  exact_rest x = exact_judged (λ _. pass ignored) (λ e. e) (rest_step r (blamed x.error)) (exact_behind_gap is_ignorable (line_end_step r (blamed x.error)) begin (exact_line_end r (blamed x.error)))

  -- behind a CR another byte than LF is refused
  cr_refused : (x : Fault) (c p : ℕ) (ys : List ℕ) (k : Kind) (q : ℕ) → (c ≡ 0x0A → ⊥) → run (ignored_step r x) (second tt cr) p (c ∷ ys) ≡ gave k q → ⊥
  cr_refused x c p ys k q h e = let u : run (ignored_step r x) (second tt cr) p (c ∷ ys) ≡ refused (fault (blamed x.error) p) p = rw (ne_eqb c 10 h) in let v = sym u ∙ e in never cc

  module _ {Good : Relation Kind} (M : Exact (field_step r) (first (first names.none)) Good) where
    -- the wrong byte is where it is, and the rest of its line is passed over
    passed_over : (p : ℕ) (w₁ rest₁ : List ℕ) (k : Kind) (q : ℕ) → r.ignore_invalid_headers ≡ true → (x : Fault) → LineWrongIs r w₁ rest₁ → run (ignored_step r x) (first tt) (p + length w₁) rest₁ ≡ gave k q → Part (Tried r Good) p (w₁ ++ rest₁) k q
    passed_over p w₁ rest₁ k q o x W e =
        let P = (exact_rest x).sound (p + length w₁) rest₁ k q e in
        record {
          w = w₁ ++ P.w;
          rest = P.rest;
          whole = ap (λ y. w₁ ++ y) P.whole ∙ sym (append_assoc w₁ P.w P.rest);
          place = omega (arith, length-append w₁ P.w, P.place);
          holds = wrong w₁ P.w o refl (subst (LineWrongIs r w₁) P.whole W) P.holds.holds (passed_is P.holds.passes);
        }

    rescued : (p : ℕ) (w₁ rest₁ : List ℕ) (k : Kind) (q : ℕ) → r.ignore_invalid_headers ≡ true → (x : Fault) → FieldWrong r p w₁ x rest₁ → run (tried_step r) untried p (w₁ ++ rest₁) ≡ gave k q → Part (Tried r Good) p (w₁ ++ rest₁) k q
    rescued p w₁ rest₁ k q o x F e = by (wrong_derived F)
      where
        on : run (ignored_step r x) (seen (first tt) w₁) (p + length w₁) rest₁ ≡ gave k q
        on = ran_gave (rescuing x) _ (sym (run_rescued r.ignore_invalid_headers (field_step r) behind_byte (ignored_step r) o w₁ rest₁ (first (first names.none)) (first tt) p ((refusing_field r).complete p w₁ rest₁ x F)) ∙ e)

        by : LineWrongIs r w₁ rest₁ ⊎ NoLf w₁ rest₁ → Part (Tried r Good) p (w₁ ++ rest₁) k q
        by (inl W) = passed_over p w₁ rest₁ k q o x W (ap (λ t. run (ignored_step r x) t (p + length w₁) rest₁) (sym (wrong_seen W)) ∙ on)
        by (inr N) = absurd (cr_refused x N.c (p + length w₁) N.ys k q N.other (ap (run (ignored_step r x) (second tt cr) (p + length w₁)) (sym N.whole) ∙ ap (λ t. run (ignored_step r x) t (p + length w₁) rest₁) (sym (no_lf_seen N)) ∙ on))

    sound_tried : (p : ℕ) (xs : List ℕ) (k : Kind) (q : ℕ) → run (tried_step r) untried p xs ≡ gave k q → (u : Run FieldState Kind Fault) → run (field_step r) (first (first names.none)) p xs ≡ u → (o : Bool) → r.ignore_invalid_headers ≡ o → Part (Tried r Good) p xs k q
    sound_tried p xs k q e (more s) u o h = let v = sym (run_waiting r.ignore_invalid_headers (field_step r) behind_byte (ignored_step r) xs (first (first names.none)) (first tt) p u) ∙ e in never cc
    sound_tried p xs k q e (gave a i) u o h =
        let v : ◌≡◌ {A = Run TriedState Kind Fault} (gave a i) (gave k q) = sym (run_good r.ignore_invalid_headers (field_step r) behind_byte (ignored_step r) xs (first (first names.none)) (first tt) p u) ∙ e in
        let P = M.sound p xs k q (u ∙ cc) in
        record { w = P.w; rest = P.rest; whole = P.whole; place = P.place; holds = good P.holds }
    sound_tried p xs k q e (refused x i) u false h = let v = sym (run_bad r.ignore_invalid_headers (field_step r) behind_byte (ignored_step r) h xs (first (first names.none)) (first tt) p u) ∙ e in never cc
    sound_tried p xs k q e (refused x i) u true h =
        let P = (refusing_field r).sound p xs x i u in
        subst (λ y. Part (Tried r Good) p y k q) (sym P.whole) (rescued p P.w P.rest k q h x P.holds (ap (run (tried_step r) untried p) (sym P.whole) ∙ e))

    complete_tried : (p : ℕ) (w rest : List ℕ) (k : Kind) → Tried r Good p w k rest → run (tried_step r) untried p (w ++ rest) ≡ gave k (p + length w)
    complete_tried p w rest k (good g) = run_good r.ignore_invalid_headers (field_step r) behind_byte (ignored_step r) (w ++ rest) (first (first names.none)) (first tt) p (M.complete p w rest k g)
    complete_tried p w rest k (wrong w₁ w₂ o e W R i) =
        let F = wrong_read p W in
        let x = F.0 in
        let place : p + length w₁ + length w₂ ≡ p + length (w₁ ++ w₂) = omega (arith, length-append w₁ w₂) in
        let passes : Passes {F = Fault} (λ _. pass ignored) (RestIs r) (p + length w₁) w₂ k rest = record { a = tt; holds = R; passes = ap pass (sym i) } in
        ap (λ y. run (tried_step r) untried p (y ++ rest)) e
        ∙ ap (run (tried_step r) untried p) (append_assoc w₁ w₂ rest)
        ∙ run_rescued r.ignore_invalid_headers (field_step r) behind_byte (ignored_step r) o w₁ (w₂ ++ rest) (first (first names.none)) (first tt) p ((refusing_field r).complete p w₁ (w₂ ++ rest) x F.1)
        ∙ ap (λ t. ran {T = TriedState} (rescuing x) (run (ignored_step r x) t (p + length w₁) (w₂ ++ rest))) (wrong_seen W)
        ∙ ap (ran {T = TriedState} (rescuing x)) ((exact_rest x).complete (p + length w₁) w₂ rest k passes)
        ∙ ap (gave k) (place ∙ ap (λ y. p + length y) (sym e))

    pub exact_tried : Exact (tried_step r) untried (Tried r Good)
    exact_tried = record { sound = λ p xs k q e. sound_tried p xs k q e (run (field_step r) (first (first names.none)) p xs) refl r.ignore_invalid_headers refl; complete = complete_tried }
