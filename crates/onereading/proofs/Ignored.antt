-- What is not lost where invalid lines are ignored: a block line by line, in bytes.
-- Assumes nothing.
use Rattle.std.specs.Prelude.{ℕ, ◌≡◌, refl, List, [], ◌∷◌, ◌++◌, Bool, true, false, length, Ok}
use Rattle.std.proofs.Common.{arith, sym, ap, subst, ◌∙◌, append_assoc, append-nil}
use Rattle.reader.specs.Tests.{clash, never}
use Rattle.octets.specs.Grammar.{IsFieldVchar, IsTchar, IsBlank, IsText}
use Rattle.octets.specs.Class.{is_token, is_value}
use Rattle.octets.proofs.Ties.{token_is_tchar, value_is_text}
use Rattle.octets.specs.Outside.{cr_no_token, lf_no_token, cr_no_value, lf_no_value, lf_no_blank}
use Rattle.rules.specs.Rules.{Rules}
use Rattle.grammar.specs.Rows.{Many, none, more, Some, some}
use Rattle.grammar.specs.Fields.{Field}
use Rattle.grammar.specs.Message.{IsLineEnd, colon, IsBehindName, IsAroundValue, IsWithinValue, IsValueLines, IsFieldLine, IsBeforeFirstName, IsIgnorable, IsIgnoredLine, IsHeaderBlock, head}
use Rattle.grammar.specs.Message as grammar
use Rattle.parts.specs.Answers.{Passed}
use Rattle.agreement.specs.Places.{at_start}
use Rattle.agreement.specs.Rows.{many_append}
use Rattle.agreement.specs.Around.{around_within}
use Rattle.agreement.specs.Folded.{NoBlank}
use Rattle.agreement.specs.FieldLine.{field_read}
use Rattle.agreement.specs.IgnoredLine.{ignored_read}
use Rattle.fields.specs.Line.{line as line_read}
use Rattle.agreement.specs.Fields.{line_at}
use Rattle.agreement.specs.Known.{fields_in}
use Rattle.agreement.specs.Promises.{HeadPromise}
use Rattle.plain.proofs.OneLine.{value_text}
use Rattle.onereading.specs.Ignored.{FirstEmpty, Folds, Good, HeadByLine, IsInner, LineByLine, NoneEmpty, OneField, bad, good, line, no_line, no_more, one_more, over}

-- what stands within a field: the rest of a line, and lines that begin with a blank, of which the last has no end yet
data Open (r : Rules) : List ℕ → Type 0 where
  rest : {l : List ℕ} → Many IsInner l → Open r l
  fold : {l e m : List ℕ} {b : ℕ} → r.multiline_headers ≡ true → Many IsInner l → IsLineEnd r e → IsBlank b → Open r m → Open r (l ++ (e ++ (b ∷ m)))

text_inner : (b : ℕ) → IsText b → IsInner b
text_inner b x = record { no_cr = λ e. clash (ap is_value (sym e) ∙ (value_is_text b).1 x) cr_no_value; no_lf = λ e. clash (ap is_value (sym e) ∙ (value_is_text b).1 x) lf_no_value }

token_inner : (b : ℕ) → IsTchar b → IsInner b
token_inner b x = record { no_cr = λ e. clash (ap is_token (sym e) ∙ (token_is_tchar b).1 x) cr_no_token; no_lf = λ e. clash (ap is_token (sym e) ∙ (token_is_tchar b).1 x) lf_no_token }

ignorable_inner : (b : ℕ) → IsIgnorable b → IsInner b
ignorable_inner b i = record { no_cr = i.no_cr; no_lf = i.no_lf }

inner_many : {c : ℕ → Type 0} → ((b : ℕ) → c b → IsInner b) → {w : List ℕ} → Many c w → Many IsInner w
inner_many f none = none
inner_many f (more {b = b} x k) = more (f b x) (inner_many f k)

inner_some : {c : ℕ → Type 0} → ((b : ℕ) → c b → IsInner b) → {w : List ℕ} → Some c w → Some IsInner w
inner_some f (some {b = b} x k) = some (f b x) (inner_many f k)

some_append : {v w : List ℕ} → Some IsInner v → Many IsInner w → Some IsInner (v ++ w)
some_append (some x k) h = some x (many_append k h)

vchar_inner : (b : ℕ) → IsFieldVchar b → IsInner b
vchar_inner b x = text_inner b (IsText.field x)

colon_inner : Many IsInner colon
colon_inner = more {b = 0x3A} (record { no_cr = λ e. omega (arith, e); no_lf = λ e. omega (arith, e) }) none

module _ {r : Rules} where
  open_line : {l m : List ℕ} → Many IsInner l → Open r m → Open r (l ++ m)
  open_line h (rest k) = rest (many_append h k)
  open_line {l} h (fold {l = l'} {e = e} {m = m} {b = b} t k d y o) = subst (Open r) (append_assoc l l' (e ++ (b ∷ m))) (fold t (many_append h k) d y o)

  open_append : {u v : List ℕ} → Open r u → Open r v → Open r (u ++ v)
  open_append (rest k) o = open_line k o
  open_append {v = v} (fold {l = l} {e = e} {m = m} {b = b} t k d y o) p =
      subst (Open r) (sym (append_assoc l (e ++ (b ∷ m)) v ∙ ap (λ z. l ++ z) (append_assoc e (b ∷ m) v))) (fold t k d y (open_append o p))

  within_open : {m : List ℕ} → IsWithinValue r m → Open r m
  within_open grammar.IsWithinValue.none = rest none
  within_open (grammar.IsWithinValue.more {b = b} x k) = open_line (more (text_inner b x) none) (within_open k)
  within_open (grammar.IsWithinValue.folded {w = w} (grammar.IsObsFold.fold {e = e} {b = b} t d y) k) = subst (Open r) (sym (append_assoc e (b ∷ []) w)) (fold t none d y (within_open k))

  around_open : {m : List ℕ} → IsAroundValue r m → Open r m
  around_open k = within_open (around_within k)

  value_open : {v : List ℕ} → IsValueLines r v → Open r v
  value_open (grammar.IsValueLines.one k) = rest (inner_many text_inner (value_text k))
  value_open (grammar.IsValueLines.several {b = b} {c = c} t x k y) = open_append (open_line (more (vchar_inner b x) none) (within_open k)) (rest (more (vchar_inner c y) none))

  behind_inner : {s : List ℕ} → IsBehindName r s → Many IsInner s
  behind_inner grammar.IsBehindName.nothing = none
  behind_inner (grammar.IsBehindName.blanks h (some {b = b} x k)) = more (text_inner b (IsText.white x)) (inner_many (λ c y. text_inner c (IsText.white y)) k)

  -- with a line's end behind it
  folds_of : {b : ℕ} {m e : List ℕ} → IsBlank b → Open r m → IsLineEnd r e → Folds r ((b ∷ m) ++ e)
  folds_of {b} {e = e} x (rest {l = l} k) d = subst (Folds r) (append-nil ((b ∷ l) ++ e)) (one_more x k d no_more)
  folds_of {b} {e = e} x (fold {l = l} {e = e'} {m = m} {b = c} t k d' y o) d =
      subst (Folds r) (append_assoc (b ∷ l) e' ((c ∷ m) ++ e) ∙ ap (λ z. (b ∷ l) ++ z) (sym (append_assoc e' (c ∷ m) e)) ∙ sym (append_assoc (b ∷ l) (e' ++ (c ∷ m)) e)) (one_more x k d' (folds_of y o d))

  closed : {a m e : List ℕ} → Some IsInner a → Open r m → IsLineEnd r e → OneField r (a ++ m ++ e)
  closed {a} {e = e} h (rest {l = l} k) d = record { l = a ++ l; e = e; t = []; whole = sym (append-nil (a ++ l ++ e)); inside = some_append h k; ends = d; folds = no_more; single = λ _. refl }
  closed {a} {e = e} h (fold {l = l} {e = e'} {m = m} {b = b} t k d' y o) d = record {
    l = a ++ l;
    e = e';
    t = (b ∷ m) ++ e;
    whole = ap (λ z. z ++ e) (sym (append_assoc a l (e' ++ (b ∷ m))) ∙ sym (append_assoc (a ++ l) e' (b ∷ m))) ∙ append_assoc ((a ++ l) ++ e') (b ∷ m) e;
    inside = some_append h k;
    ends = d';
    folds = folds_of y o d;
    single = λ f. absurd (clash t f);
  }

  pub field_lines : {w e : List ℕ} {f : Field} → IsFieldLine r w f → IsLineEnd r e → OneField r (w ++ e)
  field_lines {e = e} (grammar.IsFieldLine.line {n = n} {s = s} {o = o} {v = v} {t = t} name behind left value right) d =
      let inside = open_append (open_append (open_append (open_line (behind_inner behind) (rest colon_inner)) (around_open left)) (value_open value)) (around_open right) in
      let same : n ++ (s ++ colon ++ o ++ v ++ t) ≡ n ++ s ++ colon ++ o ++ v ++ t = simp append_assoc in
      subst (λ z. OneField r (z ++ e)) same (closed (inner_some token_inner name) inside d)

  pub ignored_lines : {w : List ℕ} → IsIgnoredLine r w → OneField r w
  ignored_lines (grammar.IsIgnoredLine.no_name {c = c} {u = u} {e = e} h i k d) = subst (λ z. OneField r (z ++ e)) (append-nil (c ∷ u)) (closed {a = c ∷ u} (some (ignorable_inner c i) (inner_many ignorable_inner k)) (rest none) d)
  ignored_lines (grammar.IsIgnoredLine.no_colon {n = n} {s = s} {u = u} {e = e} name behind f k d) =
      let same : n ++ (s ++ u) ++ e ≡ n ++ s ++ (u ++ e) = simp append_assoc in
      subst (OneField r) same (closed (inner_some token_inner name) (rest (many_append (behind_inner behind) (inner_many ignorable_inner k))) d)
  ignored_lines (grammar.IsIgnoredLine.no_value {n = n} {s = s} {m = m} {u = u} {e = e} {c = c} name behind within h i k d) =
      let inside = open_append (open_append (open_line (behind_inner behind) (rest colon_inner)) (within_open within)) (rest (more (ignorable_inner c i) (inner_many ignorable_inner k))) in
      let same : n ++ (s ++ colon ++ m ++ (c ∷ u)) ++ e ≡ n ++ s ++ colon ++ m ++ ((c ∷ u) ++ e) = simp append_assoc in
      subst (OneField r) same (closed (inner_some token_inner name) inside d)

  -- a line is not both: read with an empty line behind it, it is one or the other
  pub not_both : {w : List ℕ} → r.ignore_invalid_headers ≡ true → IsIgnoredLine r w → (f : Field) → Good r w f → ⊥
  not_both {w} o l f G =
      let z : List ℕ = w ++ (0x0A ∷ []) in
      let N : NoBlank (0x0A ∷ []) = record { b = 0x0A; ys = []; whole = refl; solid = lf_no_blank } in
      let passed = line_at (at_start w (0x0A ∷ [])) (ignored_read 0 (0x0A ∷ []) o l) in
      let H = field_read (at_start (G.v ++ G.e) (0x0A ∷ [])) G.line G.ends (λ _. N) in
      let read = line_at (at_start (G.v ++ G.e) (0x0A ∷ [])) H.reads in
      let u = sym passed ∙ ap (λ y. line_read r (y ++ (0x0A ∷ [])) 0) G.whole ∙ read in
      never cc

  -- every block is so
  pub line_by_line : {first : Bool} {w : List ℕ} {fs : List Field} → IsHeaderBlock r first w fs → LineByLine r first w fs
  line_by_line (grammar.IsHeaderBlock.end c d) = over c d
  line_by_line (grammar.IsHeaderBlock.field {w = w} {e = e} c f d o k) = good c (field_lines f d) (record { v = w; e = e; whole = refl; line = f; ends = d }) o (line_by_line k)
  line_by_line (grammar.IsHeaderBlock.ignored t c l o k) = bad t c (ignored_lines l) l (not_both t l) o (line_by_line k)

  -- and nothing else is: so what is given is fixed by the bytes, as the fields of a block are
  pub by_its_lines : {first : Bool} {w : List ℕ} {fs : List Field} → LineByLine r first w fs → IsHeaderBlock r first w fs
  by_its_lines (over c d) = grammar.IsHeaderBlock.end c d
  by_its_lines {first} (good {s = s} {b = b} {f = f} {fs = fs} c K G o k) = subst (λ y. IsHeaderBlock r first (s ++ (y ++ b)) (f ∷ fs)) (sym G.whole) (grammar.IsHeaderBlock.field c G.line G.ends o (by_its_lines k))
  by_its_lines (bad t c K l n o k) = grammar.IsHeaderBlock.ignored t c l o (by_its_lines k)

module _ {r : Rules} where
  none_append : {u v : List ℕ} → NoneEmpty r u → NoneEmpty r v → NoneEmpty r (u ++ v)
  none_append no_line k = k
  none_append {v = v} (line {l = l} {e = e} {w = w} x d h) k = subst (NoneEmpty r) (sym (append_assoc (l ++ e) w v)) (line x d (none_append h k))

  folds_none : {w : List ℕ} → Folds r w → NoneEmpty r w
  folds_none no_more = no_line
  folds_none (one_more {b = b} x k d h) = line (some (text_inner b (IsText.white x)) k) d (folds_none h)

  field_none : {w : List ℕ} → OneField r w → NoneEmpty r w
  field_none K = subst (NoneEmpty r) (sym K.whole) (line K.inside K.ends (folds_none K.folds))

  nothing_before : {first : Bool} {s : List ℕ} → r.space_before_first_name ≡ false → IsBeforeFirstName r first s → s ≡ []
  nothing_before h grammar.IsBeforeFirstName.nothing = refl
  nothing_before h (grammar.IsBeforeFirstName.blanks t k) = absurd (clash t h)

  more_lines : {s w b : List ℕ} → s ≡ [] → OneField r w → FirstEmpty r b → FirstEmpty r (s ++ (w ++ b))
  more_lines {s} {w} {b} i K F = record {
    v = w ++ F.v;
    e = F.e;
    whole = ap (λ y. y ++ (w ++ b)) i ∙ ap (λ y. w ++ y) F.whole ∙ sym (append_assoc w F.v F.e);
    lines = none_append (field_none K) F.lines;
    ends = F.ends;
  }

  -- where no blanks may stand before the first name, the head ends at its first empty line
  pub first_empty : r.space_before_first_name ≡ false → {first : Bool} {w : List ℕ} {fs : List Field} → LineByLine r first w fs → FirstEmpty r w
  first_empty h (over {s = s} {e = e} c d) = record { v = []; e = e; whole = ap (λ y. y ++ e) (nothing_before h c); lines = no_line; ends = d }
  first_empty h (good c K G o k) = more_lines (nothing_before h c) K (first_empty h k)
  first_empty h (bad t c K l n o k) = more_lines (nothing_before h c) K (first_empty h k)

by_head : {L : Type 0} {r : Rules} {start_line : List ℕ → L → Type 0} {s w : List ℕ} (t : List ℕ) {l : L} {fs : List Field} {q : ℕ} → s ≡ w ++ t → q ≡ length w → head r start_line w l fs → HeadByLine r s q fs
by_head t e i (grammar.head.message {e = u} {w = v} {c = c} {b = b} empty line_is ends block) = record { start = u ++ v ++ c; block = b; behind = t; whole = e; end = i; lines = line_by_line block }

-- of every request and response, whatever is set
module _ {L K : Type 0} {r : Rules} {start_line : List ℕ → L → Type 0} {Says : List ℕ → K → L → Type 0} {In : List ℕ → K → Type 0} {s old : List ℕ} {end : Passed} {line : K} {count : ℕ} {new : List ℕ} where
  pub head_by_line : HeadPromise r (head r start_line) Says In s old end line count new → {q : ℕ} → end ≡ Ok q → HeadByLine r s q (fields_in s count new)
  head_by_line P {q} e = let H = P.complete q e in by_head H.rest H.whole H.end H.head
