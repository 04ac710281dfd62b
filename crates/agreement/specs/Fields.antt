-- A block is read exactly where the grammar has one whose fields fit the slots; where they don't, the error is TooManyHeaders.
-- Assumes nothing.
use Rattle.std.specs.Prelude.{ℕ, zero, suc, ◌+◌, ◌-◌, ◌≤◌, ◌<◌, ◌≡◌, refl, List, [], ◌∷◌, ◌++◌, map, Bool, true, false, cond, ◌&&◌, ltb, length, take, drop}
use Rattle.std.proofs.Common.{arith, sym, ap, subst, ◌∙◌, append_assoc, append-nil, length-append, length-drop, ltb-true, ltb-false, lt-ltb, le-ltb}
use Rattle.reader.specs.Machine.{run}
use Rattle.reader.specs.Judged.{Verdict, pass, fail}
use Rattle.reader.specs.Loop.{Turn, again, done}
use Rattle.reader.specs.Answer.{Answer, got, short, bad, answer, verdict, retold, rounds}
use Rattle.reader.proofs.Answer.{answered}
use Rattle.reader.specs.Chain.{nothing}
use Rattle.reader.specs.Branch.{fresh}
use Rattle.reader.specs.Skip.{Skipped}
use Rattle.reader.specs.Tests.{both_true, split, clash, never}
use Rattle.exact.specs.Loop.{Laps, last, next}
use Rattle.rules.specs.Rules.{Rules}
use Rattle.octets.specs.Class.{is_blank}
use Rattle.octets.proofs.Ties.{blank_is_blank, token_is_tchar}
use Rattle.octets.specs.Outside.{cr_no_blank, lf_no_blank, token_no_blank}
use Rattle.grammar.specs.Rows.{some}
use Rattle.grammar.specs.Fields.{IsFieldName, Field}
use Rattle.grammar.specs.Message.{IsLineEnd, crlf, lf, IsValueLines, IsFieldLine, IsBeforeFirstName, IsIgnoredLine, IsHeaderBlock}
use Rattle.grammar.specs.Message as grammar
use Rattle.lengths.specs.Lengths.{ignored_long, block_long}
use Rattle.leaves.specs.Gap.{GapStops}
use Rattle.parts.specs.declared.Error.TheVariants.{TooManyHeaders}
use Rattle.parts.specs.declared.Fault.{Fault}
use Rattle.parts.specs.Answers.{fault}
use Rattle.fields.specs.declared.Header.{Header}
use Rattle.fields.specs.Line.{Kind, header, end, ignored, line_step, line}
use Rattle.gaps.specs.Gap.{gap_end}
use Rattle.gaps.proofs.Gap.{end_skipped}
use Rattle.blocks.specs.Block.{taken, none_yet, blanks_before, block, given}
use Rattle.blocks.proofs.BlockRead.{block_line}
use Rattle.agreement.specs.Line.{Lined, exact_line}
use Rattle.agreement.specs.Block.{Lapped, line_long}
use Rattle.agreement.specs.Places.{At, at_as, at_drop, at_first, at_second, from_at}
use Rattle.agreement.specs.Before.{none_behind, before_derived, before_passed, before_read}
use Rattle.agreement.specs.IgnoredLine.{ignored_read}
use Rattle.agreement.specs.Known.{AreFields}
use Rattle.agreement.specs.Folded.{NoBlank}
use Rattle.agreement.specs.FieldLine.{NoMore, field_of, LineIs, ended, field, passed, line_derived, field_read, end_read, HeaderIn, name_first, line_in}

-- the fields that headers hold
abbrev pub fields_of : List ℕ → List Header → List Field
fields_of z hs = map (field_of z) hs

-- all headers of a list
abbrev pub Each : (Header → Type 0) → List Header → Type 0
Each P [] = Unit {0}
Each P (h ∷ hs) = P h × Each P hs

pub each_more : (P : Header → Type 0) (hs : List Header) (h : Header) → Each P hs → P h → Each P (hs ++ (h ∷ []))
each_more P [] h k x = (x, tt)
each_more P (g ∷ hs) h k x = (k.0, each_more P hs h k.1 x)

-- the headers that a block adds to those before it
pub record Added (z : List ℕ) (r : Rules) (n : ℕ) (hs : List Header) (w : List ℕ) (all : List Header) : Type 0 where
  pub new : List Header
  pub whole : all ≡ hs ++ new
  pub block : IsHeaderBlock r (none_yet hs) w (fields_of z new)
  pub fits : length hs ≤ n → length all ≤ n

-- what a line does to the headers, where the block goes on and where it ends
abbrev Next : Type 0
Next = Verdict (Turn (List Header) (List Header)) (Fault × List Header)

again_is : (t : Bool) (x : Fault) (hs hs' new : List Header) → ◌≡◌ {A = Next} (cond t (pass (again new)) (fail (x, hs))) (pass (again hs')) → (t ≡ true) × (new ≡ hs')
again_is true x hs hs' new e = (refl, cc)
again_is false x hs hs' new e = never cc

never_done : (t : Bool) (x : Fault) (hs b new : List Header) → ◌≡◌ {A = Next} (cond t (pass (again new)) (fail (x, hs))) (pass (done b)) → ⊥
never_done true x hs b new e = never cc
never_done false x hs b new e = never cc

-- what a line leaves of the blanks before it: none at its start
no_blank_left : (r : Rules) (hs : List Header) (w rest : List ℕ) → GapStops (blanks_before r hs) (w ++ rest) → grammar.NoBlankLeft r (none_yet hs) w
no_blank_left r hs w rest S f n c u e h =
    let same : S.b ∷ S.ys ≡ c ∷ (u ++ rest) = sym S.whole ∙ ap (λ y. y ++ rest) e in
    let c_is : S.b ≡ c = cc in
    clash (rw (f, n, (blank_is_blank c).1 h)) (ap (blanks_before r hs) (sym c_is) ∙ S.stops)

no_fold_left : (r : Rules) (v rest : List ℕ) → NoMore r (v ++ rest) → grammar.NoFoldLeft r v
no_fold_left r v rest o t c u e h =
    let N = o t in
    let same : N.b ∷ N.ys ≡ c ∷ (u ++ rest) = sym N.whole ∙ ap (λ y. y ++ rest) e in
    let c_is : N.b ≡ c = cc in
    clash ((blank_is_blank c).1 h) (ap is_blank (sym c_is) ∙ N.solid)

module _ {z : List ℕ} {r : Rules} {n : ℕ} where
  last_line : (hs : List Header) {s : List ℕ} (w : List ℕ) (b : List Header) (k : Kind) {rest : List ℕ} → IsBeforeFirstName r (none_yet hs) s → LineIs z r w k rest → taken n hs k ≡ pass (done b) → Added z r n hs (s ++ w) b
  last_line hs w b k c (ended e d) t =
      let t' : ◌≡◌ {A = Next} (pass (done hs)) (pass (done b)) = rw e at t in
      let same : b ≡ hs = cc in
      record { new = []; whole = same ∙ sym (append-nil hs); block = grammar.IsHeaderBlock.end c d; fits = λ l. omega (arith, ap length same) }
  last_line hs w b k c (passed e o l) t =
      let t' : ◌≡◌ {A = Next} (pass (again hs)) (pass (done b)) = rw e at t in
      never cc
  last_line hs w b k c (field h l e q s f d o) t =
      let t' : taken n hs (header h) ≡ pass (done b) = rw q at t in absurd (never_done (ltb (length hs) n) (fault TooManyHeaders h.name.offset) hs b (hs ++ (h ∷ [])) t')

  next_line_lem : (hs hs' : List Header) {g : List ℕ} (w v : List ℕ) (b : List Header) (k : Kind) (rest : List ℕ) → IsBeforeFirstName r (none_yet hs) g → GapStops (blanks_before r hs) (w ++ (v ++ rest)) → LineIs z r w k (v ++ rest) → taken n hs k ≡ pass (again hs') → Added z r n hs' v b → Added z r n hs (g ++ (w ++ v)) b
  next_line_lem hs hs' w v b k rest c S (ended e d) t A =
      let t' : ◌≡◌ {A = Next} (pass (done hs)) (pass (again hs')) = rw e at t in
      never cc
  next_line_lem hs hs' {g} w v b k rest c S (passed e o l) t A =
      let t' : ◌≡◌ {A = Next} (pass (again hs)) (pass (again hs')) = rw e at t in
      let same : hs ≡ hs' = cc in
      let B = subst (λ y. Added z r n y v b) (sym same) A in
      record { new = B.new; whole = B.whole; block = grammar.IsHeaderBlock.ignored o c l (no_blank_left r hs w (v ++ rest) S) B.block; fits = B.fits }
  next_line_lem hs hs' {g} w v b k rest c S (field h l e q s f d o) t A =
      let t' : taken n hs (header h) ≡ pass (again hs') = rw q at t in
      let u = again_is (ltb (length hs) n) (fault TooManyHeaders h.name.offset) hs hs' (hs ++ (h ∷ [])) t' in
      let later : IsHeaderBlock r false v (fields_of z A.new) = subst (λ y. IsHeaderBlock r y v (fields_of z A.new)) (ap none_yet (sym u.1) ∙ none_behind hs h) A.block in
      record {
        new = h ∷ A.new;
        whole = A.whole ∙ ap (λ y. y ++ A.new) (sym u.1) ∙ append_assoc hs (h ∷ []) A.new;
        block = subst (λ y. IsHeaderBlock r (none_yet hs) (g ++ (y ++ v)) (fields_of z (h ∷ A.new))) (sym s) (grammar.IsHeaderBlock.field c f d (no_fold_left r v rest o) later);
        fits = λ i. A.fits (let j : length hs < n = ltb-true (length hs) n u.0 in omega (arith, ap length u.1, length-append hs (h ∷ [])));
      }

  pub block_derived : {hs : List Header} {p : ℕ} {w : List ℕ} {b : List Header} {rest : List ℕ} → At z p w rest → Laps (Lapped r n) hs p w b rest → Added z r n hs w b
  block_derived h (last {a = hs} {b = b} K) =
      let B = K.holds in
      subst (λ y. Added z r n hs y b) (sym B.whole)
      (last_line hs B.w₂ b K.a (before_derived r hs B.left.all) (line_derived (at_second B.w₁ B.w₂ (at_as B.whole h)) B.right) K.passes)
  block_derived h (next {a = hs} {a' = hs'} {w₁ = w} {w₂ = v} {b = b} {rest = rest} K k) =
      let B = K.holds in
      subst (λ y. Added z r n hs y b) (sym (append_assoc B.w₁ B.w₂ v) ∙ ap (λ y. y ++ v) (sym B.whole))
      (next_line_lem hs hs' B.w₂ v b K.a rest (before_derived r hs B.left.all) B.left.stops (line_derived (at_second B.w₁ B.w₂ (at_as B.whole (at_first w v h))) B.right) K.passes (block_derived (at_second w v h) k))

-- no line's end begins with a blank, and no field line does
pub end_begins : {r : Rules} {e : List ℕ} → IsLineEnd r e → (rest : List ℕ) → NoBlank (e ++ rest)
end_begins crlf rest = record { b = 13; ys = 10 ∷ rest; whole = refl; solid = cr_no_blank }
end_begins (lf h) rest = record { b = 10; ys = rest; whole = refl; solid = lf_no_blank }

pub field_begins : {r : Rules} {w : List ℕ} {f : Field} → IsFieldLine r w f → (rest : List ℕ) → NoBlank (w ++ rest)
field_begins (grammar.IsFieldLine.line (some {b = b} x n) s o v t) rest = record { b = b; ys = _; whole = refl; solid = token_no_blank b ((token_is_tchar b).1 x) }

-- so where folds are allowed no block behind a field does
pub block_begins : {r : Rules} {first : Bool} {b : List ℕ} {fs : List Field} → IsHeaderBlock r first b fs → grammar.NoFoldLeft r b → (rest : List ℕ) → NoMore r (b ++ rest)
block_begins {b = []} k o rest t = absurd (omega (arith, block_long k))
block_begins {b = c ∷ b} k o rest t = record { b = c; ys = b ++ rest; whole = refl; solid = by (is_blank c) refl }
  where
    by : (u : Bool) → is_blank c ≡ u → u ≡ false
    by true h = absurd (o t c b refl ((blank_is_blank c).0 h))
    by false h = refl

-- the answer of a line that stands at a place
pub line_at : {z : List ℕ} {r : Rules} {p : ℕ} {w : List ℕ} {k : Kind} {rest : List ℕ} → At z p w rest → Lined r p w k rest → line r z p ≡ got k (p + length w)
line_at {z} {r} {p} {w} {k} {rest} h K = ap (λ y. answer nothing (run (line_step r) fresh p y)) (from_at h) ∙ ap (answer nothing) ((exact_line r).complete p w rest k K)

-- the first byte of a line that is passed over ends the blanks before it
line_stops : {r : Rules} {first : Bool} (hs : List Header) → first ≡ none_yet hs → {w : List ℕ} → IsIgnoredLine r w → grammar.NoBlankLeft r first w → (v rest : List ℕ) → GapStops (blanks_before r hs) ((w ++ v) ++ rest)
line_stops hs i {w = []} l o v rest = absurd (omega (arith, ignored_long l))
line_stops {r} {first} hs i {w = b ∷ w} l o v rest = record { b = b; ys = (w ++ v) ++ rest; whole = refl; stops = by (blanks_before r hs b) refl }
  where
    by : (t : Bool) → blanks_before r hs b ≡ t → t ≡ false
    by false e = refl
    by true e =
        let u = both_true (r.space_before_first_name && none_yet hs) (is_blank b) e in
        let y = both_true r.space_before_first_name (none_yet hs) u.0 in
        absurd (o y.0 (i ∙ y.1) b w refl ((blank_is_blank b).0 u.1))

module _ (z : List ℕ) (r : Rules) (n : ℕ) where
  -- a header that has a slot, and one that has none
  pub one_more : (hs : List Header) (h : Header) {p i : ℕ} (q : ℕ) → Skipped (blanks_before r hs) z p i → line r z i ≡ got (header h) q → length hs < n → block r n hs z p ≡ block r n (hs ++ (h ∷ [])) z q
  one_more hs h q g e l = block_line r n hs g ∙ rw (e, lt-ltb (length hs) n l)

  pub one_over : (hs : List Header) (h : Header) {p i : ℕ} (q : ℕ) → Skipped (blanks_before r hs) z p i → line r z i ≡ got (header h) q → n ≤ length hs → block r n hs z p ≡ bad (fault TooManyHeaders h.name.offset, hs)
  one_over hs h q g e l = block_line r n hs g ∙ rw (e, le-ltb (length hs) n l)

  pub one_ignored : (hs : List Header) {p i : ℕ} (q : ℕ) → Skipped (blanks_before r hs) z p i → line r z i ≡ got ignored q → block r n hs z p ≡ block r n hs z q
  one_ignored hs q g e = block_line r n hs g ∙ rw e

  pub the_end : (hs : List Header) {p i : ℕ} (q : ℕ) → Skipped (blanks_before r hs) z p i → line r z i ≡ got end q → block r n hs z p ≡ got hs q
  the_end hs q g e = block_line r n hs g ∙ rw e

  -- where the fields fit all of them are given
  pub record Fits (hs : List Header) (p : ℕ) (w : List ℕ) (fs : List Field) : Type 0 where
    pub new : List Header
    pub holds : fields_of z new ≡ fs
    pub answers : block r n hs z p ≡ got (hs ++ new) (p + length w)

  -- where they don't, those that fit are
  pub record Over (hs : List Header) (p : ℕ) (fs : List Field) : Type 0 where
    pub new : List Header
    pub position : ℕ
    pub holds : fields_of z new ≡ take (n - length hs) fs
    pub answers : block r n hs z p ≡ bad (fault TooManyHeaders position, hs ++ new)

  -- a field line behind what stands before it, and the block behind its end
  record FieldAt (hs : List Header) (p : ℕ) (g w e v rest : List ℕ) (f : Field) : Type 0 where
    h : Header
    q : ℕ
    holds : field_of z h ≡ f
    passed : Skipped (blanks_before r hs) z p (p + length g)
    reads : line r z (p + length g) ≡ got (header h) q
    behind : At z q v rest
    place : q + length v ≡ p + length (g ++ (w ++ e ++ v))

  field_at : {first : Bool} {p : ℕ} {g w e v rest : List ℕ} {f : Field} {fs : List Field} (hs : List Header) → first ≡ none_yet hs → At z p (g ++ (w ++ e ++ v)) rest → IsBeforeFirstName r first g → IsFieldLine r w f → IsLineEnd r e → grammar.NoFoldLeft r v → IsHeaderBlock r false v fs → FieldAt hs p g w e v rest f
  field_at {p = p} {g = g} {w = w} {e = e} {v = v} {rest = rest} hs first h c f d o k =
      let h₀ = at_second g (w ++ e ++ v) h in
      let h₁ = at_first (w ++ e) v h₀ in
      let H = field_read h₁ f d (block_begins k o rest) in
      let N : NoBlank ((w ++ e ++ v) ++ rest) = subst NoBlank (sym (append_assoc (w ++ e) v rest ∙ append_assoc w e (v ++ rest))) (field_begins f (e ++ (v ++ rest))) in
      record {
        h = H.h;
        q = p + length g + length (w ++ e);
        holds = H.holds;
        passed = before_read r hs first (at_first g (w ++ e ++ v) h) c N;
        reads = line_at h₁ H.reads;
        behind = at_second (w ++ e) v h₀;
        place = omega (arith, length-append (w ++ e) v, length-append g (w ++ e ++ v));
      }

  -- a line that is passed over, behind what stands before it, and the block behind it
  record IgnoredAt (hs : List Header) (p : ℕ) (g w v rest : List ℕ) : Type 0 where
    q : ℕ
    behind : At z q v rest
    answers : block r n hs z p ≡ block r n hs z q
    place : q + length v ≡ p + length (g ++ (w ++ v))

  ignored_at : {first : Bool} {p : ℕ} {g w v rest : List ℕ} {fs : List Field} (hs : List Header) → first ≡ none_yet hs → At z p (g ++ (w ++ v)) rest → IsBeforeFirstName r first g → IsIgnoredLine r w → r.ignore_invalid_headers ≡ true → grammar.NoBlankLeft r first w → IsHeaderBlock r first v fs → IgnoredAt hs p g w v rest
  ignored_at {p = p} {g = g} {w = w} {v = v} {rest = rest} hs i h c l t o k =
      let h₀ = at_second g (w ++ v) h in
      let h₁ = at_first w v h₀ in
      record {
        q = p + length g + length w;
        behind = at_second w v h₀;
        answers = one_ignored hs (p + length g + length w) (before_passed r hs i (at_first g (w ++ v) h) c (line_stops hs i l o v rest)) (line_at h₁ (ignored_read (p + length g) (v ++ rest) t l));
        place = omega (arith, length-append w v, length-append g (w ++ v));
      }

  pub block_read : {first : Bool} {p : ℕ} {w rest : List ℕ} {fs : List Field} → At z p w rest → IsHeaderBlock r first w fs → (hs : List Header) → first ≡ none_yet hs → length hs + length fs ≤ n → Fits hs p w fs
  block_read {p = p} {rest = rest} h (grammar.IsHeaderBlock.end {s = s} {e = e} c d) hs i l =
      let q : p + length s + length e ≡ p + length (s ++ e) = omega (arith, length-append s e) in
      record { new = []; holds = refl; answers = the_end hs (p + length s + length e) (before_read r hs i (at_first s e h) c (end_begins d rest)) (line_at (at_second s e h) (end_read d)) ∙ ap (got hs) q ∙ ap (λ y. got y (p + length (s ++ e))) (sym (append-nil hs)) }
  block_read {p = p} {rest = rest} h (grammar.IsHeaderBlock.ignored {s = s} {w = w} {b = v} t c g o k) hs i l =
      let H = ignored_at hs i h c g t o k in
      let K = block_read H.behind k hs i l in
      record { new = K.new; holds = K.holds; answers = H.answers ∙ K.answers ∙ ap (got (hs ++ K.new)) H.place }
  block_read {p = p} {rest = rest} h (grammar.IsHeaderBlock.field {s = s} {w = w} {e = e} {b = v} {f = g} c f d o k) hs i l =
      let H = field_at hs i h c f d o k in
      let m : length (hs ++ (H.h ∷ [])) ≡ length hs + 1 = length-append hs (H.h ∷ []) in
      let K = block_read H.behind k (hs ++ (H.h ∷ [])) (sym (none_behind hs H.h)) (omega (arith, m, l)) in
      record {
        new = H.h ∷ K.new;
        holds = ap (λ y. y ∷ fields_of z K.new) H.holds ∙ ap (λ y. g ∷ y) K.holds;
        answers = one_more hs H.h H.q H.passed H.reads (omega (arith, l)) ∙ K.answers ∙ ap (λ y. got y (H.q + length v)) (append_assoc hs (H.h ∷ []) K.new) ∙ ap (got (hs ++ (H.h ∷ K.new))) H.place;
      }

  over_by : {p i : ℕ} {fs : List Field} {f : Field} (hs : List Header) (h : Header) (q : ℕ) → Skipped (blanks_before r hs) z p i → line r z i ≡ got (header h) q → field_of z h ≡ f → length hs ≤ n → (length hs < n → Over (hs ++ (h ∷ [])) q fs) → (t : Bool) → ltb (length hs) n ≡ t → Over hs p (f ∷ fs)
  over_by {fs = fs} {f = f} hs h q s e g l go true u =
      let K = go (ltb-true (length hs) n u) in
      let m : length (hs ++ (h ∷ [])) ≡ length hs + 1 = length-append hs (h ∷ []) in
      let j : n - length hs ≡ suc (n - length (hs ++ (h ∷ []))) = omega (arith, m, ltb-true (length hs) n u) in
      record {
        new = h ∷ K.new;
        position = K.position;
        holds = ap (λ y. y ∷ fields_of z K.new) g ∙ ap (λ y. f ∷ y) K.holds ∙ sym (ap (λ y. take y (f ∷ fs)) j);
        answers = one_more hs h q s e (ltb-true (length hs) n u) ∙ K.answers ∙ ap (λ y. bad (fault TooManyHeaders K.position, y)) (append_assoc hs (h ∷ []) K.new);
      }
  over_by {fs = fs} {f = f} hs h q s e g l go false u =
      let o : n ≤ length hs = ltb-false (length hs) n u in
      let j : n - length hs ≡ 0 = omega (arith, o) in
      record { new = []; position = h.name.offset; holds = sym (ap (λ y. take y (f ∷ fs)) j); answers = one_over hs h q s e o ∙ ap (λ y. bad (fault TooManyHeaders h.name.offset, y)) (sym (append-nil hs)) }

  pub block_over : {first : Bool} {p : ℕ} {w rest : List ℕ} {fs : List Field} → At z p w rest → IsHeaderBlock r first w fs → (hs : List Header) → first ≡ none_yet hs → length hs ≤ n → n < length hs + length fs → Over hs p fs
  block_over h (grammar.IsHeaderBlock.end c d) hs i l o = absurd (omega (arith, l, o))
  block_over h (grammar.IsHeaderBlock.ignored t c g b k) hs i l o =
      let H = ignored_at hs i h c g t b k in
      let K = block_over H.behind k hs i l o in
      record { new = K.new; position = K.position; holds = K.holds; answers = H.answers ∙ K.answers }
  block_over h (grammar.IsHeaderBlock.field c f d b k) hs i l o =
      let H = field_at hs i h c f d b k in
      let m : length (hs ++ (H.h ∷ [])) ≡ length hs + 1 = length-append hs (H.h ∷ []) in
      over_by hs H.h H.q H.passed H.reads H.holds l
      (λ j. block_over H.behind k (hs ++ (H.h ∷ [])) (sym (none_behind hs H.h)) (omega (arith, m, j)) (omega (arith, m, o))) (ltb (length hs) n) refl

  -- a header's pieces end before its line does
  header_in : (p q : ℕ) (h : Header) → line r z p ≡ got (header h) q → HeaderIn (length z) h
  header_in p q h e =
      let P = (exact_line r).sound p (drop p z) (header h) q (answered nothing _ e) in
      let s : 1 ≤ length P.w = line_long r p P.w (header h) P.rest P.holds in
      let l : length z - p ≡ length P.w + length P.rest = sym (length-drop p z) ∙ ap length P.whole ∙ length-append P.w P.rest in
      let k = line_in P.holds in
      (omega (arith, k.0, s, l), omega (arith, k.1, s, l))

  pub line_first : (p q : ℕ) (h : Header) → line r z p ≡ got (header h) q → h.name.offset ≡ p
  line_first p q h e = name_first r ((exact_line r).sound p (drop p z) (header h) q (answered nothing _ e)).holds

  -- a line's end is behind its start, and in the input
  pub line_within : (p q : ℕ) (k : Kind) → line r z p ≡ got k q → (p + 1 ≤ q) × (q ≤ length z)
  line_within p q k e =
      let P = (exact_line r).sound p (drop p z) k q (answered nothing _ e) in
      let l : length z - p ≡ length P.w + length P.rest = sym (length-drop p z) ∙ ap length P.whole ∙ length-append P.w P.rest in
      let s : 1 ≤ length P.w = line_long r p P.w k P.rest P.holds in
      (omega (arith, P.place, s), omega (arith, P.place, s, l))

  -- what holds of the headers before a block, and still holds with one more that is read, holds of all that are given
  module _ (P : List Header → Type 0) (grows : (hs : List Header) (h : Header) (p q : ℕ) → line r z p ≡ got (header h) q → length hs < n → P hs → P (hs ++ (h ∷ []))) where
    given_line : (hs : List Header) (p i : ℕ) → p ≤ i → P hs → ((hs' : List Header) (q : ℕ) → P hs' → p + 1 ≤ q → q ≤ length z → P (given (block r n hs' z q))) → (a : Answer (Unit {0}) Kind Fault) → line r z i ≡ a → P (given (rounds (retold (λ _. hs) (taken n hs) (λ e. (e, hs)) a) (λ hs' q. block r n hs' z q)))
    given_line hs p i s f ih (short u) e = f
    given_line hs p i s f ih (bad x) e = f
    given_line hs p i s f ih (got end q) e = f
    given_line hs p i s f ih (got ignored q) e = let k = line_within i q ignored e in ih hs q f (omega (arith, k.0, s)) k.1
    given_line hs p i s f ih (got (header h) q) e =
        split (λ v. P (given (rounds (verdict {U = Unit {0}} (λ _. hs) (taken n hs) (λ e. (e, hs)) v q) (λ hs' q. block r n hs' z q)))) (ltb (length hs) n)
        (λ t. let k = line_within i q (header h) e in ih (hs ++ (h ∷ [])) q (grows hs h i q e (ltb-true (length hs) n t) f) (omega (arith, k.0, s)) k.1)
        (λ t. f)

    given_step : (hs : List Header) (p : ℕ) → P hs → ((hs' : List Header) (q : ℕ) → P hs' → p + 1 ≤ q → q ≤ length z → P (given (block r n hs' z q))) → P (given (block r n hs z p))
    given_step hs p f ih =
        let g = end_skipped (blanks_before r hs) z p in
        let i : ℕ = gap_end (blanks_before r hs) z p in
        subst (λ a. P (given a)) (sym (block_line r n hs g)) (given_line hs p i g.passed.from f ih (line r z i) refl)

    given_by : (m : ℕ) (hs : List Header) (p : ℕ) → length z ≤ p + m → P hs → P (given (block r n hs z p))
    given_by zero hs p l f = given_step hs p f (λ hs' q g i j. absurd (omega (arith, i, j, l)))
    given_by (suc m) hs p l f = given_step hs p f (λ hs' q g i j. given_by m hs' q (omega (arith, i, l)) g)

    pub given_all : (hs : List Header) (p : ℕ) → P hs → P (given (block r n hs z p))
    given_all hs p = given_by (length z) hs p (omega arith)

  -- no more headers are given than there are slots
  pub few_fields : (hs : List Header) (p : ℕ) → length hs ≤ n → length (given (block r n hs z p)) ≤ n
  few_fields = given_all (λ hs. length hs ≤ n) (λ hs h p q e l f. omega (arith, l, length-append hs (h ∷ [])))

  -- each lies in the input
  pub fields_in : (hs : List Header) (p : ℕ) → Each (HeaderIn (length z)) hs → Each (HeaderIn (length z)) (given (block r n hs z p))
  fields_in = given_all (Each (HeaderIn (length z))) (λ hs h p q e l f. each_more (HeaderIn (length z)) hs h f (header_in p q h e))

-- the name of a header that is given is a name, and its value a value
abbrev pub HeaderIs : List ℕ → Rules → Header → Type 0
HeaderIs z r h = IsFieldName (field_of z h).name × IsValueLines r (field_of z h).value

pub are_fields : (z : List ℕ) (r : Rules) (hs : List Header) → Each (HeaderIs z r) hs → AreFields r (fields_of z hs)
are_fields z r [] k = tt
are_fields z r (h ∷ hs) k = (k.0.0, k.0.1, are_fields z r hs k.1)

line_field : {r : Rules} {l : List ℕ} {f : Field} → IsFieldLine r l f → IsFieldName f.name × IsValueLines r f.value
line_field (grammar.IsFieldLine.line n s o v t) = (n, v)

pub header_same : {h g : Header} → header h ≡ header g → h ≡ g
header_same e = cc

module _ (z : List ℕ) (r : Rules) (n : ℕ) where
  header_is : (p q : ℕ) (h : Header) → line r z p ≡ got (header h) q → HeaderIs z r h
  header_is p q h e =
      let P = (exact_line r).sound p (drop p z) (header h) q (answered nothing _ e) in
      let s : 1 ≤ length P.w = line_long r p P.w (header h) P.rest P.holds in
      let l : length z - p ≡ length P.w + length P.rest = sym (length-drop p z) ∙ ap length P.whole ∙ length-append P.w P.rest in
      by (line_derived (at_drop z p P.w P.rest P.whole (omega (arith, s, l))) P.holds)
    where
      by : {w rest : List ℕ} → LineIs z r w (header h) rest → HeaderIs z r h
      by (ended k d) = never cc
      by (passed k o l) = never cc
      by (field g l e k w f d o) = subst (HeaderIs z r) (sym (header_same k)) (line_field f)

  pub fields_are : (hs : List Header) (p : ℕ) → Each (HeaderIs z r) hs → Each (HeaderIs z r) (given (block r n hs z p))
  fields_are = given_all z r n (Each (HeaderIs z r)) (λ hs h p q e l f. each_more (HeaderIs z r) hs h f (header_is p q h e))
