-- The header that has no slot: the bytes before it fill the slots and are incomplete, and its whole line is what is too many.
-- Assumes nothing.
use Rattle.std.specs.Prelude.{ℕ, zero, suc, ◌+◌, ◌≤◌, ◌<◌, ◌≡◌, refl, List, [], ◌∷◌, ◌++◌, Bool, true, false, cond, ◌&&◌, ltb, length, get_or, take, drop}
use Rattle.std.proofs.Common.{arith, sym, ap, subst, ◌∙◌, append_assoc, append-nil, length-append, length-drop, take-append-drop, get_or-take, length-take-le, take_at, drop_at, take-take, ltb-true, ltb-false}
use Rattle.std.proofs.Math.Decide.{dec_lt}
use Rattle.std.proofs.Math.Bool.{and-false}
use Rattle.std.proofs.Math.ListN.{get_or-append}
use Rattle.std.proofs.lemmas.List.{get_or_at, take-append-le, drop-append-le}
use Rattle.reader.specs.Machine.{run}
use Rattle.reader.specs.Judged.{pass, fail}
use Rattle.reader.specs.Loop.{again}
use Rattle.reader.specs.Bytes.{drop_in}
use Rattle.reader.specs.Branch.{fresh}
use Rattle.reader.specs.Answer.{Answer, got, short, bad, answer, retold, rounds}
use Rattle.reader.proofs.Answer.{answered, answered_bad}
use Rattle.reader.specs.Chain.{nothing}
use Rattle.reader.proofs.Refusals.{refused_is}
use Rattle.reader.specs.Skip.{Skipped}
use Rattle.reader.proofs.Decided.{gave_late}
use Rattle.reader.specs.Tests.{clash, never}
use Rattle.octets.specs.Grammar.{IsBlank}
use Rattle.octets.specs.Class.{is_blank}
use Rattle.octets.proofs.Ties.{blank_is_blank}
use Rattle.rules.specs.Rules.{Rules}
use Rattle.grammar.specs.Message.{IsLineEnd}
use Rattle.parts.specs.declared.Error.TheVariants.{TooManyHeaders}
use Rattle.parts.specs.declared.Fault.{Fault}
use Rattle.parts.specs.Answers.{fault}
use Rattle.fields.specs.declared.Header.{Header}
use Rattle.fields.specs.Line.{Kind, header, end, ignored, line_step, line}
use Rattle.gaps.specs.Gap.{gap_end}
use Rattle.gaps.proofs.Gap.{end_skipped}
use Rattle.blocks.specs.Block.{taken, none_yet, blanks_before, block, given}
use Rattle.blocks.proofs.BlockRead.{block_line}
use Rattle.heads.specs.Head.{Heads, over}
use Rattle.agreement.specs.Line.{exact_line}
use Rattle.agreement.specs.Places.{at_drop}
use Rattle.agreement.specs.Before.{before_there}
use Rattle.agreement.specs.Folded.{NoBlank, behind_same}
use Rattle.agreement.specs.FieldLine.{NoMore, LineIs, ended, field, passed, line_derived, end_read}
use Rattle.agreement.specs.There.{Over, line_is_over, line_there, ignored_there, line_open}
use Rattle.agreement.specs.Fields.{end_begins, field_begins, line_at, one_more, one_over, one_ignored, the_end, line_first, line_within, few_fields}
use Rattle.agreement.specs.Full.{Located, line_refuses}
use Rattle.agreement.specs.Promises.{OneTooMany}

module _ (z : List ℕ) (r : Rules) (n : ℕ) where
  -- where it is over in z it is in the first j bytes of z, if one of them is behind it, whatever follows
  over_take : (j : ℕ) (u : List ℕ) (q : ℕ) → j ≤ length z → q < j → Over r z q → Over r (take j z ++ u) q
  over_take j u q i l o t =
      let N = o t in
      let size : length (take j z) ≡ j = length-take-le j z i in
      let from : drop q (take j z) ++ drop j z ≡ N.b ∷ N.ys = sym (drop-append-le q (take j z) (drop j z) (omega (arith, size, l))) ∙ ap (drop q) (take-append-drop j z) ∙ N.whole in
      let B = behind_same N.b N.ys (drop q (take j z)) (drop j z) u from (omega (arith, length-drop q (take j z), size, l)) in
      record { b = N.b; ys = B.0; whole = drop-append-le q (take j z) u (omega (arith, size, l)) ∙ B.1; solid = N.solid }

  -- a header's line is read in the first j bytes of z, whatever follows, where it is over
  header_there : (j : ℕ) (u : List ℕ) (p : ℕ) {h : Header} {q : ℕ} → j ≤ length z → line r z p ≡ got (header h) q → q ≤ j → Over r (take j z ++ u) q → line r (take j z ++ u) p ≡ got (header h) q
  header_there j u p {h} {q} i e l o =
      let size : length (take j z) ≡ j = length-take-le j z i in
      line_there z r n p e (take j z ++ u) (take-append-le q (take j z) u (omega (arith, size, l)) ∙ take-take q j z l) (omega (arith, length-append (take j z) u, size, l)) o

  -- so is an empty one
  empty_there : (j : ℕ) (w : List ℕ) → j ≤ length z → IsLineEnd r w → line r (take j z ++ w) j ≡ got end (j + length w)
  empty_there j w i d = line_at (record { before = take j z; whole = ap (λ y. take j z ++ y) (sym (append-nil w)); place = length-take-le j z i }) (end_read d)

  -- and not before its last byte is there
  line_waits : (j p : ℕ) {k : Kind} {q : ℕ} → j ≤ length z → p ≤ j → line r z p ≡ got k q → j < q → line r (take j z) p ≡ short tt
  line_waits j p {k} {q} i h e l =
      let size : length (take j z) ≡ j = length-take-le j z i in
      let parts : drop p (take j z) ++ drop j z ≡ drop p z = sym (drop-append-le p (take j z) (drop j z) (omega (arith, size, h))) ∙ ap (drop p) (take-append-drop j z) in
      let w = gave_late (line_step r) (drop p (take j z)) (drop j z) fresh p (ap (run (line_step r) fresh p) parts ∙ answered nothing _ e) (omega (arith, length-drop p (take j z), size, h, l)) in
      ap (answer nothing) w.1

  -- no line's end begins with a blank
  end_no_blank : {e : List ℕ} → IsLineEnd r e → NoBlank e
  end_no_blank {e} d = subst NoBlank (append-nil e) (end_begins d [])

  -- the byte that shows that a line is over, in the grammar's words and in the reader's
  line_over : {u : List ℕ} → NoBlank u → (b : ℕ) × (v : List ℕ) × (u ≡ b ∷ v) × (IsBlank b → ⊥)
  line_over N = (N.b, N.ys, N.whole, λ h. clash ((blank_is_blank N.b).1 h) N.solid)

  no_blank : {u : List ℕ} → (b : ℕ) × (v : List ℕ) × (u ≡ b ∷ v) × (IsBlank b → ⊥) → NoBlank u
  no_blank w = record { b = w.0; ys = w.1; whole = w.2; solid = by (is_blank w.0) refl }
    where
      by : (t : Bool) → is_blank w.0 ≡ t → t ≡ false
      by true h = absurd (w.3 ((blank_is_blank w.0).0 h))
      by false h = refl

  -- no header's line begins with a blank
  line_solid : (i q : ℕ) (h : Header) → line r z i ≡ got (header h) q → is_blank (get_or z i 0) ≡ false
  line_solid i q h e =
      let inside = line_within z r n i q (header h) e in
      let P = (exact_line r).sound i (drop i z) (header h) q (answered nothing _ e) in
      by (line_derived (at_drop z i P.w P.rest P.whole (omega (arith, inside))) P.holds) P.whole (omega (arith, inside))
    where
      by : {w rest : List ℕ} → LineIs z r w (header h) rest → drop i z ≡ w ++ rest → i < length z → is_blank (get_or z i 0) ≡ false
      by (ended k d) whole l = never cc
      by (passed k o x) whole l = never cc
      by {rest = rest} (field g w e k s f d o) whole l =
          let N = field_begins f (e ++ rest) in
          let same : get_or z i 0 ∷ drop (i + 1) z ≡ N.b ∷ N.ys = sym (drop_in z i l) ∙ whole ∙ ap (λ y. y ++ rest) s ∙ append_assoc w e rest ∙ N.whole in
          let first : get_or z i 0 ≡ N.b = cc in
          ap is_blank first ∙ N.solid

  -- the header whose line ends at q has no slot
  record Overflow (hs : List Header) (p : ℕ) (x : Fault) (all : List Header) : Type 0 where
    q : ℕ
    h : Header
    reads : line r z x.position ≡ got (header h) q
    from : p ≤ x.position
    waits : (j : ℕ) → x.position ≤ j → (j ≡ x.position → r.multiline_headers ≡ false) → j < q → block r n hs (take j z) p ≡ short all
    undecided : r.multiline_headers ≡ true → block r n hs (take q z) p ≡ short all
    decides : (u : List ℕ) → NoMore r u → block r n hs (take q z ++ u) p ≡ bad (x, all)
    begins : (e : List ℕ) → IsLineEnd r e → block r n hs (take x.position z ++ e) p ≡ got all (x.position + length e)

  over_here : (hs : List Header) (p i q : ℕ) (h : Header) → Skipped (blanks_before r hs) z p i → line r z i ≡ got (header h) q → n ≤ length hs → Overflow hs p (fault TooManyHeaders h.name.offset) hs
  over_here hs p i q h g e l =
      let at_i : h.name.offset ≡ i = line_first z r n i q h e in
      let inside = line_within z r n i q (header h) e in
      let solid : is_blank (get_or z i 0) ≡ false = line_solid i q h e in
      let passed : (y : List ℕ) → take i y ≡ take i z → (i < length y → is_blank (get_or y i 0) ≡ false) → Skipped (blanks_before r hs) y p i = λ y same stops. before_there z y i g (omega arith) (omega (arith, inside)) same (λ _ c. rw (stops c) (and-false (r.space_before_first_name && none_yet hs))) in
      let passed_in : (j : ℕ) (u : List ℕ) → i < j → j ≤ length z → Skipped (blanks_before r hs) (take j z ++ u) p i = λ j u c k. passed (take j z ++ u) (take-append-le i (take j z) u (omega (arith, length-take-le j z k, c)) ∙ take-take i j z (omega arith)) (λ _. ap is_blank (get_or-append (take j z) u 0 i (omega (arith, length-take-le j z k, c)) ∙ get_or-take j z i 0 c) ∙ solid) in
      record {
        q = q;
        h = h;
        reads = ap (line r z) at_i ∙ e;
        from = omega (arith, at_i, g.passed.from);
        waits = λ j c _ k. block_line r n hs (passed (take j z) (take-take i j z (omega (arith, at_i, c))) (λ y. ap is_blank (get_or-take j z i 0 (omega (arith, y, length-take-le j z (omega (arith, k, inside.1))))) ∙ solid)) ∙ rw (line_waits j i (omega (arith, k, inside.1)) (omega (arith, at_i, c)) e k);
        undecided = λ t. block_line r n hs (subst (λ y. Skipped (blanks_before r hs) y p i) (append-nil (take q z)) (passed_in q [] (omega (arith, inside)) inside.1)) ∙ rw (line_open z r n i e t);
        decides = λ u o. one_over (take q z ++ u) r n hs h q (passed_in q u (omega (arith, inside)) inside.1) (header_there q u i inside.1 e (omega arith) (λ t. subst NoBlank (sym (drop_at (take q z) u q (length-take-le q z inside.1))) (o t))) l;
        begins = λ w d.
            let size : length (take i z) ≡ i = length-take-le i z (omega (arith, inside)) in
            let N = end_no_blank d in
            ap (λ y. block r n hs (take y z ++ w) p) at_i
            ∙ the_end (take i z ++ w) r n hs (i + length w) (passed (take i z ++ w) (take-append-le i (take i z) w (omega (arith, size)) ∙ take-take i i z (omega arith)) (λ _. ap is_blank (ap (λ y. get_or (take i z ++ y) i 0) N.whole ∙ get_or_at (take i z) N.b N.ys 0 i size) ∙ N.solid)) (empty_there i w (omega (arith, inside)) d)
            ∙ ap (λ y. got hs (y + length w)) (sym at_i);
      }

  over_later : (hs : List Header) (p i q : ℕ) (h : Header) (x : Fault) (all : List Header) → Skipped (blanks_before r hs) z p i → line r z i ≡ got (header h) q → length hs < n → Overflow (hs ++ (h ∷ [])) q x all → Overflow hs p x all
  over_later hs p i q h x all g e l O =
      let here = line_within z r n i q (header h) e in
      let inside = line_within z r n x.position O.q (header O.h) O.reads in
      let is_over = line_is_over z r n i e in
      let all_of : (j : ℕ) → take j z ++ [] ≡ take j z = λ j. append-nil (take j z) in
      let passed : (j : ℕ) (u : List ℕ) → x.position ≤ j → j ≤ length z → Skipped (blanks_before r hs) (take j z ++ u) p i = λ j u c k. before_there z (take j z ++ u) x.position g (omega (arith, here.0, O.from)) (omega (arith, inside)) (take-append-le x.position (take j z) u (omega (arith, length-take-le j z k, c)) ∙ take-take x.position j z c) (λ same. absurd (omega (arith, same, here.0, O.from))) in
      let passed_in : (j : ℕ) → x.position ≤ j → j ≤ length z → Skipped (blanks_before r hs) (take j z) p i = λ j c k. subst (λ y. Skipped (blanks_before r hs) y p i) (all_of j) (passed j [] c k) in
      record {
        q = O.q;
        h = O.h;
        reads = O.reads;
        from = omega (arith, here.0, O.from, g.passed.from);
        waits = λ j c m k.
            one_more (take j z) r n hs h q (passed_in j c (omega (arith, k, inside.1))) (subst (λ y. line r y i ≡ got (header h) q) (all_of j) (header_there j [] i (omega (arith, k, inside.1)) e (omega (arith, O.from, c)) (behind j c m (omega (arith, k, inside.1)) is_over (dec_lt q j)))) l ∙ O.waits j c m k;
        undecided = λ t.
            one_more (take O.q z) r n hs h q (passed_in O.q (omega (arith, inside.0)) inside.1) (subst (λ y. line r y i ≡ got (header h) q) (all_of O.q) (header_there O.q [] i inside.1 e (omega (arith, O.from, inside.0)) (over_take O.q [] q inside.1 (omega (arith, O.from, inside.0)) is_over))) l ∙ O.undecided t;
        decides = λ u o. one_more (take O.q z ++ u) r n hs h q (passed O.q u (omega (arith, inside.0)) inside.1) (header_there O.q u i inside.1 e (omega (arith, O.from, inside.0)) (over_take O.q u q inside.1 (omega (arith, O.from, inside.0)) is_over)) l ∙ O.decides u o;
        begins = λ w d. one_more (take x.position z ++ w) r n hs h q (passed x.position w (omega arith) (omega (arith, inside))) (header_there x.position w i (omega (arith, inside)) e O.from (empty w d (omega (arith, inside)) is_over (dec_lt q x.position))) l ∙ O.begins w d;
      }
    where
      behind : (j : ℕ) → x.position ≤ j → (j ≡ x.position → r.multiline_headers ≡ false) → j ≤ length z → Over r z q → Dec (q < j) → Over r (take j z ++ []) q
      behind j a m k o (yes c) = over_take j [] q k c o
      behind j a m k o (no c) = λ t. absurd (clash t (m (omega (arith, c, a, O.from))))

      empty : (w : List ℕ) → IsLineEnd r w → x.position ≤ length z → Over r z q → Dec (q < x.position) → Over r (take x.position z ++ w) q
      empty w d a o (yes c) = over_take x.position w q a c o
      empty w d a o (no c) = λ t. subst NoBlank (sym (drop_at (take x.position z) w q (omega (arith, length-take-le x.position z a, O.from, c)))) (end_no_blank d)

  -- it lies behind a line that is passed over where it lies behind that line's end
  over_ignored : (hs : List Header) (p i q : ℕ) (x : Fault) (all : List Header) → Skipped (blanks_before r hs) z p i → line r z i ≡ got ignored q → Overflow hs q x all → Overflow hs p x all
  over_ignored hs p i q x all g e O =
      let here = line_within z r n i q ignored e in
      let inside = line_within z r n x.position O.q (header O.h) O.reads in
      let size : (j : ℕ) → j ≤ length z → length (take j z) ≡ j = λ j k. length-take-le j z k in
      let onto : (j : ℕ) (u : List ℕ) → x.position ≤ j → j ≤ length z → block r n hs (take j z ++ u) p ≡ block r n hs (take j z ++ u) q = λ j u c k.
      one_ignored (take j z ++ u) r n hs q
      (before_there z (take j z ++ u) x.position g (omega (arith, here.0, O.from)) (omega (arith, inside)) (take-append-le x.position (take j z) u (omega (arith, size j k, c)) ∙ take-take x.position j z c) (λ same. absurd (omega (arith, same, here.0, O.from))))
      (ignored_there z r n i e (take j z ++ u) (take-append-le q (take j z) u (omega (arith, size j k, c, O.from)) ∙ take-take q j z (omega (arith, c, O.from))) (omega (arith, length-append (take j z) u, size j k, c, O.from))) in
      let alone : (j : ℕ) → x.position ≤ j → j ≤ length z → block r n hs (take j z) p ≡ block r n hs (take j z) q = λ j c k. subst (λ y. block r n hs y p ≡ block r n hs y q) (append-nil (take j z)) (onto j [] c k) in
      record {
        q = O.q;
        h = O.h;
        reads = O.reads;
        from = omega (arith, here.0, O.from, g.passed.from);
        waits = λ j c m k. alone j c (omega (arith, k, inside.1)) ∙ O.waits j c m k;
        undecided = λ t. alone O.q (omega (arith, inside.0)) inside.1 ∙ O.undecided t;
        decides = λ u o. onto O.q u (omega (arith, inside.0)) inside.1 ∙ O.decides u o;
        begins = λ w d. onto x.position w (omega arith) (omega (arith, inside)) ∙ O.begins w d;
      }

  module _ (x : Fault) (all : List Header) (o : x.error ≡ TooManyHeaders) where
    over_line : (hs : List Header) (p i : ℕ) → Skipped (blanks_before r hs) z p i → ((hs' : List Header) (q : ℕ) → p + 1 ≤ q → q ≤ length z → block r n hs' z q ≡ bad (x, all) → Overflow hs' q x all) → (a : Answer (Unit {0}) Kind Fault) → line r z i ≡ a → rounds (retold (λ _. hs) (taken n hs) (λ e. (e, hs)) a) (λ hs' q. block r n hs' z q) ≡ bad (x, all) → Overflow hs p x all
    over_line hs p i g ih (short u) e b = never cc
    over_line hs p i g ih (bad y) e b =
        let v : ◌≡◌ {A = Fault × List Header} (y, hs) (x, all) = cc in
        let w = answered_bad nothing _ e in
        let d = refused_is Located (line_step r) (line_refuses r) (drop i z) fresh i y w.0 w.1 in
        absurd (d.ordinary (ap (λ y. y.0.error) v ∙ o))
    over_line hs p i g ih (got end q) e b = never cc
    over_line hs p i g ih (got ignored q) e b = let k = line_within z r n i q ignored e in over_ignored hs p i q x all g e (ih hs q (omega (arith, k.0, g.passed.from)) k.1 b)
    over_line hs p i g ih (got (header h) q) e b = by (ltb (length hs) n) refl b
      where
        by : (t : Bool) → ltb (length hs) n ≡ t → rounds (retold {U = Unit {0}} (λ _. hs) (λ _. cond t (pass (again (hs ++ (h ∷ [])))) (fail (fault TooManyHeaders h.name.offset, hs))) (λ (e : Fault). (e, hs)) (got (header h) q)) (λ hs' q. block r n hs' z q) ≡ bad (x, all) → Overflow hs p x all
        by true t b = let k = line_within z r n i q (header h) e in over_later hs p i q h x all g e (ltb-true (length hs) n t) (ih (hs ++ (h ∷ [])) q (omega (arith, k.0, g.passed.from)) k.1 b)
        by false t b =
            let v : ◌≡◌ {A = Fault × List Header} (fault TooManyHeaders h.name.offset, hs) (x, all) = cc in
            subst (λ y. Overflow hs p y.0 y.1) v (over_here hs p i q h g e (ltb-false (length hs) n t))

    over_step : (hs : List Header) (p : ℕ) → ((hs' : List Header) (q : ℕ) → p + 1 ≤ q → q ≤ length z → block r n hs' z q ≡ bad (x, all) → Overflow hs' q x all) → block r n hs z p ≡ bad (x, all) → Overflow hs p x all
    over_step hs p ih b =
        let g = end_skipped (blanks_before r hs) z p in
        over_line hs p (gap_end (blanks_before r hs) z p) g ih (line r z (gap_end (blanks_before r hs) z p)) refl (sym (block_line r n hs g) ∙ b)

    over_by : (m : ℕ) (hs : List Header) (p : ℕ) → length z ≤ p + m → block r n hs z p ≡ bad (x, all) → Overflow hs p x all
    over_by zero hs p l b = over_step hs p (λ hs' q i j. absurd (omega (arith, i, j, l))) b
    over_by (suc m) hs p l b = over_step hs p (λ hs' q i j. over_by m hs' q (omega (arith, i, l))) b

    -- read is the block behind a start line that told k, wherever the bytes before the error are there
    module _ {K : Type 0} (read : List ℕ → Heads K) (k : K) (q₀ : ℕ) (b : block r n [] z q₀ ≡ bad (x, all)) (full : n ≤ length all) (lift : q₀ ≤ x.position → x.position ≤ length z → (y : List ℕ) → take x.position y ≡ take x.position z → read y ≡ over k (block r n [] y q₀)) where
      pub one_too_many : OneTooMany r n read z x.position
      one_too_many =
          let O = over_by (length z) [] q₀ (omega arith) b in
          let c : ℕ = x.position in
          let P = (exact_line r).sound c (drop c z) (header O.h) O.q (answered nothing _ O.reads) in
          let inside = line_within z r n c O.q (header O.h) O.reads in
          by O P.rest (line_derived (at_drop z c P.w P.rest P.whole (omega (arith, inside))) P.holds) P.whole P.place
        where
          few : length all ≤ n
          few = subst (λ y. length (given y) ≤ n) b (few_fields z r n [] q₀ (omega arith))

          by : (O : Overflow [] q₀ x all) {w : List ℕ} (rest : List ℕ) → LineIs z r w (header O.h) rest → drop x.position z ≡ w ++ rest → O.q ≡ x.position + length w → OneTooMany r n read z x.position
          by O rest (ended i d) whole place = never cc
          by O rest (passed i o' y) whole place = never cc
          by O {w} rest (field g l e i s f d o') whole place =
              let c : ℕ = x.position in
              let inside = line_within z r n c O.q (header O.h) O.reads in
              let parts : z ≡ take c z ++ ((l ++ e) ++ rest) = sym (take-append-drop c z) ∙ ap (λ y. take c z ++ y) (whole ∙ ap (λ y. y ++ rest) s) in
              let size : length (take c z) ≡ c = length-take-le c z (omega (arith, inside)) in
              let long : O.q ≡ c + length (l ++ e) = place ∙ ap (λ y. c + length y) s in
              let all_of : z ≡ (take c z ++ (l ++ e)) ++ rest = parts ∙ sym (append_assoc (take c z) (l ++ e) rest) in
              let up_to : take O.q z ≡ take c z ++ (l ++ e) = ap (take O.q) all_of ∙ take_at (take c z ++ (l ++ e)) rest O.q (omega (arith, length-append (take c z) (l ++ e), size, long)) in
              let located : x ≡ fault TooManyHeaders c = ap (λ y. fault y c) o in
              let as_block = lift O.from (omega (arith, inside)) in
              let told : read z ≡ over k (bad (x, all)) = as_block z refl ∙ ap (over k) b in
              record {
                line = l;
                end = e;
                rest = rest;
                field = _;
                whole = parts;
                is_line = f;
                is_end = d;
                is_over = λ t. line_over (o' t);
                known = k;
                headers = all;
                told = told ∙ ap (λ y. bad (y, (k, all))) located;
                full = omega (arith, few, full);
                waits = λ j m i. as_block (take (c + j) z) (take-take c (c + j) z (omega arith)) ∙ ap (over k) (O.waits (c + j) (omega arith) (λ y. m (omega (arith, y))) (omega (arith, long, i)));
                undecided = λ t. ap read (sym up_to) ∙ as_block (take O.q z) (take-take c O.q z (omega (arith, inside.0))) ∙ ap (over k) (O.undecided t);
                decides = λ u o''.
                    ap read (sym (append_assoc (take c z) (l ++ e) u) ∙ ap (λ y. y ++ u) (sym up_to))
                    ∙ as_block (take O.q z ++ u) (take-append-le c (take O.q z) u (omega (arith, length-take-le O.q z inside.1, inside.0)) ∙ take-take c O.q z (omega (arith, inside.0)))
                    ∙ ap (over k) (O.decides u (λ t. no_blank (o'' t))) ∙ sym told;
                begins = λ w t. as_block (take c z ++ w) (take-append-le c (take c z) w (omega (arith, size)) ∙ take-take c c z (omega arith)) ∙ ap (over k) (O.begins w t);
              }
