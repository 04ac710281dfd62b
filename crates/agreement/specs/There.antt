-- A header's line is read where its bytes are, whatever follows; where values may go on over several lines, the byte behind it must be there and be no blank.
-- Assumes nothing.
use Rattle.std.specs.Prelude.{ℕ, ◌+◌, ◌≤◌, ◌≡◌, refl, List, ◌++◌, true, length, take, drop}
use Rattle.std.proofs.Common.{arith, sym, ap, subst, ◌∙◌, length-drop, take-append-drop, length-take-le, take_at, drop_at, drop-drop}
use Rattle.std.proofs.lemmas.List.{drop-append-le}
use Rattle.reader.specs.Machine.{run}
use Rattle.reader.proofs.Laws.{gave_stays, refused_stays}
use Rattle.reader.specs.Branch.{fresh}
use Rattle.reader.specs.Answer.{Answer, got, short, bad, answer}
use Rattle.reader.proofs.Answer.{answered, answered_bad}
use Rattle.reader.specs.Chain.{nothing}
use Rattle.reader.specs.Tests.{never}
use Rattle.exact.specs.Branch.{one, other}
use Rattle.rules.specs.Rules.{Rules}
use Rattle.parts.specs.declared.Fault.{Fault}
use Rattle.fields.specs.declared.Header.{Header}
use Rattle.fields.specs.Line.{Kind, header, ignored, line_step, line}
use Rattle.leaves.specs.Name.{Named}
use Rattle.agreement.specs.Tried.{good, wrong}
use Rattle.agreement.specs.IgnoredLine.{ignored_read}
use Rattle.agreement.specs.Line.{Lined, exact_line}
use Rattle.agreement.specs.Block.{line_long}
use Rattle.agreement.specs.Places.{At, at_drop}
use Rattle.agreement.specs.Names.{NameIs, name_derived, name_read}
use Rattle.agreement.specs.Folded.{lines_same, behind_same}
use Rattle.agreement.specs.FieldLine.{NoMore, LineIs, ended, field, line_derived, passed}
use Rattle.agreement.specs.Fields.{line_at, line_within}

-- a header's line stays one, whatever stands behind it that ends it
lined_same : (r : Rules) {p : ℕ} {w : List ℕ} {h : Header} {rest : List ℕ} (rest' : List ℕ) → NoMore r rest' → Lined r p w (header h) rest → Lined r p w (header h) rest'
lined_same r rest' g (one b bs e t K) = never cc
lined_same r rest' g (other b bs e t (wrong w₁ w₂ o i W R j)) = never cc
lined_same r {p} {w} {h} {rest} rest' g (other b bs e t (good K)) =
    let B = behind_same b bs w rest rest' e (line_long r p w (header h) rest (other b bs e t (good K))) in
    let N : NameIs r p K.w₁ K.a = name_derived K.left in
    let left : Named r p K.w₁ K.a (K.w₂ ++ rest') = subst (λ y. Named r p y K.a (K.w₂ ++ rest')) (sym N.whole) (subst (λ y. Named r p (N.n ++ N.s ++ _) y (K.w₂ ++ rest')) (sym N.place) (name_read p (K.w₂ ++ rest') N.name N.behind)) in
    other b B.0 B.1 t (good (record { w₁ = K.w₁; w₂ = K.w₂; a = K.a; left = left; right = record { a = K.right.a; holds = lines_same rest' g K.right.holds; passes = K.right.passes }; whole = K.whole }))

-- the bytes w of a line stand in any input that begins as z does up to the line's end q
same_bytes : (z z' : List ℕ) (p q : ℕ) (w : List ℕ) → drop p z ≡ w ++ drop q z → q ≡ p + length w → q ≤ length z → take q z' ≡ take q z → drop p z' ≡ w ++ drop q z'
same_bytes z z' p q w whole place inside same =
    let size : length (take q z) ≡ q = length-take-le q z inside in
    let cut : drop p (take q z) ++ drop q z ≡ w ++ drop q z = sym (drop-append-le p (take q z) (drop q z) (omega (arith, size, place))) ∙ ap (drop p) (take-append-drop q z) ∙ whole in
    let w_is : drop p (take q z) ≡ w = sym (take_at (drop p (take q z)) (drop q z) (length w) (omega (arith, length-drop p (take q z), size, place))) ∙ ap (take (length w)) cut ∙ take_at w (drop q z) (length w) refl in
    ap (drop p) (sym (take-append-drop q z') ∙ ap (λ y. y ++ drop q z') same) ∙ drop-append-le p (take q z) (drop q z') (omega (arith, size, place)) ∙ ap (λ y. y ++ drop q z') w_is

-- a line that is passed over is, whatever stands behind it
pub ignored_there : (z : List ℕ) (r : Rules) (n : ℕ) (p : ℕ) {q : ℕ} → line r z p ≡ got ignored q → (z' : List ℕ) → take q z' ≡ take q z → q ≤ length z' → line r z' p ≡ got ignored q
ignored_there z r n p {q} e z' same k =
    let P = (exact_line r).sound p (drop p z) ignored q (answered nothing _ e) in
    let inside = line_within z r n p q ignored e in
    let behind : drop q z ≡ P.rest = ap (λ y. drop y z) P.place ∙ sym (drop-drop (length P.w) p z) ∙ ap (drop (length P.w)) P.whole ∙ drop_at P.w P.rest (length P.w) refl in
    let from : drop p z' ≡ P.w ++ drop q z' = same_bytes z z' p q P.w (P.whole ∙ ap (λ y. P.w ++ y) (sym behind)) P.place inside.1 same in
    by (line_derived (at_drop z p P.w P.rest P.whole (omega (arith, inside))) P.holds) P.place (at_drop z' p P.w (drop q z') from (omega (arith, inside, k)))
  where
    by : {w rest : List ℕ} → LineIs z r w ignored rest → q ≡ p + length w → At z' p w (drop q z') → line r z' p ≡ got ignored q
    by (ended i d) place h = never cc
    by (field x l e i s f d o) place h = never cc
    by (passed i o l) place h = line_at h (ignored_read p (drop q z') o l) ∙ ap (got ignored) (sym place)

-- the line that ends before q is over
abbrev pub Over : Rules → List ℕ → ℕ → Type 0
Over r z q = NoMore r (drop q z)

module _ (z : List ℕ) (r : Rules) (n : ℕ) (p : ℕ) {x : Header} {q : ℕ} (e : line r z p ≡ got (header x) q) where
  inside : (p + 1 ≤ q) × (q ≤ length z)
  inside = line_within z r n p q (header x) e

  -- the bytes of the line, and those behind it
  record Bytes : Type 0 where
    w : List ℕ
    reads : Lined r p w (header x) (drop q z)
    whole : drop p z ≡ w ++ drop q z
    place : q ≡ p + length w

  bytes : Bytes
  bytes =
      let P = (exact_line r).sound p (drop p z) (header x) q (answered nothing _ e) in
      let behind : drop q z ≡ P.rest = ap (λ y. drop y z) P.place ∙ sym (drop-drop (length P.w) p z) ∙ ap (drop (length P.w)) P.whole ∙ drop_at P.w P.rest (length P.w) refl in
      record { w = P.w; reads = subst (Lined r p P.w (header x)) (sym behind) P.holds; whole = P.whole ∙ ap (λ y. P.w ++ y) (sym behind); place = P.place }

  -- the byte behind it is there and no blank
  pub line_is_over : Over r z q
  line_is_over = by (line_derived (at_drop z p bytes.w (drop q z) bytes.whole (omega (arith, inside))) bytes.reads)
    where
      by : {w : List ℕ} → LineIs z r w (header x) (drop q z) → Over r z q
      by (ended i d) = never cc
      by (passed i o l) = never cc
      by (field h l e i s f d o) = o

  -- so the line is read in any input that begins with it and in which it is over
  pub line_there : (z' : List ℕ) → take q z' ≡ take q z → q ≤ length z' → Over r z' q → line r z' p ≡ got (header x) q
  line_there z' same k over =
      let from : drop p z' ≡ bytes.w ++ drop q z' = same_bytes z z' p q bytes.w bytes.whole bytes.place inside.1 same in
      let there = at_drop z' p bytes.w (drop q z') from (omega (arith, inside, k)) in
      line_at there (lined_same r (drop q z') over bytes.reads) ∙ ap (got (header x)) (sym bytes.place)

-- and where nothing stands behind it, more is wanted
module _ (z : List ℕ) (r : Rules) (n : ℕ) (p : ℕ) {x : Header} {q : ℕ} (e : line r z p ≡ got (header x) q) where
  pub line_open : r.multiline_headers ≡ true → line r (take q z) p ≡ short tt
  line_open t = by (line r (take q z) p) refl
    where
      inside : (p + 1 ≤ q) × (q ≤ length z)
      inside = line_within z r n p q (header x) e

      size : length (take q z) ≡ q
      size = length-take-le q z inside.1

      parts : drop p (take q z) ++ drop q z ≡ drop p z
      parts = sym (drop-append-le p (take q z) (drop q z) (omega (arith, size, inside))) ∙ ap (drop p) (take-append-drop q z)

      by : (a : Answer (Unit {0}) Kind Fault) → line r (take q z) p ≡ a → a ≡ short tt
      by (short u) f = refl
      by (bad y) f =
          let w = answered_bad nothing _ f in
          let g : line r z p ≡ bad y = ap (answer nothing) (ap (run (line_step r) fresh p) (sym parts) ∙ refused_stays (line_step r) (drop p (take q z)) (drop q z) fresh p w.1) in
          let k : bad y ≡ got (header x) q = sym g ∙ e in
          never cc
      by (got c i) f =
          let g : line r z p ≡ got c i = ap (answer nothing) (ap (run (line_step r) fresh p) (sym parts) ∙ gave_stays (line_step r) (drop p (take q z)) (drop q z) fresh p (answered nothing _ f)) in
          let k : got c i ≡ got (header x) q = sym g ∙ e in
          let N = line_is_over (take q z) r n p (f ∙ k) t in
          let l = ap length N.whole in
          absurd (omega (arith, length-drop q (take q z), size, l))
