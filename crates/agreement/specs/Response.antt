-- A status line is read exactly where the grammar has one behind empty lines, and its piece holds the reason.
-- Assumes nothing.
use Rattle.std.specs.Prelude.{ℕ, ◌≡◌, refl, List, ◌++◌, Bool, ◌&&◌}
use Rattle.std.proofs.Common.{sym, ap, subst, ◌∙◌, append_assoc, arith}
use Rattle.std.proofs.Math.Bool.{and-false}
use Rattle.reader.specs.Tests.{clash}
use Rattle.rules.specs.Rules.{Rules}
use Rattle.grammar.specs.Message.{space, IsEmptyLines, IsLineEnd, Version, HTTP_version, one_zero, one_one, IsStatusCode, IsStatusLine}
use Rattle.grammar.specs.Message as grammar
use Rattle.statusline.specs.declared.StatusLine.{StatusLine}
use Rattle.gaps.specs.Gap.{spaces_if}
use Rattle.statusline.specs.StatusLine.{unread, with_version, with_code, with_reason, more_spaces}
use Rattle.leaves.specs.EmptyLines.{Stops}
use Rattle.leaves.specs.Byte.{Byte, byte}
use Rattle.leaves.specs.Gap.{GapStops}
use Rattle.agreement.specs.StartLine.{StatusLined}
use Rattle.agreement.specs.Places.{held, At, at_as, at_first, at_second}
use Rattle.agreement.specs.Starts.{Fixed, version_derived, version_read, code_derived, code_read}
use Rattle.agreement.specs.Delimiters.{delimiter_derived, delimiter_read, gap_stops}
use Rattle.agreement.specs.Steps.{passed_is, apart, together, Started, LineRead}
use Rattle.agreement.specs.Known.{StatusSays}
use Rattle.agreement.specs.Tail.{parts_line, line_parts, tail_derived, tail_read}

-- empty lines, version, code, what is behind it, line end, in two ways of grouping
regroup : (e v s g c w d : List ℕ) → e ++ (v ++ (s ++ ((g ++ c) ++ (w ++ d)))) ≡ e ++ (v ++ (s ++ g) ++ c ++ w) ++ d
regroup e v s g c w d = simp append_assoc

-- what stands behind the code, in two ways of grouping
behind_code_lem : (b s u d : List ℕ) → b ++ (s ++ (u ++ d)) ≡ (b ++ (s ++ u)) ++ d
behind_code_lem b s u d = simp append_assoc

one_space : {p : ℕ} {w rest : List ℕ} → Byte 32 p w tt rest → w ≡ space
one_space byte = refl

module _ {z : List ℕ} {r : Rules} (fixed : Fixed r) {p : ℕ} {rest : List ℕ} where
  pub response_derived : {w : List ℕ} {k : StatusLine} → At z p w rest → StatusLined r p w k rest → Started r (IsStatusLine r) (StatusSays z k) w
  response_derived {w} {k} h B =
      let B₀ = apart (λ _. unread) B in
      let B₁ = apart (with_version unread) B₀.right in
      let k₁ = with_version unread B₁.a in
      let B₂ = apart (λ _. k₁) B₁.right in
      let B₃ = apart (with_code k₁) B₂.right in
      let k₂ = with_code k₁ B₃.a in
      let B₄ = apart (λ _. k₂) B₃.right in
      let C = B₃.left in
      let G = B₄.right.holds in
      let R = G.right in
      let same : k ≡ with_reason k₂ B₄.right.a = passed_is B₄.right.passes in
      let given : B₄.right.a ≡ R.a = passed_is R.right.passes in
      let e = B₀.w₁ in
      let v = B₁.w₁ in
      let c = C.w₂ in
      let b = B₄.w₁ in
      let s = G.w₁ in
      let u = R.w₁ in
      let d = R.w₂ in
      let h₁ = at_second e B₀.w₂ (at_as B₀.whole h) in
      let h₂ = at_second v B₁.w₂ (at_as B₁.whole h₁) in
      let h₃ = at_second B₂.w₁ B₂.w₂ (at_as B₂.whole h₂) in
      let h₄ = at_second B₃.w₁ B₃.w₂ (at_as B₃.whole h₃) in
      let h₅ = at_second s G.w₂ (at_as G.whole (at_second b B₄.w₂ (at_as B₄.whole h₄))) in
      let h₆ = at_first u d (at_as R.whole h₅) in
      let onto : G.w₂ ++ rest ≡ u ++ (d ++ rest) = ap (λ y. y ++ rest) R.whole ∙ append_assoc u d rest in
      let T = tail_derived fixed B₄.left (ap (λ y. y ++ rest) G.whole ∙ append_assoc s G.w₂ rest ∙ ap (λ y. s ++ y) onto) G.left.all (subst (GapStops (more_spaces r)) onto G.left.stops) h₆ R.left in
      let g : grammar.StatusLine = record { version = record { major = 1; minor = B₁.a }; code = B₃.a; reason = held z R.a } in
      record {
        e = e;
        l = v ++ (space ++ C.w₁) ++ c ++ (b ++ (s ++ u));
        c = d;
        g = g;
        whole =
            B₀.whole
            ∙ ap (λ y. e ++ y) (B₁.whole ∙ ap (λ y. v ++ y) (B₂.whole ∙ ap (λ y. y ++ B₂.w₂) (one_space B₂.left) ∙ ap (λ y. space ++ y) (B₃.whole ∙ ap (λ y. y ++ B₃.w₂) C.whole ∙ ap (λ y. (C.w₁ ++ c) ++ y) (B₄.whole ∙ ap (λ y. b ++ y) (G.whole ∙ ap (λ y. s ++ y) R.whole) ∙ behind_code_lem b s u d))))
            ∙ regroup e v space C.w₁ c (b ++ (s ++ u)) d;
        empty = B₀.left.lines;
        line = parts_line (version_derived fixed B₁.left) (delimiter_derived r.spaces_in_status_line C.left.all) (code_derived fixed C.right) T;
        ends = R.right.holds;
        says = subst (λ y. StatusSays z y g) (sym same) (record { version = refl; code = refl; reason = ap (held z) given });
      }

-- a version's first byte begins no empty line
version_stops : {r : Rules} {v : List ℕ} {n : Version} → Fixed r → HTTP_version r v n → (rest : List ℕ) → Stops r (v ++ rest)
version_stops {r} fixed one_zero rest = record { b = 72; ys = _; whole = refl; no_cr = and-false r.empty_lines; no_lf = and-false (r.empty_lines && r.lf_alone) }
version_stops {r} fixed one_one rest = record { b = 72; ys = _; whole = refl; no_cr = and-false r.empty_lines; no_lf = and-false (r.empty_lines && r.lf_alone) }
version_stops fixed (grammar.HTTP_version.other h a b) rest = absurd (clash fixed.known_versions h)

-- no code begins with a space
code_no_space : (several : Bool) {r : Rules} {c : List ℕ} {k : ℕ} → IsStatusCode r c k → (ys : List ℕ) → GapStops (spaces_if several) (c ++ ys)
code_no_space several (grammar.IsStatusCode.class {a = a} x y z) ys = gap_stops several a _ (λ e. omega (arith, e, x.low))
code_no_space several (grammar.IsStatusCode.any {a = a} h x y z) ys = gap_stops several a _ (λ e. omega (arith, e, x.low))

module _ {z : List ℕ} {r : Rules} (fixed : Fixed r) {p : ℕ} {rest : List ℕ} where
  pub response_read : {e l d : List ℕ} {g : grammar.StatusLine} → At z p (e ++ l ++ d) rest → IsEmptyLines r e → IsStatusLine r l g → IsLineEnd r d → LineRead StatusSays (StatusLined r) z p (e ++ l ++ d) g rest
  response_read {e} {l} {d} {g} h empty line ends =
      let P = line_parts line in
      let v = P.v in
      let c = P.c in
      let D = delimiter_read r.spaces_in_status_line P.delimits in
      let f = D.w in
      let from : e ++ l ++ d ≡ e ++ (v ++ (space ++ ((f ++ c) ++ (P.w ++ d)))) = ap (λ y. e ++ y ++ d) P.whole ∙ ap (λ y. e ++ (v ++ y ++ c ++ P.w) ++ d) D.whole ∙ sym (regroup e v space f c P.w d) in
      let h₁ = at_second e (v ++ (space ++ ((f ++ c) ++ (P.w ++ d)))) (at_as from h) in
      let h₂ = at_second v (space ++ ((f ++ c) ++ (P.w ++ d))) h₁ in
      let h₃ = at_second space ((f ++ c) ++ (P.w ++ d)) h₂ in
      let T = tail_read fixed P.tail ends (at_second (f ++ c) (P.w ++ d) h₃) in
      let b = T.v in
      let s = T.s in
      let u = T.u in
      let onto : P.w ++ d ≡ b ++ (s ++ (u ++ d)) = ap (λ y. y ++ d) T.whole ∙ sym (behind_code_lem b s u d) in
      let tail : List ℕ = b ++ (s ++ (u ++ d)) in
      let k₁ = with_version unread g.version.minor in
      let k₂ = with_code k₁ g.code in
      let k₃ = with_reason k₂ T.a in
      record {
        k = k₃;
        reads = subst (λ y. StatusLined r p y k₃ rest) (sym (from ∙ ap (λ y. e ++ (v ++ (space ++ ((f ++ c) ++ y)))) onto))
            (together (λ _. unread) e (v ++ (space ++ ((f ++ c) ++ tail))) tt (record { lines = empty; stops = subst (Stops r) (sym (append_assoc v (space ++ ((f ++ c) ++ tail)) rest)) (version_stops fixed P.version ((space ++ ((f ++ c) ++ tail)) ++ rest)) })
            (together (with_version unread) v (space ++ ((f ++ c) ++ tail)) g.version.minor (version_read fixed P.version)
            (together (λ _. k₁) space ((f ++ c) ++ tail) tt byte
            (together (with_code k₁) (f ++ c) tail g.code (record { w₁ = f; w₂ = c; a = tt; left = record { all = D.all; stops = code_no_space r.spaces_in_status_line P.code (tail ++ rest) }; right = code_read fixed P.code; whole = refl })
            (together (λ _. k₂) b (s ++ (u ++ d)) tt T.first
            (record { a = T.a; holds = record { w₁ = s; w₂ = u ++ d; a = tt; left = T.second; right = record { w₁ = u; w₂ = d; a = T.a; left = T.third; right = record { a = tt; holds = ends; passes = refl }; whole = refl }; whole = refl }; passes = refl }))))));
        says = record { version = refl; code = refl; reason = T.holds };
      }
