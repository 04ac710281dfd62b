-- A request line is read exactly where the grammar has one behind empty lines, and its pieces hold method and target.
-- Assumes nothing.
use Rattle.std.specs.Prelude.{ℕ, ◌+◌, ◌≡◌, refl, List, ◌∷◌, ◌++◌, Bool, true, ◌&&◌, length}
use Rattle.std.proofs.Common.{sym, ap, subst, ◌∙◌, append_assoc, arith}
use Rattle.std.proofs.Math.Bool.{and-false}
use Rattle.reader.specs.Tests.{clash}
use Rattle.octets.specs.Class.{is_token}
use Rattle.octets.proofs.Ties.{token_is_tchar}
use Rattle.octets.specs.Outside.{differs, differs_test, cr_no_token, lf_no_token}
use Rattle.rules.specs.Rules.{Rules}
use Rattle.gaps.specs.Gap.{spaces_if}
use Rattle.words.specs.Target.{target_byte, space_no_target_byte}
use Rattle.grammar.specs.Rows.{Some, some}
use Rattle.grammar.specs.Message.{space, IsEmptyLines, IsLineEnd, HTTP_version, one_zero, one_one, IsRequestLine}
use Rattle.grammar.specs.Message as grammar
use Rattle.parts.specs.declared.Piece.{Piece}
use Rattle.parts.specs.Answers.{piece}
use Rattle.requestline.specs.declared.RequestLine.{RequestLine}
use Rattle.requestline.specs.RequestLine.{unread, with_method, with_target, with_version}
use Rattle.leaves.specs.Rows.{In}
use Rattle.leaves.specs.Gap.{GapStops}
use Rattle.leaves.specs.EmptyLines.{Stops}
use Rattle.agreement.specs.StartLine.{RequestLined}
use Rattle.agreement.specs.Places.{held, At, at_as, at_first, at_second, held_at}
use Rattle.agreement.specs.Rows.{tokens, in_token}
use Rattle.agreement.specs.Starts.{Fixed, target_derived, target_read, version_derived, version_read}
use Rattle.agreement.specs.Delimiters.{delimiter_derived, delimiter_read, gap_stops}
use Rattle.agreement.specs.Steps.{passed_is, apart, together, Started, LineRead}
use Rattle.agreement.specs.Known.{RequestSays}

-- empty lines, method, target, version, line end, with spaces between them, in two ways of grouping
regroup : (e m s g t h v c : List ℕ) → e ++ ((m ++ s) ++ ((g ++ (t ++ s)) ++ ((h ++ v) ++ c))) ≡ e ++ (m ++ (s ++ g) ++ t ++ (s ++ h) ++ v) ++ c
regroup e m s g t h v c = simp append_assoc

module _ {z : List ℕ} {r : Rules} (fixed : Fixed r) {p : ℕ} {rest : List ℕ} where
  pub request_derived : {w : List ℕ} {k : RequestLine} → At z p w rest → RequestLined r p w k rest → Started r (IsRequestLine r) (RequestSays z k) w
  request_derived {w} {k} h B =
      let B₀ = apart (λ _. unread) B in
      let B₁ = apart (with_method unread) B₀.right in
      let B₂ = apart (with_target (with_method unread B₁.a)) B₁.right in
      let B₃ = apart (with_version (with_target (with_method unread B₁.a) B₂.a)) B₂.right in
      let same : k ≡ with_version (with_target (with_method unread B₁.a) B₂.a) B₃.a = passed_is B₃.right.passes in
      let T = B₂.left in
      let N = B₃.left in
      let several = r.spaces_in_request_line in
      let e = B₀.w₁ in
      let m = B₁.left.v in
      let t = T.right.v in
      let c = B₃.w₂ in
      let h₁ = at_as B₁.whole (at_second e B₀.w₂ (at_as B₀.whole h)) in
      let h₂ = at_second T.w₁ T.w₂ (at_as T.whole (at_first B₂.w₁ B₂.w₂ (at_as B₂.whole (at_second B₁.w₁ B₁.w₂ h₁)))) in
      let held_m : held z B₁.a ≡ m = ap (held z) B₁.left.place ∙ held_at (at_first m space (at_as B₁.left.whole (at_first B₁.w₁ B₁.w₂ h₁))) in
      let held_t : held z B₂.a ≡ t = ap (held z) T.right.place ∙ held_at (at_first t space (at_as T.right.line h₂)) in
      let g : grammar.RequestLine = record { method = m; target = t; version = record { major = 1; minor = B₃.a } } in
      record {
        e = e;
        l = m ++ (space ++ T.w₁) ++ t ++ (space ++ N.w₁) ++ N.w₂;
        c = c;
        g = g;
        whole =
            B₀.whole ∙ ap (λ y. e ++ y) B₁.whole ∙ ap (λ y. e ++ (y ++ B₁.w₂)) B₁.left.whole
            ∙ ap (λ y. e ++ ((m ++ space) ++ y)) (B₂.whole ∙ ap (λ y. y ++ B₂.w₂) (T.whole ∙ ap (λ y. T.w₁ ++ y) T.right.line) ∙ ap (λ y. (T.w₁ ++ (t ++ space)) ++ y) (B₃.whole ∙ ap (λ y. y ++ c) N.whole))
            ∙ regroup e m space T.w₁ t N.w₁ N.w₂ c;
        empty = B₀.left.lines;
        line = grammar.IsRequestLine.line (tokens B₁.left.kind) (delimiter_derived several T.left.all) (target_derived T.right.kind T.right.text) (delimiter_derived several N.left.all) (version_derived fixed N.right);
        ends = B₃.right.holds;
        says = subst (λ y. RequestSays z y g) (sym same) (record { method = held_m; target = held_t; version = refl });
      }

-- a method's first byte begins no empty line
pub method_stops : (r : Rules) (b : ℕ) (ys : List ℕ) → is_token b ≡ true → Stops r (b ∷ ys)
method_stops r b ys t = record { b = b; ys = ys; whole = refl; no_cr = rw (differs_test is_token b 13 cr_no_token t) (and-false r.empty_lines); no_lf = rw (differs_test is_token b 10 lf_no_token t) (and-false (r.empty_lines && r.lf_alone)) }

-- neither a target nor a version begins with a space
target_stops : (r : Rules) {t : List ℕ} → Some (In (target_byte r.any_target)) t → (ys : List ℕ) → GapStops (spaces_if r.spaces_in_request_line) (t ++ ys)
target_stops r (some {b = b} x k) ys = gap_stops r.spaces_in_request_line b _ (λ e. differs (target_byte r.any_target) (space_no_target_byte r.any_target) x e)

pub version_no_space : (several : Bool) {r : Rules} → Fixed r → {v : List ℕ} {n : grammar.Version} → HTTP_version r v n → (ys : List ℕ) → GapStops (spaces_if several) (v ++ ys)
version_no_space several fixed one_zero ys = gap_stops several 72 _ (λ e. omega (arith, e))
version_no_space several fixed one_one ys = gap_stops several 72 _ (λ e. omega (arith, e))
version_no_space several fixed (grammar.HTTP_version.other h a b) ys = absurd (clash fixed.known_versions h)

module _ {z : List ℕ} {r : Rules} (fixed : Fixed r) {p : ℕ} {rest : List ℕ} where
  pub request_read : {e l c : List ℕ} {g : grammar.RequestLine} → At z p (e ++ l ++ c) rest → IsEmptyLines r e → IsRequestLine r l g → IsLineEnd r c → LineRead RequestSays (RequestLined r) z p (e ++ l ++ c) g rest
  request_read {e = e} {c = c} h empty (grammar.IsRequestLine.line {m = m} {d = d₁} {t = t} {e = d₂} {v = v} {n = n} (some {b = b} {w = m'} x k) delimits target delimits' version) ends =
      let several = r.spaces_in_request_line in
      let D = delimiter_read several delimits in
      let E = delimiter_read several delimits' in
      let f = D.w in
      let g = E.w in
      let behind : List ℕ = (f ++ (t ++ space)) ++ ((g ++ v) ++ c) in
      let same : e ++ (m ++ d₁ ++ t ++ d₂ ++ v) ++ c ≡ e ++ ((m ++ space) ++ behind) =
      ap (λ y. e ++ (m ++ y ++ t ++ d₂ ++ v) ++ c) D.whole ∙ ap (λ y. e ++ (m ++ (space ++ f) ++ t ++ y ++ v) ++ c) E.whole ∙ sym (regroup e m space f t g v c) in
      let T = target_read target in
      let i : ℕ = p + length e in
      let j : ℕ = i + length (m ++ space) in
      let h₁ = at_second e ((m ++ space) ++ behind) (at_as same h) in
      let h₂ = at_second f (t ++ space) (at_first (f ++ (t ++ space)) ((g ++ v) ++ c) (at_second (m ++ space) behind h₁)) in
      let a : Piece = piece i (i + length m) in
      let a' : Piece = piece (j + length f) (j + length f + length t) in
      let k₁ = with_method unread a in
      let k₂ = with_target k₁ a' in
      let k₃ = with_version k₂ n.minor in
      record {
        k = k₃;
        reads = subst (λ y. RequestLined r p y k₃ rest) (sym same)
            (together (λ _. unread) e ((m ++ space) ++ behind) tt (record { lines = empty; stops = method_stops r b _ ((token_is_tchar b).1 x) })
            (together (with_method unread) (m ++ space) behind a (record { v = m; kind = in_token (some x k); whole = refl; place = refl })
            (together (with_target k₁) (f ++ (t ++ space)) ((g ++ v) ++ c) a' (record { w₁ = f; w₂ = t ++ space; a = tt; left = record { all = D.all; stops = subst (GapStops (spaces_if several)) (sym (append_assoc t space (((g ++ v) ++ c) ++ rest))) (target_stops r T.0 _) }; right = record { v = t; kind = T.0; text = T.1; line = refl; place = refl }; whole = refl })
            (together (with_version k₂) (g ++ v) c n.minor (record { w₁ = g; w₂ = v; a = tt; left = record { all = E.all; stops = version_no_space several fixed version (c ++ rest) }; right = version_read fixed version; whole = refl }) (record { a = tt; holds = ends; passes = refl })))));
        says = record {
          method = held_at (at_first m space (at_first (m ++ space) behind h₁));
          target = held_at (at_first t space h₂);
          version = refl;
        };
      }
