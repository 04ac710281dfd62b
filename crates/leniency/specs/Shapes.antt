-- A status line and a response byte by byte, for arguments that a byte string is none.
-- Assumes nothing.
use Rattle.std.specs.Prelude.{ℕ, ◌≤◌, ◌≡◌, refl, List, [], ◌∷◌, ◌++◌, Bool, true, false, eqb}
use Rattle.std.proofs.Common.{arith, sym, ap, ◌∙◌, append_assoc}
use Rattle.reader.specs.Tests.{both_true, clash}
use Rattle.octets.specs.Outside.{differs}
use Rattle.gaps.specs.Gap.{spaces_if}
use Rattle.rules.specs.Rules.{Rules}
use Rattle.grammar.specs.Rows.{Many, none, more}
use Rattle.grammar.specs.Fields.{Field}
use Rattle.grammar.specs.Message.{IsLineEnd, crlf, lf, Version, HTTP_version, one_zero, one_one, other, IsStatusCode, StatusLine, IsStatusLine, IsHeaderBlock, IsResponseHead}
use Rattle.grammar.specs.Message as grammar
use Rattle.leaves.specs.Rows.{In}
use Rattle.agreement.specs.Delimiters.{delimiter_read}
use Rattle.agreement.specs.Tail.{Tail, line_parts}

pub same_head : {a b : ℕ} {xs ys : List ℕ} → a ∷ xs ≡ b ∷ ys → a ≡ b
same_head e = cc

pub same_tail : {a b : ℕ} {xs ys : List ℕ} → a ∷ xs ≡ b ∷ ys → xs ≡ ys
same_tail e = cc

-- a status line byte by byte, up to its code
pub record Shape (r : Rules) (w : List ℕ) (l : StatusLine) : Type 0 where
  pub a : ℕ
  pub b : ℕ
  pub x : ℕ
  pub y : ℕ
  pub z : ℕ
  pub t : List ℕ
  -- the spaces behind the first before the code
  pub g : List ℕ
  pub gap : Many (In (spaces_if r.spaces_in_status_line)) g
  pub whole : w ≡ 72 ∷ 84 ∷ 84 ∷ 80 ∷ 47 ∷ a ∷ 46 ∷ b ∷ 32 ∷ (g ++ (x ∷ y ∷ z ∷ t))
  pub version : (r.known_versions ≡ true) → a ≡ 49
  pub digit : 48 ≤ x
  pub code : (r.any_code ≡ false) → 49 ≤ x
  pub tail : Tail r t l.reason

pub record Eight (r : Rules) (v : List ℕ) : Type 0 where
  pub a : ℕ
  pub b : ℕ
  pub whole : v ≡ 72 ∷ 84 ∷ 84 ∷ 80 ∷ 47 ∷ a ∷ 46 ∷ b ∷ []
  pub known : (r.known_versions ≡ true) → a ≡ 49

pub eight : {r : Rules} {v : List ℕ} {n : Version} → HTTP_version r v n → Eight r v
eight one_zero = record { a = 49; b = 48; whole = refl; known = λ _. refl }
eight one_one = record { a = 49; b = 49; whole = refl; known = λ _. refl }
eight (other {a = a} {b = b} t h k) = record { a = a; b = b; whole = refl; known = λ u. absurd (clash u t) }

record Three (r : Rules) (c : List ℕ) : Type 0 where
  x : ℕ
  y : ℕ
  z : ℕ
  whole : c ≡ x ∷ y ∷ z ∷ []
  digit : 48 ≤ x
  class : (r.any_code ≡ false) → 49 ≤ x

three : {r : Rules} {c : List ℕ} {n : ℕ} → IsStatusCode r c n → Three r c
three (grammar.IsStatusCode.class {a = x} {b = y} {c = z} h i j) = record { x = x; y = y; z = z; whole = refl; digit = omega (arith, h.low); class = λ _. h.low }
three (grammar.IsStatusCode.any {a = x} {b = y} {c = z} t h i j) = record { x = x; y = y; z = z; whole = refl; digit = h.low; class = λ u. absurd (clash t u) }

pub shape : {r : Rules} {w : List ℕ} {l : StatusLine} → IsStatusLine r w l → Shape r w l
shape {r} d =
    let P = line_parts d in
    let E = eight P.version in
    let D = delimiter_read r.spaces_in_status_line P.delimits in
    let T = three P.code in
    record {
      a = E.a;
      b = E.b;
      x = T.x;
      y = T.y;
      z = T.z;
      t = P.w;
      g = D.w;
      gap = D.all;
      whole = P.whole ∙ ap (λ v. v ++ P.d ++ P.c ++ P.w) E.whole ∙ ap (λ d. 72 ∷ 84 ∷ 84 ∷ 80 ∷ 47 ∷ E.a ∷ 46 ∷ E.b ∷ (d ++ P.c ++ P.w)) D.whole ∙ ap (λ y. 72 ∷ 84 ∷ 84 ∷ 80 ∷ 47 ∷ E.a ∷ 46 ∷ E.b ∷ 32 ∷ y) (append_assoc D.w P.c P.w) ∙ ap (λ c. 72 ∷ 84 ∷ 84 ∷ 80 ∷ 47 ∷ E.a ∷ 46 ∷ E.b ∷ 32 ∷ (D.w ++ (c ++ P.w))) T.whole;
      version = E.known;
      digit = T.digit;
      code = T.class;
      tail = P.tail;
    }

-- a response byte by byte, up to its code, and what is behind its line
pub record Answer (r : Rules) (w : List ℕ) (l : StatusLine) (fs : List Field) : Type 0 where
  pub v : List ℕ
  pub c : List ℕ
  pub b : List ℕ
  pub line : Shape r v l
  pub whole : 72 ∷ 84 ∷ 84 ∷ 80 ∷ 47 ∷ line.a ∷ 46 ∷ line.b ∷ 32 ∷ (line.g ++ (line.x ∷ line.y ∷ line.z ∷ (line.t ++ (c ++ b)))) ≡ w
  pub ends : IsLineEnd r c
  pub block : IsHeaderBlock r true b fs

no_empty_line : {r : Rules} {e : List ℕ} (ys zs : List ℕ) → IsLineEnd r e → e ++ ys ≡ 72 ∷ zs → ⊥
no_empty_line ys zs crlf e = let q : ◌≡◌ {A = ℕ} 13 72 = cc in omega (arith, q)
no_empty_line ys zs (lf t) e = let q : ◌≡◌ {A = ℕ} 10 72 = cc in omega (arith, q)

pub answer : {r : Rules} {w : List ℕ} {l : StatusLine} {fs : List Field} (ys : List ℕ) → IsResponseHead r w l fs → w ≡ 72 ∷ ys → Answer r w l fs
answer ys (grammar.head.message {w = v} {c = c} {b = b} grammar.IsEmptyLines.none d k x) e =
    let S = shape d in
    let behind : v ++ (c ++ b) ≡ v ++ c ++ b = sym (append_assoc v c b) in
    record { v = v; c = c; b = b; line = S; whole = ap (λ y. 72 ∷ 84 ∷ 84 ∷ 80 ∷ 47 ∷ S.a ∷ 46 ∷ S.b ∷ 32 ∷ y) (sym (append_assoc S.g (S.x ∷ S.y ∷ S.z ∷ S.t) (c ++ b))) ∙ ap (λ y. y ++ (c ++ b)) (sym S.whole) ∙ behind; ends = k; block = x }
answer ys (grammar.head.message {w = v} {c = c} {b = b} (grammar.IsEmptyLines.more {e = f} {w = g} t i j) d k x) e = absurd (no_empty_line (g ++ (v ++ (c ++ b))) ys i (simp append_assoc at e))

-- before a byte that is no space there is none
past_gap : (several : Bool) {g : List ℕ} (j : ℕ) → eqb j 32 ≡ false → Many (In (spaces_if several)) g → (xs ys : List ℕ) → g ++ xs ≡ j ∷ ys → xs ≡ j ∷ ys
past_gap several j f none xs ys e = e
past_gap several j f (more {b = b} h k) xs ys e = absurd (differs (λ y. eqb y 32) f (both_true several (eqb b 32) h).1 (same_head e))

-- what stands behind the code
pub behind_code_lem : {r : Rules} {w : List ℕ} {l : StatusLine} {fs : List Field} (A : Answer r w l fs) (ys : List ℕ) {a b c d e f g h i j k m : ℕ} → eqb j 32 ≡ false → w ≡ a ∷ b ∷ c ∷ d ∷ e ∷ f ∷ g ∷ h ∷ i ∷ j ∷ k ∷ m ∷ ys → (A.line.x ≡ j) × (A.line.t ++ (A.c ++ A.b) ≡ ys)
behind_code_lem {r} A ys {j = j} {k = k} {m = m} n u =
    let q = same_tail (same_tail (same_tail (same_tail (same_tail (same_tail (same_tail (same_tail (same_tail (A.whole ∙ u))))))))) in
    let p = past_gap r.spaces_in_status_line j n A.line.gap (A.line.x ∷ A.line.y ∷ A.line.z ∷ (A.line.t ++ (A.c ++ A.b))) (k ∷ m ∷ ys) q in
    (same_head p, same_tail (same_tail (same_tail p)))
