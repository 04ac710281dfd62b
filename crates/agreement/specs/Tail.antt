-- What stands behind a status code is read exactly where the grammar has it: spaces and a reason, spaces, or nothing.
-- Assumes nothing.
use Rattle.std.specs.Prelude.{ℕ, ◌+◌, ◌≡◌, refl, List, [], ◌∷◌, ◌++◌, true, false, eqb, length}
use Rattle.std.proofs.Common.{arith, sym, ap, subst, ◌∙◌, append_assoc, append-nil}
use Rattle.reader.specs.Tests.{both_true, clash, never}
use Rattle.octets.specs.Class.{is_value}
use Rattle.octets.specs.Outside.{differs, cr_no_value, lf_no_value}
use Rattle.rules.specs.Rules.{Rules}
use Rattle.grammar.specs.Rows.{Many, none, more, some}
use Rattle.grammar.specs.Message.{space, IsLineEnd, crlf, lf, Version, HTTP_version, IsStatusCode, IsReasonPhrase, IsStatusSpace, NoSpaceLeft, IsStatusLine}
use Rattle.grammar.specs.Message as grammar
use Rattle.parts.specs.declared.Piece.{Piece}
use Rattle.parts.specs.Answers.{piece}
use Rattle.status.specs.Reason.{empty}
use Rattle.statusline.specs.StatusLine.{more_spaces}
use Rattle.leaves.specs.Rows.{In}
use Rattle.leaves.specs.Gap.{GapStops, Gapped}
use Rattle.leaves.specs.BehindCode.{Behind}
use Rattle.leaves.specs.BehindCode as behind
use Rattle.leaves.specs.Reason.{Reasoned, in_ascii, obsolete}
use Rattle.agreement.specs.Places.{held, At, at_as, at_first, at_second, held_at}
use Rattle.agreement.specs.Delimiters.{delimiter_derived, delimiter_read, gap_stops, gap_left}
use Rattle.agreement.specs.Folded.{end_stops}
use Rattle.agreement.specs.Starts.{Fixed, reason_ascii, reason_obsolete, first_obsolete, ascii_read}

-- the bytes behind a code up to the line's end, and the reason
pub data Tail (r : Rules) : List ℕ → List ℕ → Type 0 where
  reason : {d u g : List ℕ} → IsStatusSpace r d → IsReasonPhrase r u g → NoSpaceLeft r u → Tail r (d ++ u) g
  nothing : {d : List ℕ} → IsStatusSpace r d → Tail r d []
  short : r.code_ends_line ≡ true → Tail r [] []

-- a status line by its parts
pub record Parts (r : Rules) (l : List ℕ) (g : grammar.StatusLine) : Type 0 where
  pub v : List ℕ
  pub d : List ℕ
  pub c : List ℕ
  pub w : List ℕ
  pub whole : l ≡ v ++ d ++ c ++ w
  pub version : HTTP_version r v g.version
  pub delimits : IsStatusSpace r d
  pub code : IsStatusCode r c g.code
  pub tail : Tail r w g.reason

pub parts_line : {r : Rules} {v d c w : List ℕ} {n : Version} {k : ℕ} {g : List ℕ} → HTTP_version r v n → IsStatusSpace r d → IsStatusCode r c k → Tail r w g → IsStatusLine r (v ++ d ++ c ++ w) (record { version = n; code = k; reason = g })
parts_line {r} {v} {d} {c} {n = n} {k = k} {g = g} h s i (reason {d = e} {u = u} t x l) = subst (λ y. IsStatusLine r y (record { version = n; code = k; reason = g })) (append_assoc (v ++ d ++ c) e u) (grammar.IsStatusLine.reason h s i t x l)
parts_line h s i (nothing t) = grammar.IsStatusLine.no_reason h s i t
parts_line {r} {v} {d} {c} {n = n} {k = k} {g = g} h s i (short x) = subst (λ y. IsStatusLine r y (record { version = n; code = k; reason = g })) (sym (append-nil (v ++ d ++ c))) (grammar.IsStatusLine.code_ends x h s i)

pub line_parts : {r : Rules} {l : List ℕ} {g : grammar.StatusLine} → IsStatusLine r l g → Parts r l g
line_parts (grammar.IsStatusLine.reason {v = v} {d = d} {c = c} {e = e} {w = u} h s i t x l) = record { v = v; d = d; c = c; w = e ++ u; whole = append_assoc (v ++ d ++ c) e u; version = h; delimits = s; code = i; tail = reason t x l }
line_parts (grammar.IsStatusLine.no_reason {v = v} {d = d} {c = c} {e = e} h s i t) = record { v = v; d = d; c = c; w = e; whole = refl; version = h; delimits = s; code = i; tail = nothing t }
line_parts (grammar.IsStatusLine.code_ends {v = v} {d = d} {c = c} x h s i) = record { v = v; d = d; c = c; w = []; whole = sym (append-nil (v ++ d ++ c)); version = h; delimits = s; code = i; tail = short x }

-- a line's end is no reason's first byte
ends_at_once : {p : ℕ} {u : List ℕ} {a : Piece} {x : List ℕ} (b : ℕ) → is_value b ≡ false → Reasoned p u a x → (ys rest : List ℕ) → b ∷ ys ≡ u ++ rest → u ≡ []
ends_at_once b f (in_ascii none s) ys rest e = refl
ends_at_once b f (in_ascii (more {b = c} x k) s) ys rest e = let same : c ≡ b = cc in absurd (differs is_value f x.value same)
ends_at_once b f (obsolete {c = c} none o l s) ys rest e = let same : c ≡ b = cc in absurd (differs is_value f o.value same)
ends_at_once b f (obsolete (more {b = c} x k) o l s) ys rest e = let same : c ≡ b = cc in absurd (differs is_value f x.value same)

-- the gap behind the first space ends where no space is left, and one that a line's end stands in place of is empty
none_left : (r : Rules) (v rest : List ℕ) → GapStops (more_spaces r) (v ++ rest) → NoSpaceLeft r v
none_left r v rest s h u e =
    let first : 0x20 ∷ (u ++ rest) ≡ s.b ∷ s.ys = sym (ap (λ y. y ++ rest) e) ∙ s.whole in
    let same : 0x20 ≡ s.b = cc in
    clash (rw (h, ← same) refl) s.stops

no_gap : (r : Rules) {g : List ℕ} (b : ℕ) → eqb b 32 ≡ false → Many (In (more_spaces r)) g → (ys rest : List ℕ) → b ∷ ys ≡ g ++ rest → g ≡ []
no_gap r b f none ys rest e = refl
no_gap r b f (more {b = c} x k) ys rest e = let same : c ≡ b = cc in absurd (differs (λ y. eqb y 32) f (both_true r.spaces_in_status_line (eqb c 32) x).1 same)

module _ {r : Rules} (fixed : Fixed r) {z : List ℕ} where
  -- behind the spaces d
  spaced : {p : ℕ} {d u rest : List ℕ} {a : Piece} → IsStatusSpace r d → NoSpaceLeft r u → At z p u rest → Reasoned p u a rest → Tail r (d ++ u) (held z a)
  spaced {d = d} t l h (in_ascii none s) = subst (Tail r (d ++ [])) (sym (held_at h)) (subst (λ y. Tail r y []) (sym (append-nil d)) (nothing t))
  spaced {d = d} t l h (in_ascii (more {b = b} {w = w} x k) s) = subst (λ y. Tail r (d ++ (b ∷ w)) y) (sym (held_at h)) (reason t (reason_ascii (more x k)) l)
  spaced t l h (obsolete k o m s) = reason t (reason_obsolete fixed k o m) l

  -- where nothing stands behind the code
  cut : {p : ℕ} {u rest : List ℕ} {a : Piece} → r.code_ends_line ≡ true → At z p u rest → Reasoned p u a rest → u ≡ [] → Tail r u (held z a)
  cut x h (in_ascii none s) e = subst (Tail r []) (sym (held_at h)) (short x)
  cut x h (in_ascii (more y k) s) e = never cc
  cut x h (obsolete none o l s) e = never cc
  cut x h (obsolete (more y k) o l s) e = never cc

  cut_gap : {p : ℕ} {g u rest : List ℕ} {a : Piece} (b : ℕ) → eqb b 32 ≡ false → is_value b ≡ false → r.code_ends_line ≡ true → Many (In (more_spaces r)) g → (ys : List ℕ) → b ∷ ys ≡ g ++ (u ++ rest) → At z p u rest → Reasoned p u a rest → Tail r (g ++ u) (held z a)
  cut_gap {g = g} {u = u} {rest = rest} {a = a} b f v t k ys e h R =
      let none : g ≡ [] = no_gap r b f k ys (u ++ rest) e in
      let onto : b ∷ ys ≡ u ++ rest = e ∙ ap (λ y. y ++ (u ++ rest)) none in
      subst (λ y. Tail r (y ++ u) (held z a)) (sym none) (cut t h R (ends_at_once b v R ys rest onto))

  pub tail_derived : {q : ℕ} {w g u x rest : List ℕ} {a : Piece} → Behind r q w tt x → x ≡ g ++ (u ++ rest) → Many (In (more_spaces r)) g → GapStops (more_spaces r) (u ++ rest) → {p : ℕ} → At z p u rest → Reasoned p u a rest → Tail r (w ++ (g ++ u)) (held z a)
  tail_derived {u = u} {rest = rest} behind.space e k s h R = spaced (delimiter_derived r.spaces_in_status_line k) (none_left r u rest s) h R
  tail_derived (behind.cr {ys = ys} t) e k s h R = cut_gap 13 refl cr_no_value t k ys e h R
  tail_derived (behind.lf {ys = ys} t i) e k s h R = cut_gap 10 refl lf_no_value t k ys e h R

-- where nothing stands behind the code but a line's end
code_ended : {r : Rules} {q : ℕ} {c : List ℕ} → r.code_ends_line ≡ true → IsLineEnd r c → (rest : List ℕ) → Behind r q [] tt (c ++ rest)
code_ended x crlf rest = behind.cr x
code_ended x (lf i) rest = behind.lf x i

-- what is read behind a code
pub record TailRead (r : Rules) (z : List ℕ) (q : ℕ) (w g c rest : List ℕ) : Type 0 where
  pub v : List ℕ
  pub s : List ℕ
  pub u : List ℕ
  pub a : Piece
  pub whole : w ≡ v ++ (s ++ u)
  pub first : Behind r q v tt ((s ++ (u ++ c)) ++ rest)
  pub second : Gapped (more_spaces r) (q + length v) s tt ((u ++ c) ++ rest)
  pub third : Reasoned (q + length v + length s) u a (c ++ rest)
  pub holds : held z a ≡ g

-- what is read of a reason
record ReasonRead (z : List ℕ) (p : ℕ) (u g rest : List ℕ) : Type 0 where
  a : Piece
  reads : Reasoned p u a rest
  holds : held z a ≡ g

-- neither a line's end nor a reason behind its spaces begins with a space
end_no_space : (r : Rules) {c : List ℕ} → IsLineEnd r c → (rest : List ℕ) → GapStops (more_spaces r) (c ++ rest)
end_no_space r crlf rest = gap_stops r.spaces_in_status_line 13 (10 ∷ rest) (λ e. omega (arith, e))
end_no_space r (lf h) rest = gap_stops r.spaces_in_status_line 10 rest (λ e. omega (arith, e))

reason_no_space : (r : Rules) {u g : List ℕ} → IsReasonPhrase r u g → NoSpaceLeft r u → (rest : List ℕ) → GapStops (more_spaces r) (u ++ rest)
reason_no_space r (grammar.IsReasonPhrase.ascii (some {b = b} {w = w} x k)) l rest = gap_left r.spaces_in_status_line b (w ++ rest) (λ h e. l h w (ap (λ y. y ∷ w) e))
reason_no_space r (grammar.IsReasonPhrase.whole h (some {b = b} {w = w} x k)) l rest = gap_left r.spaces_in_status_line b (w ++ rest) (λ h e. l h w (ap (λ y. y ∷ w) e))
reason_no_space r (grammar.IsReasonPhrase.emptied {v = v} {c = b} h none o m) l rest = gap_left r.spaces_in_status_line b (v ++ rest) (λ h e. l h v (ap (λ y. y ∷ v) e))
reason_no_space r (grammar.IsReasonPhrase.emptied {v = v} {c = c} h (more {b = b} {w = w} x k) o m) l rest = gap_left r.spaces_in_status_line b ((w ++ (c ∷ v)) ++ rest) (λ h e. l h (w ++ (c ∷ v)) (ap (λ y. y ∷ (w ++ (c ∷ v))) e))

module _ {r : Rules} (fixed : Fixed r) {z : List ℕ} where
  -- behind the spaces d
  tail_by : {q : ℕ} {d u g c rest : List ℕ} → IsStatusSpace r d → GapStops (more_spaces r) ((u ++ c) ++ rest) → At z q ((d ++ u) ++ c) rest → ((p : ℕ) → At z p u (c ++ rest) → ReasonRead z p u g (c ++ rest)) → TailRead r z q (d ++ u) g c rest
  tail_by {q} {d} {u} {c = c} {rest = rest} t stops h reads =
      let D = delimiter_read r.spaces_in_status_line t in
      let s = D.w in
      let onto : (d ++ u) ++ c ≡ space ++ (s ++ (u ++ c)) = ap (λ y. (y ++ u) ++ c) D.whole ∙ ap (λ y. 0x20 ∷ y) (append_assoc s u c) in
      let R = reads (q + 1 + length s) (at_first u c (at_second s (u ++ c) (at_second space (s ++ (u ++ c)) (at_as onto h)))) in
      record { v = space; s = s; u = u; a = R.a; whole = ap (λ y. y ++ u) D.whole; first = behind.space; second = record { all = D.all; stops = stops }; third = R.reads; holds = R.holds }

  reason_read : {u g c : List ℕ} (rest : List ℕ) → IsReasonPhrase r u g → IsLineEnd r c → (p : ℕ) → At z p u (c ++ rest) → ReasonRead z p u g (c ++ rest)
  reason_read {u} rest (grammar.IsReasonPhrase.ascii k) e p h = record { a = piece p (p + length u); reads = in_ascii (ascii_read k) (end_stops e rest); holds = held_at h }
  reason_read rest (grammar.IsReasonPhrase.whole x k) e p h = absurd (clash fixed.obs_reason x)
  reason_read {c = c} rest (grammar.IsReasonPhrase.emptied x k o l) e p h =
      let F = first_obsolete k o l in
      record { a = empty p; reads = subst (λ y. Reasoned p y (empty p) (c ++ rest)) (sym F.whole) (obsolete F.before F.here F.behind (end_stops e rest)); holds = refl }

  nothing_read : {c : List ℕ} (rest : List ℕ) → IsLineEnd r c → (p : ℕ) → At z p [] (c ++ rest) → ReasonRead z p [] [] (c ++ rest)
  nothing_read rest e p h = record { a = piece p (p + 0); reads = in_ascii none (end_stops e rest); holds = held_at h }

  pub tail_read : {q : ℕ} {w g c rest : List ℕ} → Tail r w g → IsLineEnd r c → At z q (w ++ c) rest → TailRead r z q w g c rest
  tail_read {c = c} {rest = rest} (reason {u = u} t x l) e h = tail_by t (subst (GapStops (more_spaces r)) (sym (append_assoc u c rest)) (reason_no_space r x l (c ++ rest))) h (reason_read rest x e)
  tail_read {q} {c = c} {rest = rest} (nothing {d = d} t) e h =
      subst (λ y. TailRead r z q y [] c rest) (append-nil d)
      (tail_by t (end_no_space r e rest) (at_as (ap (λ y. y ++ c) (sym (append-nil d))) h) (nothing_read rest e))
  tail_read {q} {c = c} {rest = rest} (short x) e h =
      let R = nothing_read rest e (q + 0 + 0) (at_first [] c (at_second [] c (at_second [] c h))) in
      record { v = []; s = []; u = []; a = R.a; whole = refl; first = code_ended x e rest; second = record { all = none; stops = end_no_space r e rest }; third = R.reads; holds = R.holds }
