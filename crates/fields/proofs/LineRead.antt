-- One line of a header block: a field line (RFC 9112, 5), or the empty line that ends the head.
-- Assumes nothing.
use Rattle.std.specs.Prelude.{ℕ, zero, suc, ◌+◌, ◌-◌, ◌≤◌, ◌<◌, ◌≡◌, refl, List, [], ◌∷◌, Bool, true, false, ◌&&◌, cond, not, eqb, length, get_or, take, drop, Ok, Err}
use Rattle.std.proofs.Common.{arith, sym, ap, ◌∙◌, length-drop, take-append-drop, length-take-le, drop-drop, lt-ltb, le-ltb}
use Rattle.std.specs.Result.{IsErrAnd}
use Rattle.std.proofs.Math.Decide.{dec_lt}
use Rattle.std.proofs.lemmas.Bool.{not-true, not-false}
use Rattle.reader.specs.Machine.{Move, keep, give, before, refuse, gave, refused, after, run, run_at}
use Rattle.reader.specs.Bytes.{drop_in}
use Rattle.reader.proofs.Laws.{run_in, run_out, gave_within, refused_within}
use Rattle.reader.specs.Lifted.{lifted}
use Rattle.reader.specs.Decided.{Taken}
use Rattle.reader.proofs.Decided.{lifted_taken}
use Rattle.reader.specs.Tests.{split, never}
use Rattle.reader.specs.Judged.{pass, moved, judged}
use Rattle.reader.specs.Seq.{first, second, cross}
use Rattle.reader.specs.Answer.{Answer, got, short, bad, answer, retold, and}
use Rattle.reader.proofs.Answer.{answered, answered_short, answered_bad, answer_ran, answer_judged, and_same, answer_seq}
use Rattle.reader.specs.Chain.{nothing, reads, ended}
use Rattle.reader.proofs.Chain.{answer_ended}
use Rattle.reader.specs.Branch.{fresh, one, other}
use Rattle.reader.proofs.Branch.{branch_one, branch_other, branch_none}
use Rattle.reader.specs.Refusals.{Refuses}
use Rattle.reader.proofs.Refusals.{refused_is, passes, refuses_judged, refuses_seq}
use Rattle.reader.specs.Rescued.{rescuing, caught, watched}
use Rattle.reader.proofs.Rescued.{run_waiting, run_good, run_bad, run_rescued}
use Rattle.gaps.specs.Gap.{Behind}
use Rattle.parts.specs.declared.Fault.{Fault}
use Rattle.parts.specs.declared.Error.TheVariants.{HeaderName, NewLine}
use Rattle.parts.specs.declared.Piece.{Piece}
use Rattle.parts.specs.declared.Unread.{Unread}
use Rattle.parts.specs.declared.Unread.TheVariants.{More, Bad}
use Rattle.parts.specs.Answers.{Read, fault, stopped}
use Rattle.parts.specs.Byte.{Is, IsPast}
use Rattle.rules.specs.Rules.{Rules, default}
use Rattle.rules.specs.declared.LineSettings.{LineSettings}
use Rattle.rules.specs.Settings.{line_rules}
use Rattle.parts.specs.LineEnd.{LineEnd, begin, cr, line_end_step, line_end}
use Rattle.octets.specs.Class.{is_token}
use Rattle.names.specs.Name.{Colon, none, some, gap_colon, name_step, name}
use Rattle.fields.specs.declared.Line.{Line}
use Rattle.folds.specs.Folded.{LinesState, lines_step, value_lines}
use Rattle.ignored.specs.Rest.{is_ignorable, rest_step, behind_byte, seen}
use Rattle.fields.specs.Wrong.{blamed, Wrong}
use Rattle.fields.proofs.Wrong.{name_refuses, lines_refuses}
use Rattle.fields.specs.Line.{Kind, LiesIn, LineState, TriedState, end, ends, field, field_step, ignored, ignored_step, line, line_of, line_step, named, onward, rest_of, tried_step, untried}

-- it refuses with the byte that is wrong
pub field_refuses : (r : Rules) → Refuses Wrong (field_step r)
field_refuses r =
    refuses_seq Wrong (name_step r) (λ n. fresh) (λ n. judged (λ v. pass (named n v)) (λ e. e) (lines_step r)) (name_refuses r) (λ n.
    refuses_judged Wrong Wrong (λ v. pass (named n v)) (λ e. e) (lines_step r) (passes Wrong (named n)) (λ p e h. h) (lines_refuses r))

-- a line by its parts
module _ (r : Rules) (xs : List ℕ) where
  named_parts : (n : Piece) (a : Answer (Unit {0}) Piece Fault) → retold (λ u. u) (λ v. pass (named n v)) (λ e. e) a ≡ and a (λ v i. got (named n v) i)
  named_parts n (got v q) = refl
  named_parts n (short u) = refl
  named_parts n (bad e) = refl

  value_parts : (n : Piece) (q : ℕ) → reads (judged (λ v. pass (named n v)) (λ e. e) (lines_step r)) fresh xs q ≡ onward r xs n q
  value_parts n q = answer_judged (λ u. u) (λ v. pass (named n v)) (λ e. e) nothing (lines_step r) (drop q xs) fresh q ∙ named_parts n (value_lines r xs q)

  pub field_parts : (at : ℕ) → field r xs at ≡ and (name r xs at) (onward r xs)
  field_parts at =
      answer_seq nothing (λ _. nothing) (name_step r) (λ n. fresh) (λ n. judged (λ v. pass (named n v)) (λ e. e) (lines_step r)) (first none) xs at
      ∙ and_same (name r xs at) value_parts

  module _ (at : ℕ) (h : at < length xs) where
    pub line_end_parts : ends r (get_or xs at 0) ≡ true → line r xs at ≡ ended end (line_end r NewLine xs at)
    line_end_parts b = branch_one (ends r) (judged (λ _. pass end) (λ e. e) (line_end_step r NewLine)) begin (tried_step r) untried nothing xs at h b ∙ answer_ended end (line_end_step r NewLine) begin xs at

    pub line_tried : ends r (get_or xs at 0) ≡ false → line r xs at ≡ reads (tried_step r) untried xs at
    line_tried b = branch_other (ends r) (judged (λ _. pass end) (λ e. e) (line_end_step r NewLine)) begin (tried_step r) untried nothing xs at h b

    -- where the first byte is of no line's end
    module _ (b : ends r (get_or xs at 0) ≡ false) where
      pub tried_got : {k : Kind} {q : ℕ} → field r xs at ≡ got k q → line r xs at ≡ got k q
      tried_got e = line_tried b ∙ ap (answer nothing) (run_good r.ignore_invalid_headers (field_step r) behind_byte (ignored_step r) (drop at xs) (first (first none)) (first tt) at (answered nothing _ e))

      pub tried_short : field r xs at ≡ short tt → line r xs at ≡ short tt
      tried_short e = let w = answered_short nothing _ e in line_tried b ∙ ap (answer nothing) (run_waiting r.ignore_invalid_headers (field_step r) behind_byte (ignored_step r) (drop at xs) (first (first none)) (first tt) at w.1)

      pub tried_off : r.ignore_invalid_headers ≡ false → {x : Fault} → field r xs at ≡ bad x → line r xs at ≡ bad x
      tried_off o e = let w = answered_bad nothing _ e in line_tried b ∙ ap (answer nothing) (run_bad r.ignore_invalid_headers (field_step r) behind_byte (ignored_step r) o (drop at xs) (first (first none)) (first tt) at w.1)

      -- what was seen of the bytes before the wrong one
      watched_last : (t : Behind LineEnd) (n : ℕ) (ys : List ℕ) → n < length ys → watched r.ignore_invalid_headers (field_step r) behind_byte (ignored_step r) t (take (suc n) ys) ≡ cond (eqb (get_or ys n 0) 13) (second tt cr) (first tt)
      watched_last t zero (c ∷ ys) l = refl
      watched_last t (suc n) (c ∷ ys) l = watched_last (behind_byte t c) n ys (omega (arith, l))
      watched_last t n [] l = absurd (omega (arith, l))

      -- by the last of them
      byte_before : (n : ℕ) → at + n < length xs → get_or (drop at xs) n 0 ≡ get_or xs (at + n) 0
      byte_before n l =
          let u = drop_in (drop at xs) n (omega (arith, l, length-drop at xs)) in
          let v = drop_in xs (at + n) l in
          let same : get_or (drop at xs) n 0 ∷ drop (n + 1) (drop at xs) ≡ get_or xs (at + n) 0 ∷ drop (at + n + 1) xs = sym u ∙ drop-drop n at xs ∙ v in
          cc

      watched_by : (n q : ℕ) → q ≡ at + n → q ≤ length xs → watched r.ignore_invalid_headers (field_step r) behind_byte (ignored_step r) (first tt) (take n (drop at xs)) ≡ seen xs at q
      watched_by zero q e l = rw (le-ltb at q (omega (arith, e)))
      watched_by (suc n) q e l =
          let i : q - 1 ≡ at + n = omega (arith, e) in
          watched_last (first tt) n (drop at xs) (omega (arith, e, l, length-drop at xs))
          ∙ ap (λ y. cond (eqb y 13) (second tt cr) (first tt)) (byte_before n (omega (arith, e, l)) ∙ ap (λ y. get_or xs y 0) (sym i))
          ∙ sym (rw (lt-ltb at q (omega (arith, e))))

      watched_is : (q : ℕ) → at ≤ q → q ≤ length xs → watched r.ignore_invalid_headers (field_step r) behind_byte (ignored_step r) (first tt) (take (q - at) (drop at xs)) ≡ seen xs at q
      watched_is q h l = watched_by (q - at) q (omega (arith, h)) l

      pub tried_on : r.ignore_invalid_headers ≡ true → {x : Fault} → field r xs at ≡ bad x → line r xs at ≡ ended ignored (reads (rest_step r x.error) (seen xs at x.position) xs x.position)
      tried_on o {x} e =
          let w = answered_bad nothing _ e in
          let q : ℕ = w.0 in
          let is_wrong = refused_is Wrong (field_step r) (field_refuses r) (drop at xs) (first (first none)) at x q w.1 in
          let within = refused_within (field_step r) (drop at xs) (first (first none)) at w.1 in
          let size : length (take (q - at) (drop at xs)) ≡ q - at = length-take-le (q - at) (drop at xs) (omega (arith, within)) in
          let here : at + length (take (q - at) (drop at xs)) ≡ q = omega (arith, size, within) in
          let parts = take-append-drop (q - at) (drop at xs) in
          let behind : drop (q - at) (drop at xs) ≡ drop q xs = drop-drop (q - at) at xs ∙ (let i : at + (q - at) ≡ q = omega (arith, within) in ap (λ y. drop y xs) i) in
          let wrong = ap (run (field_step r) (first (first none)) at) parts ∙ w.1 ∙ ap (refused x) (sym here) in
          let rescued = run_rescued r.ignore_invalid_headers (field_step r) behind_byte (ignored_step r) o (take (q - at) (drop at xs)) (drop (q - at) (drop at xs)) (first (first none)) (first tt) at wrong in
          line_tried b ∙ ap (answer nothing) (ap (run (tried_step r) untried at) (sym parts) ∙ rescued)
          ∙ answer_ran {T = TriedState} (rescuing x) nothing (run (ignored_step r x) (watched r.ignore_invalid_headers (field_step r) behind_byte (ignored_step r) (first tt) (take (q - at) (drop at xs))) (at + length (take (q - at) (drop at xs))) (drop (q - at) (drop at xs)))
          ∙ ap (λ y. answer nothing (run (ignored_step r x) y (at + length (take (q - at) (drop at xs))) (drop (q - at) (drop at xs)))) (watched_is q within.0 (omega (arith, within, length-drop at xs)))
          ∙ ap (λ y. answer nothing (run (ignored_step r x) (seen xs at q) y (drop (q - at) (drop at xs)))) here
          ∙ ap (λ y. answer nothing (run (ignored_step r x) (seen xs at q) q y)) behind
          ∙ answer_ended ignored (rest_step r (blamed x.error)) (seen xs at q) xs q
          ∙ ap (λ y. ended ignored (reads (rest_step r y) (seen xs at q) xs q)) is_wrong.error
          ∙ ap (λ y. ended ignored (reads (rest_step r x.error) (seen xs at y) xs y)) (sym is_wrong.there)

-- a line takes its first byte, whatever it is
module _ (r : Rules) (p : ℕ) where
  rest_taken : (x : Fault) (g t u : Bool) → Taken (moved {S = Behind LineEnd} {A = Unit {0}} (λ _. pass ignored) (λ e. e) (cross (cond g (keep tt) (before tt)) (λ _. begin) (λ _. cond t (keep cr) (cond u (give tt) (refuse x)))))
  rest_taken x true t u = tt
  rest_taken x false true u = tt
  rest_taken x false false true = tt
  rest_taken x false false false = tt

  name_taken : (b : ℕ) (on w : Bool) (start : Piece → Colon) (c : Piece → Move Colon Piece Fault) (next : Piece → LinesState) (k : Piece → Move LinesState Kind Fault) → Taken (caught on (field_step r) behind_byte (ignored_step r) (behind_byte (first tt) b) (cross (cross (cond w (keep (some p)) (refuse (fault HeaderName p))) start c) next k) (λ e. ignored_step r e (first tt) p b))
  name_taken b on true start c next k = tt
  name_taken b false false start c next k = tt
  name_taken b true false start c next k = lifted_taken (rescuing (fault HeaderName p)) (ignored_step r (fault HeaderName p) (first tt) p b) (rest_taken (fault HeaderName p) (is_ignorable b) (eqb b 13) (r.lf_alone && eqb b 10))

  end_taken : (t u : Bool) → Taken {S = LineState} (lifted one (moved {S = LineEnd} {A = Unit {0}} (λ _. pass end) (λ e. e) (cond t (keep cr) (cond u (give (tt {0})) (refuse (fault NewLine p))))))
  end_taken true u = tt
  end_taken false true = tt
  end_taken false false = tt

  pub line_taken : (b : ℕ) → Taken (line_step r fresh p b)
  line_taken b =
      split Taken (ends r b) (λ _. end_taken (eqb b 13) (r.lf_alone && eqb b 10))
      (λ _. lifted_taken other (tried_step r untried p b) (name_taken b r.ignore_invalid_headers (is_token b) (λ _. first tt) (λ n. moved (λ _. pass n) (λ e. e) (gap_colon r (first tt) p b)) (λ n. fresh) (λ n. moved (λ v. pass (named n v)) (λ e. e) (lines_step r fresh p b))))

  -- so its end is behind its start
  pub line_behind : (xs : List ℕ) {k : Kind} {q : ℕ} → line r xs p ≡ got k q → (p < q) × (q ≤ length xs)
  line_behind xs {k} {q} e = by (dec_lt p (length xs))
    where
      from : (v : Move LineState Kind Fault) → Taken v → after v p (λ s. run_at (line_step r) s xs (p + 1)) ≡ gave k q → p + 1 ≤ q
      from (keep s) t h = (gave_within (line_step r) (drop (p + 1) xs) s (p + 1) h).0
      from (give a) t h = let i : p + 1 ≡ q = cc in omega arith
      from (before a) t h = absurd t
      from (refuse x) t h = never cc

      by : Dec (p < length xs) → (p < q) × (q ≤ length xs)
      by (no l) = let h : short tt ≡ got k q = sym (ap (answer nothing) (run_out (line_step r) fresh xs p (omega arith))) ∙ e in never cc
      by (yes l) =
          let all = answered nothing (run_at (line_step r) fresh xs p) e in
          let h = from (line_step r fresh p (get_or xs p 0)) (line_taken (get_or xs p 0)) (sym (run_in (line_step r) fresh xs p l) ∙ all) in
          (omega (arith, h), omega (arith, gave_within (line_step r) (drop p xs) fresh p all, length-drop p xs, l))

-- what a `?` hands on is why the line was not read
pub line_stopped : (m : Read Line) (e : Unread Fault) {y : Answer (Unit {0}) Kind Fault} → IsErrAnd m (λ d. d ≡ e) → stopped e ≡ y → line_of m ≡ y
line_stopped (Ok l) e h g = absurd h
line_stopped (Err d) e h g = rw h g

-- with the settings of lines: no setting changes the empty line
module _ (settings : LineSettings) (xs : List ℕ) (at : ℕ) where
  pub line_none : {x : Unread Fault} → IsPast xs at x → stopped x ≡ line (line_rules settings) xs at
  line_none h = rw h.more (sym (branch_none (ends default) (judged (λ _. pass end) (λ e. e) (line_end_step default NewLine)) begin (tried_step (line_rules settings)) untried nothing xs at h.past))

  module _ {b : ℕ} (h : Is xs at b) where
    pub line_ended : ends default b ≡ true → {z : Answer (Unit {0}) Kind Fault} → z ≡ ended end (line_end default NewLine xs at) → z ≡ line (line_rules settings) xs at
    line_ended t e = e ∙ sym (line_end_parts (line_rules settings) xs at h.inside (rw (← h.there) t))

    -- where the first byte is of no line's end
    module _ (t : ends default b ≡ false) where
      there : ends default (get_or xs at 0) ≡ false
      there = rw (← h.there) t

      pub line_field : not settings.ignore_invalid_headers ≡ true → {z : Answer (Unit {0}) Kind Fault} → z ≡ and (name (line_rules settings) xs at) (onward (line_rules settings) xs) → z ≡ line (line_rules settings) xs at
      line_field o {z} e = by z (field_parts (line_rules settings) xs at ∙ sym e)
        where
          by : (a : Answer (Unit {0}) Kind Fault) → field (line_rules settings) xs at ≡ a → a ≡ line (line_rules settings) xs at
          by (got k q) i = sym (tried_got (line_rules settings) xs at h.inside there i)
          by (short u) i = sym (tried_short (line_rules settings) xs at h.inside there i)
          by (bad x) i = sym (tried_off (line_rules settings) xs at h.inside there (not-true settings.ignore_invalid_headers o) i)

      -- l is what was read of a name and a value
      module _ {l : Read Line} (e : line_of l ≡ and (name (line_rules settings) xs at) (onward (line_rules settings) xs)) where
        is_field : {m : Read Line} → l ≡ m → field (line_rules settings) xs at ≡ line_of m
        is_field i = field_parts (line_rules settings) xs at ∙ sym e ∙ ap line_of i

        -- what is not wrong is told as it is
        pub kept_line : {p : Line × ℕ} → l ≡ Ok p → line_of l ≡ line (line_rules settings) xs at
        kept_line i = rw i (sym (tried_got (line_rules settings) xs at h.inside there (is_field i)))

        -- and what is wrong is passed over
        pub line_over : not settings.ignore_invalid_headers ≡ false → {y : Unread Fault} → l ≡ Err y → (m : Read Line) → (LiesIn xs y → line_of m ≡ rest_of y xs at) → line_of m ≡ line (line_rules settings) xs at
        line_over o {y} i m g = by y (is_field i) g
          where
            by : (y : Unread Fault) → field (line_rules settings) xs at ≡ stopped y → (LiesIn xs y → line_of m ≡ rest_of y xs at) → line_of m ≡ line (line_rules settings) xs at
            by More f g = g tt ∙ sym (tried_short (line_rules settings) xs at h.inside there f)
            by (Bad x) f g =
                let w = answered_bad nothing _ f in
                let place : x.position ≡ w.0 = (refused_is Wrong (field_step (line_rules settings)) (field_refuses (line_rules settings)) (drop at xs) (first (first none)) at x w.0 w.1).there in
                let inside : x.position ≤ length xs = omega (arith, place, refused_within (field_step (line_rules settings)) (drop at xs) (first (first none)) at w.1, length-drop at xs) in
                g inside ∙ sym (tried_on (line_rules settings) xs at h.inside there (not-false settings.ignore_invalid_headers o) f)

pub ruleset fields = (line_none, line_ended, line_field, kept_line, line_over)
