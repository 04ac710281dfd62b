-- A header's value over its lines: one, or, where the rules say so, that one and each line behind it that begins with a blank (RFC 9112, 5.2).
-- Assumes nothing.
use Rattle.std.specs.Prelude.{ℕ, ◌+◌, ◌-◌, ◌^◌, ◌≤◌, ◌<◌, ◌≡◌, refl, List, [], ◌∷◌, Bool, true, false, ◌&&◌, cond, eqb, length, drop}
use Rattle.std.proofs.Common.{arith, sym, ap, subst, ◌∙◌, length-drop, ne_eqb}
use Rattle.std.proofs.Math.Decide.{dec_lt}
use Rattle.reader.specs.Machine.{Move, keep, give, before, refuse, gave, Step, after, run, run_at}
use Rattle.reader.proofs.Laws.{run_in, run_out, gave_within}
use Rattle.reader.proofs.Skip.{told_true, told_false}
use Rattle.reader.specs.Judged.{pass, moved, judged}
use Rattle.reader.specs.Seq.{Then, first, cross, seq}
use Rattle.reader.specs.Loop.{Turn, again, done, loop, Fresh}
use Rattle.reader.specs.Branch.{Branch, fresh, branch}
use Rattle.reader.proofs.Branch.{branch_one, branch_other}
use Rattle.reader.specs.Answer.{Answer, got, short, bad, retold, and, rounds}
use Rattle.reader.proofs.Answer.{answered, answer_judged, and_same, answer_seq, answer_loop}
use Rattle.reader.specs.Chain.{nothing, reads, ended}
use Rattle.reader.proofs.Chain.{answer_ended}
use Rattle.reader.specs.Tests.{split, never}
use Rattle.octets.specs.Class.{is_blank, is_value}
use Rattle.rules.specs.Rules.{Rules, default}
use Rattle.rules.specs.Settings.{changed}
use Rattle.parts.specs.declared.Fault.{Fault}
use Rattle.parts.specs.declared.Error.TheVariants.{HeaderValue}
use Rattle.parts.specs.declared.Piece.{Piece}
use Rattle.parts.specs.declared.Unread.{Unread}
use Rattle.parts.specs.declared.Unread.TheVariants.{More, Bad}
use Rattle.parts.specs.Byte.{Is, IsPast}
use Rattle.parts.specs.Answers.{fault, piece, stopped}
use Rattle.parts.specs.LineEnd.{LineEnd, begin, cr, line_end_step, line_end}
use Rattle.values.specs.Value.{Value, blanks, inside, value_step, value}

-- a value and its line's end
abbrev pub value_line_step : Rules → Step (Then Value Piece LineEnd) Piece Fault
value_line_step r = seq value_step (λ v. begin) (λ v. judged (λ _. pass v) (λ e. e) (line_end_step r HeaderValue))

abbrev pub value_line : Rules → List ℕ → ℕ → Answer (Unit {0}) Piece Fault
value_line r xs at = reads (value_line_step r) (first blanks) xs at

-- the value so far and that of one more line: from the first byte of either that is no blank to the last
abbrev pub joined : Piece → Piece → Piece
joined a v = cond (eqb a.length 0) v (cond (eqb v.length 0) a (piece a.offset (v.offset + v.length)))

-- whether a line goes on with the value, by its first byte, which is left to it
abbrev pub next_step : Step (Unit {0}) Bool Fault
next_step s p b = before (is_blank b)

abbrev pub turn : Piece → Bool → Turn Piece Piece
turn a t = cond t (again a) (done a)

-- one line more, with the value a so far
abbrev pub LapState : Type 0
LapState = Then (Then Value Piece LineEnd) Piece (Unit {0})

abbrev pub lap_step : Rules → Piece → Step LapState (Turn Piece Piece) Fault
lap_step r a = seq (value_line_step r) (λ v. tt) (λ v. judged (λ t. pass (turn (joined a v) t)) (λ e. e) next_step)

abbrev pub folded_step : Rules → Step (Piece × LapState) Piece Fault
folded_step r = loop (λ _. first (first blanks)) (lap_step r)

-- the value before the first line is read
abbrev pub nothing_yet : Piece
nothing_yet = piece 0 0

abbrev pub folded : Rules → Piece → List ℕ → ℕ → Answer (Unit {0}) Piece Fault
folded r a xs at = reads (folded_step r) (a, first (first blanks)) xs at

-- the rules decide, whatever the first byte is
abbrev pub LinesState : Type 0
LinesState = Branch (Piece × LapState) (Then Value Piece LineEnd)

abbrev pub lines_step : Rules → Step LinesState Piece Fault
lines_step r = branch (λ _. r.multiline_headers) (folded_step r) (nothing_yet, first (first blanks)) (value_line_step r) (first blanks)

abbrev pub value_lines : Rules → List ℕ → ℕ → Answer (Unit {0}) Piece Fault
value_lines r xs at = reads (lines_step r) fresh xs at

-- the default with or without that rule
abbrev pub multiline_rules : Bool → Rules
multiline_rules m = changed true false false false false m false

-- no line leaves its first byte to the next
module _ (a a' : Piece) (p b : ℕ) where
  abbrev Leaves : Move Value Piece Fault → Move LineEnd (Unit {0}) Fault → Type 0
  Leaves v e = cross (cross v (λ _. begin) (λ v. moved (λ _. pass v) (λ e. e) e)) (λ _. tt) (λ v. moved (λ t. pass (turn (joined a v) t)) (λ e. e) (next_step tt p b)) ≡ before (again a') → ⊥

  ending : (c l : Bool) → Leaves (before (piece p p)) (cond c (keep cr) (cond l (give tt) (refuse (fault HeaderValue p))))
  ending true l e = never cc
  ending false true e = never cc
  ending false false e = never cc

  starting : (t u c l : Bool) → Leaves (cond t (keep blanks) (cond u (keep (inside p (p + 1))) (before (piece p p)))) (cond c (keep cr) (cond l (give tt) (refuse (fault HeaderValue p))))
  starting true u c l e = never cc
  starting false true c l e = never cc
  starting false false c l e = ending c l e

pub folded_fresh : (r : Rules) → Fresh (λ _. first (first blanks)) (lap_step r)
folded_fresh r a p b a' e = starting a a' p b (is_blank b) (is_value b) (eqb b 13) (r.lf_alone && eqb b 10) e

-- a value's line by its parts
line_parts : (r : Rules) (xs : List ℕ) (p : ℕ) → value_line r xs p ≡ and (value xs p) (λ v q. ended v (line_end r HeaderValue xs q))
line_parts r xs p =
    answer_seq nothing (λ _. nothing) value_step (λ v. begin) (λ v. judged (λ _. pass v) (λ e. e) (line_end_step r HeaderValue)) blanks xs p
    ∙ and_same (value xs p) (λ v q. answer_ended v (line_end_step r HeaderValue) begin xs q)

pub line_is : (xs : List ℕ) (p : ℕ) {z : Answer (Unit {0}) Piece Fault} → z ≡ and (value xs p) (λ v q. ended v (line_end default HeaderValue xs q)) → z ≡ value_line default xs p
line_is xs p e = e ∙ sym (line_parts default xs p)

-- a lap by its parts: a line, and what the byte behind it says
folded_parts : (r : Rules) (a : Piece) (xs : List ℕ) (p : ℕ) → folded r a xs p ≡ rounds (and (value_line r xs p) (λ v q. retold (λ u. u) (λ t. pass (turn (joined a v) t)) (λ e. e) (reads next_step tt xs q))) (λ a' q. folded r a' xs q)
folded_parts r a xs p =
    answer_loop (λ _. first (first blanks)) (λ _. nothing) (lap_step r) (folded_fresh r) a (first (first blanks)) xs p
    ∙ ap (λ y. rounds y (λ a' q. folded r a' xs q))
    (answer_seq nothing (λ _. nothing) (value_line_step r) (λ v. tt) (λ v. judged (λ t. pass (turn (joined a v) t)) (λ e. e) next_step) (first blanks) xs p
    ∙ and_same (value_line r xs p) (λ v q. answer_judged (λ u. u) (λ t. pass (turn (joined a v) t)) (λ e. e) nothing next_step (drop q xs) tt q))

-- where a line's value lies, and that the line has bytes and ends within the input
pub record LineIn (xs : List ℕ) (i : ℕ) (v : Piece) (q : ℕ) : Type 0 where
  pub low : i ≤ v.offset
  pub high : v.offset + v.length ≤ q
  pub behind : i < q
  pub end : q ≤ length xs

-- a value that has begun at or behind lo
abbrev Begun : ℕ → Value → ℕ → Type 0
Begun lo blanks p = lo ≤ p
Begun lo (inside v e) p = (lo ≤ v) × (v ≤ e) × (e ≤ p)

module _ (lo : ℕ) (a : Piece) (q : ℕ) where
  abbrev Lies : Type 0
  Lies = (lo ≤ a.offset) × (a.offset + a.length ≤ q)

  lies_as : {v e : ℕ} → lo ≤ v → v ≤ e → piece v e ≡ a → e ≤ q → Lies
  lies_as {v} {e} h k i l = subst (λ (y : Piece). (lo ≤ y.offset) × (y.offset + y.length ≤ q)) i (h, omega arith)

  lies : (bs : List ℕ) (s : Value) (p : ℕ) → Begun lo s p → run value_step s p bs ≡ gave a q → Lies
  lies [] s p h = λ e. never cc
  lies (b ∷ bs) blanks p h =
      let G : Move Value Piece Fault → Type 0 = λ u. after u p (λ s. run value_step s (p + 1) bs) ≡ gave a q → Lies in
      split G (is_blank b) (λ _. lies bs blanks (p + 1) (omega arith))
      (λ _. split G (is_value b) (λ _. lies bs (inside p (p + 1)) (p + 1) (omega arith))
      (λ _ e. let i : piece p p ≡ a = cc in let j : p ≡ q = cc in lies_as h (omega arith) i (omega arith)))
  lies (b ∷ bs) (inside v e) p h =
      let G : Move Value Piece Fault → Type 0 = λ u. after u p (λ s. run value_step s (p + 1) bs) ≡ gave a q → Lies in
      split G (is_value b)
      (λ _. split (λ n. run value_step (inside v n) (p + 1) bs ≡ gave a q → Lies) (is_blank b) (λ _. lies bs (inside v e) (p + 1) (omega arith)) (λ _. lies bs (inside v (p + 1)) (p + 1) (omega arith)))
      (λ _ g. let i : piece v e ≡ a = cc in let j : p ≡ q = cc in lies_as h.0 h.1 i (omega arith))

-- a line's end is at least a byte
end_behind : (r : Rules) (xs : List ℕ) (p q : ℕ) → run_at (line_end_step r HeaderValue) begin xs p ≡ gave tt q → p < q
end_behind r xs p q = from (drop p xs)
  where
    from : (bs : List ℕ) → run (line_end_step r HeaderValue) begin p bs ≡ gave tt q → p < q
    from [] = λ e. never cc
    from (b ∷ bs) =
        let G : Move LineEnd (Unit {0}) Fault → Type 0 = λ u. after u p (λ s. run (line_end_step r HeaderValue) s (p + 1) bs) ≡ gave tt q → p < q in
        split G (eqb b 13) (λ _ e. omega (arith, gave_within (line_end_step r HeaderValue) bs cr (p + 1) e))
        (λ _. split G (r.lf_alone && eqb b 10) (λ _ e. let j : p + 1 ≡ q = cc in omega arith) (λ _ e. never cc))

line_in : (r : Rules) (xs : List ℕ) (p : ℕ) (v : Piece) (q : ℕ) → value_line r xs p ≡ got v q → LineIn xs p v q
line_in r xs p v q h = by (value xs p) refl (sym (line_parts r xs p) ∙ h)
  where
    by : (y : Answer (Unit {0}) Piece Fault) → value xs p ≡ y → and y (λ v q. ended v (line_end r HeaderValue xs q)) ≡ got v q → LineIn xs p v q
    by (short u) e k = never cc
    by (bad x) e k = never cc
    by (got a i) e k = ends (line_end r HeaderValue xs i) refl k
      where
        ends : (y : Answer (Unit {0}) (Unit {0}) Fault) → line_end r HeaderValue xs i ≡ y → ended a y ≡ got v q → LineIn xs p v q
        ends (short u) d l = never cc
        ends (bad x) d l = never cc
        ends (got t j) d l =
            let same : a ≡ v = cc in
            let place : j ≡ q = cc in
            let first_run = answered nothing (run_at value_step blanks xs p) e in
            let in_value : Lies p v i = subst (λ y. Lies p y i) same (lies p a i (drop p xs) blanks p (omega arith) first_run) in
            let to : p ≤ i = (gave_within value_step (drop p xs) blanks p first_run).0 in
            let behind : i < j = end_behind r xs i j (answered nothing (run_at (line_end_step r HeaderValue) begin xs i) d) in
            let all = gave_within (value_line_step r) (drop p xs) (first blanks) p (answered nothing (run_at (value_line_step r) (first blanks) xs p) h) in
            record { low = in_value.0; high = omega (arith, in_value); behind = omega arith; end = omega (arith, all, length-drop p xs) }

-- pieces in the order of their lines, of which the second ends at a position
pub record Joins (a v : Piece) : Type 0 where
  pub order : a.offset ≤ v.offset
  pub fits : v.offset + v.length < 2 ^ 64

-- what joining two pieces comes to
module _ (a v : Piece) where
  pub joined_new : a.length ≡ 0 → v ≡ joined a v
  joined_new h = rw h

  pub joined_old : (a.length ≡ 0 → ⊥) → v.length ≡ 0 → a ≡ joined a v
  joined_old h k = rw (ne_eqb _ _ h, k)

  pub joined_both : (a.length ≡ 0 → ⊥) → (v.length ≡ 0 → ⊥) → piece a.offset (v.offset + v.length) ≡ joined a v
  joined_both h k = rw (ne_eqb _ _ h, ne_eqb _ _ k)

pub ruleset joins = (joined_new, joined_old, joined_both)

-- from a position on, with the value a so far
abbrev onward : Bool → Piece → List ℕ → ℕ → Answer (Unit {0}) Piece Fault
onward true a xs i = folded (multiline_rules true) a xs i
onward false a xs i = value_line (multiline_rules false) xs i

-- what the loop keeps: the lines from i on are the rest of the whole, and the value so far began before i
pub record Kept (m : Bool) (xs : List ℕ) (at i : ℕ) (a : Piece) : Type 0 where
  pub same : value_lines (multiline_rules m) xs at ≡ onward m a xs i
  pub low : a.offset ≤ i

pub kept_none : (m : Bool) (xs : List ℕ) (at : ℕ) → Kept m xs at at nothing_yet
kept_none m xs at = record { same = by m (dec_lt at (length xs)); low = omega arith }
  where
    by : (m : Bool) → Dec (at < length xs) → value_lines (multiline_rules m) xs at ≡ onward m nothing_yet xs at
    by true (yes h) = branch_one (λ _. true) (folded_step (multiline_rules true)) (nothing_yet, first (first blanks)) (value_line_step (multiline_rules true)) (first blanks) nothing xs at h refl
    by true (no h) = rw (run_out (lines_step (multiline_rules true)) fresh xs at (omega arith), run_out (folded_step (multiline_rules true)) (nothing_yet, first (first blanks)) xs at (omega arith))
    by false (yes h) = branch_other (λ _. false) (folded_step (multiline_rules false)) (nothing_yet, first (first blanks)) (value_line_step (multiline_rules false)) (first blanks) nothing xs at h refl
    by false (no h) = rw (run_out (lines_step (multiline_rules false)) fresh xs at (omega arith), run_out (value_line_step (multiline_rules false)) (first blanks) xs at (omega arith))

module _ {m : Bool} {xs : List ℕ} {at i : ℕ} {a : Piece} (k : Kept m xs at i a) where
  -- where the next line is not read, the whole is not
  pub kept_stops : (x : Unread Fault) → stopped x ≡ value_line default xs i → stopped x ≡ value_lines (multiline_rules m) xs at
  kept_stops x e = sym (k.same ∙ by m)
    where
      halts : (y : Unread Fault) → rounds (and (stopped y) (λ v q. retold (λ u. u) (λ t. pass (turn (joined a v) t)) (λ e. e) (reads next_step tt xs q))) (λ a' q. folded (multiline_rules true) a' xs q) ≡ stopped y
      halts More = refl
      halts (Bad d) = refl

      by : (t : Bool) → onward t a xs i ≡ stopped x
      by true = folded_parts (multiline_rules true) a xs i ∙ rw (← e) (halts x)
      by false = sym e

  module _ {v : Piece} {q : ℕ} (e : got v q ≡ value_line default xs i) where
    lap : folded (multiline_rules true) a xs i ≡ rounds (retold (λ u. u) (λ t. pass (turn (joined a v) t)) (λ e. e) (reads next_step tt xs q)) (λ a' q. folded (multiline_rules true) a' xs q)
    lap = folded_parts (multiline_rules true) a xs i ∙ rw (← e)

    kept_in : LineIn xs i v q
    kept_in = line_in default xs i v q (sym e)

    pub kept_less : length xs - q < length xs - i
    kept_less = omega (arith, kept_in)

    pub kept_joins : length xs < 2 ^ 64 → Joins a v
    kept_joins l = record { order = omega (arith, kept_in, k.low); fits = omega (arith, kept_in) }

    pub kept_one : m ≡ false → got v q ≡ value_lines (multiline_rules m) xs at
    kept_one t = sym (k.same ∙ ap (λ y. onward y a xs i) t ∙ sym e)

    module _ (t : m ≡ true) where
      pub kept_out : {x : Unread Fault} → IsPast xs q x → stopped x ≡ value_lines (multiline_rules m) xs at
      kept_out l = rw l.more (sym (k.same ∙ ap (λ y. onward y a xs i) t ∙ lap ∙ rw (run_out next_step tt xs q l.past)))

      module _ {b : ℕ} {w : Piece} (j : w ≡ joined a v) (l : Is xs q b) where
        pub kept_done : is_blank b ≡ false → got w q ≡ value_lines (multiline_rules m) xs at
        kept_done c = sym (k.same ∙ ap (λ y. onward y a xs i) t ∙ lap ∙ rw (run_in next_step tt xs q l.inside, ← l.there, c, j))

        pub kept_again : is_blank b ≡ true → Kept m xs at q w
        kept_again c = record { same = k.same ∙ ap (λ y. onward y a xs i) t ∙ lap ∙ rw (run_in next_step tt xs q l.inside, ← l.there, c, j, t); low = rw j (split (λ (y : Piece). y.offset ≤ q) (eqb a.length 0) (λ _. omega (arith, kept_in)) (λ _. split (λ (y : Piece). y.offset ≤ q) (eqb v.length 0) (λ _. omega (arith, kept_in, k.low)) (λ _. omega (arith, kept_in, k.low)))) }

pub ruleset folds = (kept_none, kept_stops, kept_less, kept_joins, kept_one, kept_out, kept_done, kept_again, told_true, told_false)
