-- Every place that a reader of a start line tells lies in the input and holds what it is said to hold, whatever it answers.
-- Assumes nothing.
use Rattle.std.specs.Prelude.{ℕ, ◌+◌, ◌-◌, ◌≤◌, ◌≡◌, refl, List, [], ◌∷◌, ◌++◌, length, drop}
use Rattle.std.proofs.Common.{arith, sym, ap, subst, ◌∙◌, append-nil, length-append, length-drop}
use Rattle.reader.specs.Machine.{Step}
use Rattle.reader.specs.Seq.{first}
use Rattle.reader.specs.Answer.{Answer, got, short, bad, and}
use Rattle.reader.proofs.Answer.{answered}
use Rattle.reader.specs.Known.{known_of, last_holds, chain_holds}
use Rattle.reader.specs.Chain.{nothing, reads, ended}
use Rattle.reader.specs.Tests.{never}
use Rattle.exact.specs.Exact.{Relation, Exact}
use Rattle.octets.specs.Class.{is_token}
use Rattle.octets.specs.Outside.{space_no_token}
use Rattle.rules.specs.Rules.{Rules}
use Rattle.grammar.specs.Rows.{Many, none}
use Rattle.grammar.specs.Message.{IsMethod, IsRequestTarget, IsAsciiText}
use Rattle.parts.specs.declared.Fault.{Fault}
use Rattle.parts.specs.declared.Error.TheVariants.{NewLine, Status, Token, Version}
use Rattle.parts.specs.declared.Piece.{Piece}
use Rattle.parts.specs.Answers.{piece}
use Rattle.parts.specs.LineEnd.{line_end}
use Rattle.parts.specs.EmptyLines.{empty_lines}
use Rattle.words.specs.Word.{word}
use Rattle.words.specs.Target.{target_byte, target_step, space_no_target_byte}
use Rattle.words.specs.Target as targets
use Rattle.gaps.specs.Gap.{gap_end}
use Rattle.gaps.proofs.Gap.{end_skipped, reads_behind}
use Rattle.versions.specs.Version.{version}
use Rattle.spaces.specs.Space.{space, behind_code}
use Rattle.status.specs.Reason.{reason}
use Rattle.status.specs.Reason as reasons
use Rattle.requestline.specs.declared.RequestLine.{RequestLine}
use Rattle.requestline.specs.RequestLine as requests
use Rattle.statusline.specs.declared.StatusLine.{StatusLine}
use Rattle.statusline.specs.StatusLine as statuses
use Rattle.leaves.specs.Word.{Worded, exact_word}
use Rattle.leaves.specs.Target.{Targeted, exact_target}
use Rattle.leaves.specs.Reason.{Reasoned, in_ascii, obsolete, exact_reason}
use Rattle.agreement.specs.Places.{held, at_drop, at_as, at_first, held_at}
use Rattle.agreement.specs.Rows.{many_as, tokens}
use Rattle.agreement.specs.Starts.{target_derived, ascii_is}
use Rattle.agreement.specs.Known.{RequestInside, StatusInside}

-- a piece that an exact machine gives lies in the input and holds such bytes, where its relation says that it does so in what was read
module _ {S : Type 0} {m : Step S Piece Fault} {s : S} {G : Relation Piece} (M : Exact m s G) (Such : List ℕ → Type 0)
    (such : (p : ℕ) (w : List ℕ) (a : Piece) (rest : List ℕ) → G p w a rest → (v u : List ℕ) × (w ≡ v ++ u) × (a ≡ piece p (p + length v)) × Such v × (1 ≤ length w + length rest)) where
  piece_in : (z : List ℕ) (p : ℕ) (a : Piece) (q : ℕ) → reads m s z p ≡ got a q → (a.offset + a.length ≤ length z) × Such (held z a)
  piece_in z p a q e =
      let P = M.sound p (drop p z) a q (answered nothing _ e) in
      let l : length z - p ≡ length P.w + length P.rest = sym (length-drop p z) ∙ ap length P.whole ∙ length-append P.w P.rest in
      let k = such p P.w a P.rest P.holds in
      let n : length P.w ≡ length k.0 + length k.1 = ap length k.2 ∙ length-append k.0 k.1 in
      let h = at_first k.0 k.1 (at_as k.2 (at_drop z p P.w P.rest P.whole (omega (arith, k.5, l)))) in
      (subst (λ y. y.offset + y.length ≤ length z) (sym k.3) (omega (arith, k.5, l, n)), subst Such (sym (ap (held z) k.3 ∙ held_at h)) k.4)

word_such : (p : ℕ) (w : List ℕ) (a : Piece) (rest : List ℕ) → Worded is_token 32 p w a rest → (v u : List ℕ) × (w ≡ v ++ u) × (a ≡ piece p (p + length v)) × IsMethod v × (1 ≤ length w + length rest)
word_such p w a rest K = (K.v, 32 ∷ [], K.whole, K.place, tokens K.kind, omega (arith, ap length K.whole ∙ length-append K.v (32 ∷ [])))

target_such : (r : Rules) (p : ℕ) (w : List ℕ) (a : Piece) (rest : List ℕ) → Targeted (target_byte r.any_target) p w a rest → (v u : List ℕ) × (w ≡ v ++ u) × (a ≡ piece p (p + length v)) × IsRequestTarget r v × (1 ≤ length w + length rest)
target_such r p w a rest K = (K.v, 32 ∷ [], K.line, K.place, target_derived K.kind K.text, omega (arith, ap length K.line ∙ length-append K.v (32 ∷ [])))

reason_such : (p : ℕ) (w : List ℕ) (a : Piece) (rest : List ℕ) → Reasoned p w a rest → (v u : List ℕ) × (w ≡ v ++ u) × (a ≡ piece p (p + length v)) × Many IsAsciiText v × (1 ≤ length w + length rest)
reason_such p w a rest (in_ascii k s) = (w, [], sym (append-nil w), refl, many_as (λ b. ascii_is) k, omega (arith, ap length s.whole))
reason_such p w a rest (obsolete k o l s) = let n : 0 ≡ p + 0 - p = omega arith in ([], w, refl, ap (λ y. record { offset = p; length = y }) n, none, omega (arith, ap length s.whole))

module _ (r : Rules) (z : List ℕ) where
  abbrev In : RequestLine → Type 0
  In = RequestInside r z

  end_in : (k : RequestLine) (q : ℕ) → In k → In (known_of (requests.from_end r z k q))
  end_in k q h = last_holds In k (λ _. k) h (line_end r NewLine z q) (λ x i e. h)

  version_in : (k : RequestLine) (q : ℕ) → In k → In (known_of (requests.from_version r z k q))
  version_in k q h = chain_holds In k (requests.with_version k) h (requests.from_end r z) (reads (requests.gap_version r) (first tt) z q) (λ v i e. end_in (requests.with_version k v) i (record { method = h.method; target = h.target }))

  target_in : (k : RequestLine) (q : ℕ) → In k → In (known_of (requests.from_target r z k q))
  target_in k q h = chain_holds In k (requests.with_target k) h (requests.from_version r z) (reads (requests.gap_target r) (first tt) z q) (λ t i e. version_in (requests.with_target k t) i (record { method = h.method; target = piece_in (exact_target (target_byte r.any_target) (space_no_target_byte r.any_target)) (IsRequestTarget r) (target_such r) z (gap_end (requests.more_spaces r) z q) t i (sym (reads_behind (end_skipped (requests.more_spaces r) z q) (target_step (target_byte r.any_target)) targets.none) ∙ e) }))

  method_in : (k : RequestLine) (q : ℕ) → In k → In (known_of (requests.from_method r z k q))
  method_in k q h = chain_holds In k (requests.with_method k) h (requests.from_target r z) (word is_token 32 Token z q) (λ m i e. target_in (requests.with_method k m) i (record { method = piece_in (exact_word is_token 32 Token space_no_token) IsMethod word_such z q m i e; target = h.target }))

  pub request_line_in : In (known_of (requests.request_line r z 0))
  request_line_in =
      subst (λ a. In (known_of a)) (requests.request_line_whole r z 0 refl)
      (chain_holds In requests.unread (λ _. requests.unread) (record { method = tt; target = tt }) (requests.from_method r z) (empty_lines r z 0) (λ x i e. method_in requests.unread i (record { method = tt; target = tt })))

-- a reason is given with its line's end
reason_got : (x : Answer (Unit {0}) Piece Fault) (y : Piece → ℕ → Answer (Unit {0}) (Unit {0}) Fault) (a : Piece) (q : ℕ) → and x (λ w i. ended w (y w i)) ≡ got a q → (i : ℕ) × (x ≡ got a i)
reason_got (got w i) y a q e = (i, ap (λ v. got v i) (by (y w i) e))
  where
    by : (b : Answer (Unit {0}) (Unit {0}) Fault) → ended w b ≡ got a q → w ≡ a
    by (got u j) f = cc
    by (short u) f = never cc
    by (bad u) f = never cc
reason_got (short u) y a q e = never cc
reason_got (bad u) y a q e = never cc

module _ (r : Rules) (z : List ℕ) where
  abbrev Lies : StatusLine → Type 0
  Lies = StatusInside z

  reason_in : (k : StatusLine) (q : ℕ) → Lies k → Lies (known_of (statuses.from_reason r z k q))
  reason_in k q h =
      let start : ℕ = gap_end (statuses.more_spaces r) z q in
      let behind : reads (statuses.gap_reason r) (first tt) z q ≡ statuses.reason_end r z start = reads_behind (end_skipped (statuses.more_spaces r) z q) (statuses.reason_end_step r) (first reasons.none) ∙ statuses.reason_end_parts r z start in
      last_holds Lies k (statuses.with_reason k) h (reads (statuses.gap_reason r) (first tt) z q)
      (λ w i e. let g = reason_got (reason z start) (λ w i. line_end r Status z i) w i (sym behind ∙ e) in record { reason = piece_in exact_reason (Many IsAsciiText) reason_such z start w g.0 g.1 })

  behind_in : (k : StatusLine) (q : ℕ) → Lies k → Lies (known_of (statuses.from_behind r z k q))
  behind_in k q h = chain_holds Lies k (λ _. k) h (statuses.from_reason r z) (behind_code r z q) (λ x i e. reason_in k i h)

  code_in : (k : StatusLine) (q : ℕ) → Lies k → Lies (known_of (statuses.from_code r z k q))
  code_in k q h = chain_holds Lies k (statuses.with_code k) h (statuses.from_behind r z) (reads (statuses.gap_code r) (first tt) z q) (λ c i e. behind_in (statuses.with_code k c) i (record { reason = h.reason }))

  space_in : (k : StatusLine) (q : ℕ) → Lies k → Lies (known_of (statuses.from_space r z k q))
  space_in k q h = chain_holds Lies k (λ _. k) h (statuses.from_code r z) (space Version z q) (λ x i e. code_in k i h)

  status_version_in : (k : StatusLine) (q : ℕ) → Lies k → Lies (known_of (statuses.from_version r z k q))
  status_version_in k q h = chain_holds Lies k (statuses.with_version k) h (statuses.from_space r z) (version z q) (λ v i e. space_in (statuses.with_version k v) i (record { reason = h.reason }))

  pub status_line_in : Lies (known_of (statuses.status_line r z 0))
  status_line_in =
      subst (λ a. Lies (known_of a)) (statuses.status_line_whole r z 0 refl)
      (chain_holds Lies statuses.unread (λ _. statuses.unread) (record { reason = tt }) (statuses.from_version r z) (empty_lines r z 0) (λ x i e. status_version_in statuses.unread i (record { reason = tt })))
