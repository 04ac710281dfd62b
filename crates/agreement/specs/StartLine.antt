-- Request lines and status lines are read exactly where their parts stand in a row.
-- Assumes nothing.
use Rattle.reader.specs.Machine.{Step}
use Rattle.reader.specs.Judged.{pass, judged}
use Rattle.reader.specs.Seq.{first}
use Rattle.reader.specs.Chain.{part}
use Rattle.exact.specs.Exact.{Relation, Exact}
use Rattle.exact.specs.Judged.{Passes, exact_judged}
use Rattle.exact.specs.Seq.{Both}
use Rattle.exact.proofs.Seq.{exact_seq}
use Rattle.octets.specs.Class.{is_token}
use Rattle.octets.specs.Outside.{space_no_token}
use Rattle.parts.specs.declared.Fault.{Fault}
use Rattle.parts.specs.declared.Error.TheVariants.{NewLine, Status, Token, Version}
use Rattle.parts.specs.declared.Piece.{Piece}
use Rattle.rules.specs.Rules.{Rules}
use Rattle.parts.specs.LineEnd.{begin, line_end_step}
use Rattle.parts.specs.EmptyLines.{start, empty_lines_step}
use Rattle.words.specs.Word.{word_step}
use Rattle.words.specs.Word as words
use Rattle.words.specs.Target.{target_byte, target_step, space_no_target_byte}
use Rattle.words.specs.Target as targets
use Rattle.versions.specs.Version.{name, version_step}
use Rattle.spaces.specs.Space.{space_step, behind_code_step}
use Rattle.status.specs.Code.{code_step}
use Rattle.status.specs.Code as codes
use Rattle.status.specs.Reason.{reason_step}
use Rattle.status.specs.Reason as reasons
use Rattle.requestline.specs.declared.RequestLine.{RequestLine}
use Rattle.statusline.specs.declared.StatusLine.{StatusLine}
use Rattle.requestline.specs.RequestLine as request
use Rattle.statusline.specs.StatusLine as response
use Rattle.leaves.specs.LineEnd.{EndsAt, exact_line_end}
use Rattle.leaves.specs.EmptyLines.{EmptiesAt, exact_empties}
use Rattle.leaves.specs.Word.{Worded, exact_word}
use Rattle.leaves.specs.Target.{Targeted, exact_target}
use Rattle.leaves.specs.Version.{DigitAt, exact_version}
use Rattle.leaves.specs.Byte.{Byte, exact_byte}
use Rattle.leaves.specs.Gap.{BehindGap, exact_behind_gap}
use Rattle.leaves.specs.Status.{Coded, exact_code}
use Rattle.leaves.specs.BehindCode.{Behind, exact_behind}
use Rattle.leaves.specs.Reason.{Reasoned, exact_reason}

-- a part whose answer f adds to what is known
abbrev pub Adds : {A K : Type 0} → (A → K) → Relation A → Relation K
Adds {K = K} f G = Passes {F = Fault × K} (λ a. pass (f a)) G

exact_part : {S A K : Type 0} (k : K) (f : A → K) (m : Step S A Fault) (s : S) {G : Relation A} → Exact m s G → Exact (part k f m) s (Adds f G)
exact_part k f m s M = exact_judged (λ a. pass (f a)) (λ e. (e, k)) m M

-- method, target, version, line end
module _ (r : Rules) where
  abbrev pub EndOn : RequestLine → Relation RequestLine
  EndOn k = Adds (λ _. k) (EndsAt r)

  abbrev pub VersionOn : RequestLine → Relation RequestLine
  VersionOn k = Both (Adds (request.with_version k) (BehindGap (request.more_spaces r) (DigitAt name))) EndOn

  abbrev pub TargetOn : RequestLine → Relation RequestLine
  TargetOn k = Both (Adds (request.with_target k) (BehindGap (request.more_spaces r) (Targeted (target_byte r.any_target)))) VersionOn

  abbrev pub MethodOn : RequestLine → Relation RequestLine
  MethodOn k = Both (Adds (request.with_method k) (Worded is_token 32)) TargetOn

  abbrev pub RequestLined : Relation RequestLine
  RequestLined = Both (Adds (λ _. request.unread) (EmptiesAt r)) MethodOn

  pub exact_request_line : Exact (request.request_line_step r) (first start) RequestLined
  exact_request_line =
      exact_seq (part request.unread (λ _. request.unread) (empty_lines_step r)) (λ _. first words.none) (request.method_on r) start
      (exact_part request.unread (λ _. request.unread) (empty_lines_step r) start (exact_empties r)) (λ k.
      exact_seq (part k (request.with_method k) (word_step is_token 32 Token)) (λ _. first (first tt)) (request.target_on r) words.none
      (exact_part k (request.with_method k) (word_step is_token 32 Token) words.none (exact_word is_token 32 Token space_no_token)) (λ k.
      exact_seq (part k (request.with_target k) (request.gap_target r)) (λ _. first (first tt)) (request.version_on r) (first tt)
      (exact_part k (request.with_target k) (request.gap_target r) (first tt) (exact_behind_gap (request.more_spaces r) (target_step (target_byte r.any_target)) targets.none (exact_target (target_byte r.any_target) (space_no_target_byte r.any_target)))) (λ k.
      exact_seq (part k (request.with_version k) (request.gap_version r)) (λ _. begin) (request.end_step r) (first tt)
      (exact_part k (request.with_version k) (request.gap_version r) (first tt) (exact_behind_gap (request.more_spaces r) version_step name exact_version)) (λ k.
      exact_part k (λ _. k) (line_end_step r NewLine) begin (exact_line_end r NewLine)))))

-- version, space, code, what is behind it, reason with the line end
module _ (r : Rules) where
  abbrev pub ReasonEnds : Relation Piece
  ReasonEnds = Both Reasoned (λ w. Passes {F = Fault} (λ _. pass w) (EndsAt r))

  abbrev pub ReasonOn : StatusLine → Relation StatusLine
  ReasonOn k = Adds (response.with_reason k) (BehindGap (response.more_spaces r) ReasonEnds)

  abbrev pub BehindOn : StatusLine → Relation StatusLine
  BehindOn k = Both (Adds (λ _. k) (Behind r)) ReasonOn

  abbrev pub CodeOn : StatusLine → Relation StatusLine
  CodeOn k = Both (Adds (response.with_code k) (BehindGap (response.more_spaces r) Coded)) BehindOn

  abbrev pub SpaceOn : StatusLine → Relation StatusLine
  SpaceOn k = Both (Adds (λ _. k) (Byte 32)) CodeOn

  abbrev pub StatusVersionOn : StatusLine → Relation StatusLine
  StatusVersionOn k = Both (Adds (response.with_version k) (DigitAt name)) SpaceOn

  abbrev pub StatusLined : Relation StatusLine
  StatusLined = Both (Adds (λ _. response.unread) (EmptiesAt r)) StatusVersionOn

  exact_reason_end : Exact (response.reason_end_step r) (first reasons.none) ReasonEnds
  exact_reason_end =
      exact_seq reason_step (λ _. begin) (λ w. judged (λ _. pass w) (λ e. e) (line_end_step r Status)) reasons.none exact_reason
      (λ w. exact_judged (λ _. pass w) (λ e. e) (line_end_step r Status) (exact_line_end r Status))

  pub exact_status_line : Exact (response.status_line_step r) (first start) StatusLined
  exact_status_line =
      exact_seq (part response.unread (λ _. response.unread) (empty_lines_step r)) (λ _. first name) (response.version_on r) start
      (exact_part response.unread (λ _. response.unread) (empty_lines_step r) start (exact_empties r)) (λ k.
      exact_seq (part k (response.with_version k) version_step) (λ _. first tt) (response.space_on r) name
      (exact_part k (response.with_version k) version_step name exact_version) (λ k.
      exact_seq (part k (λ _. k) (space_step Version)) (λ _. first (first tt)) (response.code_on r) tt
      (exact_part k (λ _. k) (space_step Version) tt (exact_byte 32 Version)) (λ k.
      exact_seq (part k (response.with_code k) (response.gap_code r)) (λ _. first tt) (response.behind_on r) (first tt)
      (exact_part k (response.with_code k) (response.gap_code r) (first tt) (exact_behind_gap (response.more_spaces r) code_step codes.none exact_code)) (λ k.
      exact_seq (part k (λ _. k) (behind_code_step r)) (λ _. first tt) (response.reason_on r) tt
      (exact_part k (λ _. k) (behind_code_step r) tt (exact_behind r)) (λ k.
      exact_part k (response.with_reason k) (response.gap_reason r) (first tt) (exact_behind_gap (response.more_spaces r) (response.reason_end_step r) (first reasons.none) exact_reason_end))))))
