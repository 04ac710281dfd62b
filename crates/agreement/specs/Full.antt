-- What the machines refuse with: the byte that is wrong, or that the slots are full.
-- Assumes nothing.
use Rattle.std.specs.Prelude.{ℕ, ◌≤◌, ◌≡◌, refl, ◌⊎◌, List, [], ◌∷◌, ◌++◌, Bool, true, false, cond, ◌&&◌, eqb, ltb, length}
use Rattle.std.proofs.Common.{sym, ap, subst, ◌∙◌, inl, inr, ltb-false}
use Rattle.reader.specs.Machine.{refused, Step, run_at}
use Rattle.reader.specs.Judged.{Verdict, pass, fail, judged}
use Rattle.reader.specs.Seq.{first}
use Rattle.reader.specs.Loop.{Turn, again}
use Rattle.reader.specs.Branch.{fresh}
use Rattle.reader.specs.Chain.{part}
use Rattle.reader.specs.Refusals.{Refusal, Refuses}
use Rattle.reader.proofs.Refusals.{refused_is, refuses_as, passes, refuses_judged, refuses_seq, refuses_branch, refuses_loop}
use Rattle.reader.proofs.Rescued.{refuses_rescue}
use Rattle.reader.specs.Tests.{split, never}
use Rattle.octets.specs.Class.{is_digit, is_token, is_value}
use Rattle.utf8.specs.Reader.{whole}
use Rattle.rules.specs.Rules.{Rules}
use Rattle.parts.specs.declared.Error.{Error}
use Rattle.parts.specs.declared.Error.TheVariants.{HeaderName, HeaderValue, NewLine, Status, Token, TooManyHeaders, Version}
use Rattle.parts.specs.declared.Fault.{Fault}
use Rattle.parts.specs.Answers.{fault}
use Rattle.parts.specs.Byte.{byte_step}
use Rattle.parts.specs.LineEnd.{begin, cr, line_end_step}
use Rattle.parts.specs.EmptyLines.{start, cr as behind_cr, empty_lines_step}
use Rattle.words.specs.Word.{none, some, word_step}
use Rattle.gaps.specs.Gap.{gap_step, behind_gap}
use Rattle.words.specs.Target.{target_byte, target_step}
use Rattle.words.specs.Target as targets
use Rattle.versions.specs.Version.{name, version_step}
use Rattle.spaces.specs.Space.{space_step, behind_code_step}
use Rattle.status.specs.Code.{code_step}
use Rattle.status.specs.Code as codes
use Rattle.status.specs.Reason.{reason_step}
use Rattle.status.specs.Reason as reasons
use Rattle.fields.specs.declared.Header.{Header}
use Rattle.ignored.specs.Rest.{is_ignorable, rest_step, behind_byte}
use Rattle.fields.specs.Wrong.{blamed, Wrong}
use Rattle.fields.specs.Line.{Kind, header, end, ignored, field_step, ignored_step, tried_step, untried, ends, line_step}
use Rattle.fields.proofs.LineRead.{field_refuses}
use Rattle.blocks.specs.Block.{taken, blanks_before, next_line_step, lap_step, block_step}
use Rattle.requestline.specs.RequestLine as requests
use Rattle.statusline.specs.StatusLine as statuses
use Rattle.heads.specs.Head.{Known, block_on, head_step}

-- an error that says nothing of slots
abbrev pub Ordinary : Error → Type 0
Ordinary e = e ≡ TooManyHeaders → ⊥

-- the byte at p is refused with such an error, which tells p
pub record Located (p : ℕ) (x : Fault) : Type 0 where
  pub ordinary : Ordinary x.error
  pub there : x.position ≡ p

located : {e : Error} → Ordinary e → (p : ℕ) → Located p (fault e p)
located o p = record { ordinary = o; there = refl }

name_ordinary : Ordinary HeaderName
name_ordinary e = never cc

value_ordinary : Ordinary HeaderValue
value_ordinary e = never cc

line_ordinary : Ordinary NewLine
line_ordinary e = never cc

status_ordinary : Ordinary Status
status_ordinary e = never cc

token_ordinary : Ordinary Token
token_ordinary e = never cc

version_ordinary : Ordinary Version
version_ordinary e = never cc

-- each error is one or the other
pub which : (e : Error) → (e ≡ TooManyHeaders) ⊎ Ordinary e
which HeaderName = inr name_ordinary
which HeaderValue = inr value_ordinary
which NewLine = inr line_ordinary
which Status = inr status_ordinary
which Token = inr token_ordinary
which TooManyHeaders = inl refl
which Version = inr version_ordinary

-- the parts
end_refuses : (r : Rules) (x : Error) → Ordinary x → Refuses Located (line_end_step r x)
end_refuses r x o begin p b = split (Refusal (Located p)) (eqb b 13) (λ _. tt) (λ _. split (Refusal (Located p)) (r.lf_alone && eqb b 10) (λ _. tt) (λ _. located o p))
end_refuses r x o cr p b = split (Refusal (Located p)) (eqb b 10) (λ _. tt) (λ _. located o p)

empties_refuse : (r : Rules) → Refuses Located (empty_lines_step r)
empties_refuse r start p b = split (Refusal (Located p)) (r.empty_lines && eqb b 13) (λ _. tt) (λ _. split (Refusal (Located p)) (r.empty_lines && r.lf_alone && eqb b 10) (λ _. tt) (λ _. tt))
empties_refuse r behind_cr p b = split (Refusal (Located p)) (eqb b 10) (λ _. tt) (λ _. located line_ordinary p)

word_refuses : (class : ℕ → Bool) (stop : ℕ) (x : Error) → Ordinary x → Refuses Located (word_step class stop x)
word_refuses class stop x o none p b = split (Refusal (Located p)) (class b) (λ _. tt) (λ _. located o p)
word_refuses class stop x o (some a) p b = split (Refusal (Located p)) (class b) (λ _. tt) (λ _. split (Refusal (Located p)) (eqb b stop) (λ _. tt) (λ _. located o p))

target_refuses : (class : ℕ → Bool) → Refuses Located (target_step class)
target_refuses class targets.none p b = split (Refusal (Located p)) (class b) (λ _. tt) (λ _. located token_ordinary p)
target_refuses class (targets.some a u) p b = split (Refusal (Located p)) (class b) (λ _. tt) (λ _. split (Refusal (Located p)) (eqb b 32) (λ _. split (Refusal (Located p)) (whole u) (λ _. tt) (λ _. located token_ordinary p)) (λ _. located token_ordinary p))

version_refuses : Refuses Located version_step
version_refuses [] p b = split (Refusal (Located p)) (eqb b 48) (λ _. tt) (λ _. split (Refusal (Located p)) (eqb b 49) (λ _. tt) (λ _. located version_ordinary p))
version_refuses (c ∷ cs) p b = split (Refusal (Located p)) (eqb b c) (λ _. tt) (λ _. located version_ordinary p)

byte_refuses : (c : ℕ) (x : Error) → Ordinary x → Refuses Located (byte_step c x)
byte_refuses c x o s p b = split (Refusal (Located p)) (eqb b c) (λ _. tt) (λ _. located o p)

behind_refuses : (r : Rules) → Refuses Located (behind_code_step r)
behind_refuses r s p b = split (Refusal (Located p)) (eqb b 32) (λ _. tt) (λ _. split (Refusal (Located p)) (r.code_ends_line && eqb b 13) (λ _. tt) (λ _. split (Refusal (Located p)) (r.code_ends_line && r.lf_alone && eqb b 10) (λ _. tt) (λ _. located status_ordinary p)))

code_refuses : Refuses Located code_step
code_refuses codes.none p b = split (Refusal (Located p)) (is_digit b) (λ _. tt) (λ _. located status_ordinary p)
code_refuses (codes.one v) p b = split (Refusal (Located p)) (is_digit b) (λ _. tt) (λ _. located status_ordinary p)
code_refuses (codes.two v) p b = split (Refusal (Located p)) (is_digit b) (λ _. tt) (λ _. located status_ordinary p)

reason_refuses : Refuses Located reason_step
reason_refuses reasons.none p b = split (Refusal (Located p)) (is_value b) (λ _. tt) (λ _. tt)
reason_refuses (reasons.inside a o) p b = split (Refusal (Located p)) (is_value b) (λ _. tt) (λ _. tt)

-- a gap refuses nothing
gap_refuses : (class : ℕ → Bool) {S A F : Type 0} (P : ℕ → F → Type 0) (m : Step S A F) (s : S) → Refuses P m → Refuses P (behind_gap class m s)
gap_refuses class P m s M = refuses_seq P (gap_step class) (λ _. s) (λ _. m) (λ _ p b. split (Refusal (P p)) (class b) (λ _. tt) (λ _. tt)) (λ _. M)

-- a line
wrong_located : (p : ℕ) (x : Fault) → Wrong p x → Located p x
wrong_located p x w = record { ordinary = λ e. by x.error e w.error; there = w.there }
  where
    by : (e : Error) → e ≡ TooManyHeaders → blamed e ≡ e → ⊥
    by e t k = let u : blamed TooManyHeaders ≡ TooManyHeaders = ap blamed (sym t) ∙ k ∙ t in value_ordinary u

blamed_ordinary : (e : Error) → Ordinary (blamed e)
blamed_ordinary HeaderName = name_ordinary
blamed_ordinary HeaderValue = value_ordinary
blamed_ordinary NewLine = value_ordinary
blamed_ordinary Status = value_ordinary
blamed_ordinary Token = value_ordinary
blamed_ordinary TooManyHeaders = value_ordinary
blamed_ordinary Version = value_ordinary

ignored_refuses : (r : Rules) (x : Fault) → Refuses Located (ignored_step r x)
ignored_refuses r x = refuses_judged Located Located (λ _. pass ignored) (λ e. e) (rest_step r (blamed x.error)) (passes Located (λ _. ignored)) (λ p e h. h) (gap_refuses is_ignorable Located (line_end_step r (blamed x.error)) begin (end_refuses r (blamed x.error) (blamed_ordinary x.error)))

pub line_refuses : (r : Rules) → Refuses Located (line_step r)
line_refuses r =
    refuses_branch Located (ends r) (judged (λ _. pass end) (λ e. e) (line_end_step r NewLine)) begin (tried_step r) untried
    (refuses_judged Located Located (λ _. pass end) (λ e. e) (line_end_step r NewLine) (passes Located (λ _. end)) (λ p e h. h) (end_refuses r NewLine line_ordinary))
    (refuses_rescue r.ignore_invalid_headers (field_step r) behind_byte (ignored_step r) Located (refuses_as Wrong Located wrong_located (field_step r) (field_refuses r)) (ignored_refuses r))

-- what a block refuses with: the byte at p decided, or the slots that hold hs are full
pub record Full (n p : ℕ) (x : Fault) (hs : List Header) : Type 0 where
  pub there : Ordinary x.error → x.position ≡ p
  pub full : x.error ≡ TooManyHeaders → n ≤ length hs

ordinary_full : {n p : ℕ} {x : Fault} (hs : List Header) → Located p x → Full n p x hs
ordinary_full hs d = record { there = λ _. d.there; full = λ u. absurd (d.ordinary u) }

taken_full : (n : ℕ) (hs : List Header) (k : Kind) (p : ℕ) (x : Fault × List Header) → taken n hs k ≡ fail x → Full n p x.0 x.1
taken_full n hs end p x e = never cc
taken_full n hs ignored p x e = never cc
taken_full n hs (header h) p x e = by (ltb (length hs) n) refl e
  where
    by : (t : Bool) → ltb (length hs) n ≡ t → ◌≡◌ {A = Verdict (Turn (List Header) (List Header)) (Fault × List Header)} (cond t (pass (again (hs ++ (h ∷ [])))) (fail (fault TooManyHeaders h.name.offset, hs))) (fail x) → Full n p x.0 x.1
    by true t u = never cc
    by false t u =
        let v : ◌≡◌ {A = Fault × List Header} (fault TooManyHeaders h.name.offset, hs) x = cc in
        subst (λ y. Full n p y.0 y.1) v (record { there = λ o. absurd (o refl); full = λ _. ltb-false (length hs) n t })

block_refuses : (r : Rules) (n : ℕ) → Refuses (λ p x. Full n p x.0 x.1) (block_step r n)
block_refuses r n =
    refuses_loop (λ _. first tt) (λ p x. Full n p x.0 x.1) (lap_step r n)
    (λ hs. refuses_judged Located (λ p x. Full n p x.0 x.1) (taken n hs) (λ e. (e, hs)) (next_line_step r hs) (taken_full n hs) (λ p e h. ordinary_full hs h) (gap_refuses (blanks_before r hs) Located (line_step r) fresh (line_refuses r)))

-- a start line
abbrev pub LocatedLine : {K : Type 0} → ℕ → Fault × K → Type 0
LocatedLine p x = Located p x.0

refuses_part : {S A K : Type 0} (k : K) (f : A → K) (m : Step S A Fault) → Refuses Located m → Refuses LocatedLine (part k f m)
refuses_part k f m M = refuses_judged Located LocatedLine (λ a. pass (f a)) (λ e. (e, k)) m (passes LocatedLine f) (λ p e h. h) M

pub request_refuses : (r : Rules) → Refuses LocatedLine (requests.request_line_step r)
request_refuses r =
    refuses_seq LocatedLine (part requests.unread (λ _. requests.unread) (empty_lines_step r)) (λ _. first none) (requests.method_on r) (refuses_part requests.unread (λ _. requests.unread) (empty_lines_step r) (empties_refuse r)) (λ k.
    refuses_seq LocatedLine (part k (requests.with_method k) (word_step is_token 32 Token)) (λ _. first (first tt)) (requests.target_on r) (refuses_part k (requests.with_method k) (word_step is_token 32 Token) (word_refuses is_token 32 Token token_ordinary)) (λ k.
    refuses_seq LocatedLine (part k (requests.with_target k) (requests.gap_target r)) (λ _. first (first tt)) (requests.version_on r) (refuses_part k (requests.with_target k) (requests.gap_target r) (gap_refuses (requests.more_spaces r) Located (target_step (target_byte r.any_target)) targets.none (target_refuses (target_byte r.any_target)))) (λ k.
    refuses_seq LocatedLine (part k (requests.with_version k) (requests.gap_version r)) (λ _. begin) (requests.end_step r) (refuses_part k (requests.with_version k) (requests.gap_version r) (gap_refuses (requests.more_spaces r) Located version_step name version_refuses)) (λ k.
    refuses_part k (λ _. k) (line_end_step r NewLine) (end_refuses r NewLine line_ordinary)))))

reason_end_refuses : (r : Rules) → Refuses Located (statuses.reason_end_step r)
reason_end_refuses r =
    refuses_seq Located reason_step (λ _. begin) (λ w. judged (λ _. pass w) (λ e. e) (line_end_step r Status)) reason_refuses (λ w.
    refuses_judged Located Located (λ _. pass w) (λ e. e) (line_end_step r Status) (passes Located (λ _. w)) (λ p e h. h) (end_refuses r Status status_ordinary))

pub status_refuses : (r : Rules) → Refuses LocatedLine (statuses.status_line_step r)
status_refuses r =
    refuses_seq LocatedLine (part statuses.unread (λ _. statuses.unread) (empty_lines_step r)) (λ _. first name) (statuses.version_on r) (refuses_part statuses.unread (λ _. statuses.unread) (empty_lines_step r) (empties_refuse r)) (λ k.
    refuses_seq LocatedLine (part k (statuses.with_version k) version_step) (λ _. first tt) (statuses.space_on r) (refuses_part k (statuses.with_version k) version_step version_refuses) (λ k.
    refuses_seq LocatedLine (part k (λ _. k) (space_step Version)) (λ _. first (first tt)) (statuses.code_on r) (refuses_part k (λ _. k) (space_step Version) (byte_refuses 32 Version version_ordinary)) (λ k.
    refuses_seq LocatedLine (part k (statuses.with_code k) (statuses.gap_code r)) (λ _. first tt) (statuses.behind_on r) (refuses_part k (statuses.with_code k) (statuses.gap_code r) (gap_refuses (statuses.more_spaces r) Located code_step codes.none code_refuses)) (λ k.
    refuses_seq LocatedLine (part k (λ _. k) (behind_code_step r)) (λ _. first tt) (statuses.reason_on r) (refuses_part k (λ _. k) (behind_code_step r) (behind_refuses r)) (λ k.
    refuses_part k (statuses.with_reason k) (statuses.gap_reason r) (gap_refuses (statuses.more_spaces r) Located (statuses.reason_end_step r) (first reasons.none) (reason_end_refuses r)))))))

-- a head
module _ (r : Rules) (n : ℕ) {K S : Type 0} (m : Step S K (Fault × K)) (known : S → K) (s : S) (M : Refuses LocatedLine m) where
  abbrev FullHead : ℕ → Fault × Known K → Type 0
  FullHead p x = Full n p x.0 x.1.1

  head_refuses : Refuses FullHead (head_step r n m known s)
  head_refuses =
      refuses_seq FullHead (judged pass (λ x. (x.0, (x.1, []))) m) (λ _. ([], first tt)) (block_on r n m known s)
      (refuses_judged LocatedLine FullHead pass (λ x. (x.0, (x.1, []))) m (passes FullHead (λ k. k)) (λ p x h. ordinary_full [] h) M)
      (λ k. refuses_judged (λ p x. Full n p x.0 x.1) FullHead (λ hs. pass (k, hs)) (λ x. (x.0, (k, x.1))) (block_step r n) (passes FullHead (λ hs. (k, hs))) (λ p x h. h) (block_refuses r n))

  pub head_full : (z : List ℕ) (x : Fault × Known K) (q : ℕ) → run_at (head_step r n m known s) (first s) z 0 ≡ refused x q → Full n q x.0 x.1.1
  head_full z x q e = refused_is FullHead (head_step r n m known s) head_refuses z (first s) 0 x q e

pub block_full : (r : Rules) (n : ℕ) (z : List ℕ) (x : Fault × List Header) (q : ℕ) → run_at (block_step r n) ([], first tt) z 0 ≡ refused x q → Full n q x.0 x.1
block_full r n z x q e = refused_is (λ p x. Full n p x.0 x.1) (block_step r n) (block_refuses r n) z ([], first tt) 0 x q e
