-- Where an error lies: at the byte that is wrong, and TooManyHeaders at the header that had no slot.
-- Assumes nothing.
use Rattle.std.specs.Prelude.{ℕ, ◌+◌, ◌≤◌, ◌<◌, ◌≡◌, refl, ◌⊎◌, List, [], ◌++◌, Bool, true, false, ◌&&◌, eqb, ltb, length, take, drop}
use Rattle.std.proofs.Common.{arith, sym, ap, ◌∙◌, inl, inr, append_assoc, length-append, take-append-drop, length-take-le, take_all, take_at, take-take}
use Rattle.std.proofs.Math.Decide.{dec_lt}
use Rattle.reader.specs.Machine.{gave, Step, run_at}
use Rattle.reader.specs.Judged.{pass, judged}
use Rattle.reader.specs.Seq.{first}
use Rattle.reader.specs.Answer.{Answer, got, short, bad, answer, lapwise}
use Rattle.reader.proofs.Answer.{answered, answered_bad}
use Rattle.reader.specs.Chain.{nothing, part}
use Rattle.reader.specs.Refusals.{Refusal, Refuses}
use Rattle.reader.proofs.Refusals.{refused_is}
use Rattle.reader.specs.Decided.{Taken, Takes}
use Rattle.reader.proofs.Decided.{same_start, takes_judged, takes_seq}
use Rattle.reader.proofs.Refused.{refused_in, waits_before, decided_there}
use Rattle.reader.specs.Tests.{split, never}
use Rattle.octets.specs.Class.{is_blank, is_hex_digit, is_token}
use Rattle.rules.specs.Rules.{Rules, default}
use Rattle.lengths.specs.Lengths.{ends_long}
use Rattle.gaps.specs.Gap.{gap_step}
use Rattle.parts.specs.declared.Error.{Error}
use Rattle.parts.specs.declared.Error.TheVariants.{NewLine, Status, Token, TooManyHeaders, Version}
use Rattle.parts.specs.declared.Fault.{Fault}
use Rattle.parts.specs.LineEnd.{begin, line_end_step}
use Rattle.parts.specs.LineEnd as lineends
use Rattle.parts.specs.EmptyLines.{empty_lines_step}
use Rattle.parts.specs.Answers.{Passed}
use Rattle.words.specs.Word.{none, word_step}
use Rattle.versions.specs.Version.{name, version_step}
use Rattle.spaces.specs.Space.{space_step, behind_code_step}
use Rattle.status.specs.Reason.{reason_step}
use Rattle.status.specs.Reason as reasons
use Rattle.blocks.specs.Block.{Blocks, block_step, block}
use Rattle.requestline.specs.RequestLine as requests
use Rattle.statusline.specs.StatusLine as statuses
use Rattle.startline.specs.Answers.{tell}
use Rattle.heads.specs.Head.{Heads, Known, head_step, head_known, over, headed, head_parts, given, Told}
use Rattle.heads.specs.Head as heads
use Rattle.chunks.specs.Chunk.{digits, blanks, extension, cr, behind_step, chunk_step, chunk}
use Rattle.agreement.specs.Full.{Ordinary, which, Full, LocatedLine, head_full, block_full}
use Rattle.agreement.specs.Overflow.{one_too_many}
use Rattle.agreement.specs.Promises.{Waits, OneTooMany, FaultAt, FaultPromise, SizeFaultAt}

-- a block's error behind a start line
pub over_bad : {K : Type 0} (k : K) (b : Blocks) (x : Fault × Known K) → ◌≡◌ {A = Heads K} (over k b) (bad x) → b ≡ bad (x.0, x.1.1)
over_bad k (got y p) x e = never cc
over_bad k (short y) x e = never cc
over_bad {K} k (bad y) x e = let u : ◌≡◌ {A = Fault × Known K} (y.0, (k, y.1)) x = cc in ap (λ v. bad (v.0, v.1.1)) u

-- what is decided by the byte at q is not before it: where the first p bytes wait, p is no further
not_before : {U A F : Type 0} (read : List ℕ → Answer U A F) (z : List ℕ) {x : F} {p q : ℕ} → ((u : List ℕ) → read (take (q + 1) z ++ u) ≡ bad x) → Waits (read (take p z)) → p ≤ q
not_before read z {x} {p} {q} there w = by (dec_lt q p)
  where
    by : Dec (q < p) → p ≤ q
    by (no l) = omega arith
    by (yes l) =
        let same : take (q + 1) z ++ drop (q + 1) (take p z) ≡ take p z = ap (λ y. y ++ drop (q + 1) (take p z)) (sym (take-take (q + 1) p z (omega arith))) ∙ take-append-drop (q + 1) (take p z) in
        let u = sym (there (drop (q + 1) (take p z))) ∙ ap read same ∙ w.1 in
        never cc

-- the header that has no slot begins where the bytes are not yet decided
many_wait : {K : Type 0} {r : Rules} {n : ℕ} {read : List ℕ → Heads K} {z : List ℕ} {p : ℕ} → OneTooMany r n read z p → (k : ℕ) × (p ≤ k) × Waits (read (take k z))
many_wait {r = r} {read = read} {z = z} {p = p} O = by r.multiline_headers refl
  where
    size : Dec (length z < p) → p ≤ length (take p z)
    size (yes l) = absurd (omega (arith, ap length O.whole, length-append (take p z) ((O.line ++ O.end) ++ O.rest), length-append (O.line ++ O.end) O.rest, length-append O.line O.end, ends_long O.is_end, ap length (take_all p z (omega arith))))
    size (no l) = omega (arith, length-take-le p z (omega arith))

    by : (t : Bool) → r.multiline_headers ≡ t → (k : ℕ) × (p ≤ k) × Waits (read (take k z))
    by false t =
        let i : p ≡ p + 0 = omega arith in
        (p, omega arith, ((O.known, O.headers), ap (λ y. read (take y z)) i ∙ O.waits 0 (λ _. t) (omega (arith, length-append O.line O.end, ends_long O.is_end))))
    by true t =
        let k : ℕ = length (take p z ++ (O.line ++ O.end)) in
        let all_of : z ≡ (take p z ++ (O.line ++ O.end)) ++ O.rest = O.whole ∙ sym (append_assoc (take p z) (O.line ++ O.end) O.rest) in
        let up_to : take k z ≡ take p z ++ (O.line ++ O.end) = ap (take k) all_of ∙ take_at (take p z ++ (O.line ++ O.end)) O.rest k refl in
        (k, omega (arith, length-append (take p z) (O.line ++ O.end), size (dec_lt (length z) p)), ((O.known, O.headers), ap read up_to ∙ O.undecided t))

-- an error lies no further than the byte at q, which decided it
module _ {K : Type 0} {r : Rules} {n : ℕ} {read : List ℕ → Heads K} {z : List ℕ} {x : Fault × Known K} {q : ℕ} (is : read z ≡ bad x) (full : Full n q x.0 x.1.1) (within : q < length z)
    (before : (k : ℕ) → k ≤ q → Waits (read (take k z))) (there : (u : List ℕ) → read (take (q + 1) z ++ u) ≡ bad x) (many : x.0.error ≡ TooManyHeaders → OneTooMany r n read z x.0.position) where
  no_further : x.0.position ≤ q
  no_further = by (which x.0.error)
    where
      by : (x.0.error ≡ TooManyHeaders) ⊎ Ordinary x.0.error → x.0.position ≤ q
      by (inl t) = let w = many_wait (many t) in let l : w.0 ≤ q = not_before read z there w.2 in omega (arith, w.1, l)
      by (inr o) = omega (arith, full.there o)

  located_at : FaultAt r n read z x.0
  located_at = record {
    is = (x.1, is);
    within = omega (arith, no_further, within);
    before = λ k l. before k (omega (arith, no_further, l));
    there = λ o u. ap (λ y. read (take (y + 1) z ++ u)) (full.there o) ∙ there u ∙ sym is;
    too_many = many;
  }

module _ (r : Rules) (n : ℕ) {K S : Type 0} (m : Step S K (Fault × K)) (known : S → K) (s : S) (M : Refuses LocatedLine m) (T : Takes m) where
  abbrev read : List ℕ → Heads K
  read z = heads.head r n m known s z

  -- a start line is read where its bytes are
  start_there : (z y : List ℕ) (c q : ℕ) (k : K) → answer known (run_at m s z 0) ≡ got k q → q ≤ c → c ≤ length z → take c y ≡ take c z → answer known (run_at m s y 0) ≡ got k q
  start_there z y c q k e l i same =
      let from : run_at m s (take c z ++ drop c z) 0 ≡ gave k q = ap (λ w. run_at m s w 0) (take-append-drop c z) ∙ answered known _ e in
      let to : take c z ++ drop c y ≡ y = ap (λ w. w ++ drop c y) (sym same) ∙ take-append-drop c y in
      ap (λ w. answer known (run_at m s w 0)) (sym to) ∙ ap (answer known) (same_start m T (take c z) (drop c z) (drop c y) s 0 from (omega (arith, length-take-le c z i, l)))

  head_too_many : (z : List ℕ) (x : Fault × Known K) → read z ≡ bad x → x.0.error ≡ TooManyHeaders → OneTooMany r n read z x.0.position
  head_too_many z x e o = by (answer known (run_at m s z 0)) refl (sym (head_parts r n m known s z) ∙ e)
    where
      by : (a : Answer K K (Fault × K)) → answer known (run_at m s z 0) ≡ a → headed a (λ k q. over k (block r n [] z q)) ≡ bad x → OneTooMany r n read z x.0.position
      by (got k q) h b =
          let u = answered_bad (head_known r n m known s) _ e in
          one_too_many z r n x.0 x.1.1 o read k q (over_bad k (block r n [] z q) x b) ((head_full r n m known s M z x u.0 u.1).full o)
          (λ l i y same. head_parts r n m known s y ∙ ap (λ a. headed a (λ k q. over k (block r n [] y q))) (start_there z y x.0.position q k h l i same))
      by (short k) h b = never cc
      by (bad y) h b =
          let v : ◌≡◌ {A = Fault × Known K} (y.0, (y.1, [])) x = cc in
          let u = answered_bad known _ h in
          absurd ((refused_is LocatedLine m M z s 0 y u.0 u.1).ordinary (ap (λ w. w.0.error) v ∙ o))

  pub head_fault : (z : List ℕ) (x : Fault × Known K) → read z ≡ bad x → FaultAt r n read z x.0
  head_fault z x e =
      let u = answered_bad (head_known r n m known s) _ e in
      let F = head_full r n m known s M z x u.0 u.1 in
      located_at e F (refused_in (head_known r n m known s) (head_step r n m known s) (first s) z u.1) (waits_before (head_known r n m known s) (head_step r n m known s) (first s) z u.1)
      (decided_there (head_known r n m known s) (head_step r n m known s) (first s) z u.1) (head_too_many z x e)

-- what a call tells of its error, where each error of its reader is so placed
pub fault_promise : {K : Type 0} {r : Rules} {n : ℕ} {read : List ℕ → Heads K} → ((z : List ℕ) (x : Fault × Known K) → read z ≡ bad x → FaultAt r n read z x.0) → {s old : List ℕ} {end : Passed} {line : K} {count : ℕ} {new : List ℕ} → Told (read s) end line count old new → FaultPromise r n read s end
fault_promise {read = read} F {s = s} {line = line} T = record { placed = λ x e. F s (x, (line, given (read s))) (sym T.answer ∙ ap (λ y. tell y (line, given (read s))) e) }

-- headers alone
module _ (r : Rules) (n : ℕ) (z : List ℕ) (x : Fault × Known (Unit {0})) where
  abbrev block_of : List ℕ → Heads (Unit {0})
  block_of y = over {K = Unit {0}} tt (block r n [] y 0)

  pub block_fault : block_of z ≡ bad x → FaultAt r n block_of z x.0
  block_fault e =
      let b : block r n [] z 0 ≡ bad (x.0, x.1.1) = over_bad {K = Unit {0}} tt (block r n [] z 0) x e in
      let u = answered_bad (lapwise (λ hs _. hs)) _ b in
      let F = block_full r n z (x.0, x.1.1) u.0 u.1 in
      let many : x.0.error ≡ TooManyHeaders → OneTooMany r n block_of z x.0.position = λ o. one_too_many z r n x.0 x.1.1 o block_of tt 0 b (F.full o) (λ l i y same. refl) in
      located_at e F (refused_in (lapwise (λ hs _. hs)) (block_step r n) ([], first tt) z u.1)
      (λ k l. let w = waits_before (lapwise (λ hs _. hs)) (block_step r n) ([], first tt) z u.1 k l in ((tt, w.0), ap (over tt) w.1))
      (λ w. ap (over tt) (decided_there (lapwise (λ hs _. hs)) (block_step r n) ([], first tt) z u.1 w) ∙ ap (over tt) (sym b) ∙ e) many

-- start lines take their last byte
end_takes : (r : Rules) (x : Error) → Takes (line_end_step r x)
end_takes r x begin p b = split Taken (eqb b 13) (λ _. tt) (λ _. split Taken (r.lf_alone && eqb b 10) (λ _. tt) (λ _. tt))
end_takes r x lineends.cr p b = split Taken (eqb b 10) (λ _. tt) (λ _. tt)

takes_part : {S A K : Type 0} (k : K) (f : A → K) (m : Step S A Fault) → Takes m → Takes (part k f m)
takes_part k f m T = takes_judged f (λ e. (e, k)) m T

pub request_takes : (r : Rules) → Takes (requests.request_line_step r)
request_takes r =
    takes_seq (part requests.unread (λ _. requests.unread) (empty_lines_step r)) (λ _. first none) (requests.method_on r) (λ k.
    takes_seq (part k (requests.with_method k) (word_step is_token 32 Token)) (λ _. first (first tt)) (requests.target_on r) (λ k.
    takes_seq (part k (requests.with_target k) (requests.gap_target r)) (λ _. first (first tt)) (requests.version_on r) (λ k.
    takes_seq (part k (requests.with_version k) (requests.gap_version r)) (λ _. begin) (requests.end_step r) (λ k.
    takes_part k (λ _. k) (line_end_step r NewLine) (end_takes r NewLine)))))

pub status_takes : (r : Rules) → Takes (statuses.status_line_step r)
status_takes r =
    takes_seq (part statuses.unread (λ _. statuses.unread) (empty_lines_step r)) (λ _. first name) (statuses.version_on r) (λ k.
    takes_seq (part k (statuses.with_version k) version_step) (λ _. first tt) (statuses.space_on r) (λ k.
    takes_seq (part k (λ _. k) (space_step Version)) (λ _. first (first tt)) (statuses.code_on r) (λ k.
    takes_seq (part k (statuses.with_code k) (statuses.gap_code r)) (λ _. first tt) (statuses.behind_on r) (λ k.
    takes_seq (part k (λ _. k) (behind_code_step r)) (λ _. first tt) (statuses.reason_on r) (λ k.
    takes_part k (statuses.with_reason k) (statuses.gap_reason r)
    (takes_seq (gap_step (statuses.more_spaces r)) (λ _. first reasons.none) (λ _. statuses.reason_end_step r) (λ _.
    takes_seq reason_step (λ _. begin) (λ w. judged (λ _. pass w) (λ e. e) (line_end_step r Status)) (λ w. takes_judged (λ _. w) (λ e. e) (line_end_step r Status) (end_takes r Status)))))))))

-- a chunk size line
behind_here : (v p b : ℕ) → Refusal (λ x. x ≡ p) (behind_step v p b)
behind_here v p b =
    split (Refusal (λ x. x ≡ p)) (is_blank b) (λ _. tt)
    (λ _. split (Refusal (λ x. x ≡ p)) (eqb b 59) (λ _. tt)
    (λ _. split (Refusal (λ x. x ≡ p)) (eqb b 13) (λ _. tt) (λ _. refl)))

refuses_here : Refuses (λ p x. x ≡ p) (chunk_step default)
refuses_here (digits k v) p b =
    split (Refusal (λ x. x ≡ p)) (is_hex_digit b) (λ _. split (Refusal (λ x. x ≡ p)) (ltb k 16) (λ _. tt) (λ _. refl)) (λ _. behind_here v p b)
refuses_here (blanks v) p b = behind_here v p b
refuses_here (extension v) p b = split (Refusal (λ x. x ≡ p)) (eqb b 13) (λ _. tt) (λ _. tt)
refuses_here (cr v) p b = split (Refusal (λ x. x ≡ p)) (eqb b 10) (λ _. tt) (λ _. refl)

pub chunk_fault : (z : List ℕ) (p : ℕ) → chunk default z ≡ bad p → SizeFaultAt z p
chunk_fault z p e =
    let u = answered_bad nothing _ e in
    let here : p ≡ u.0 = refused_is (λ p x. x ≡ p) (chunk_step default) refuses_here z (digits 0 0) 0 p u.0 u.1 in
    record {
      within = omega (arith, here, refused_in nothing (chunk_step default) (digits 0 0) z u.1);
      before = λ k l. (waits_before nothing (chunk_step default) (digits 0 0) z u.1 k (omega (arith, here, l))).1;
      there = λ w. ap (λ y. chunk default (take (y + 1) z ++ w)) here ∙ decided_there nothing (chunk_step default) (digits 0 0) z u.1 w;
    }
