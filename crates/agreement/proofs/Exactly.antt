-- A reader of heads with n slots, against what the grammar calls a head: the laws from which the promises follow.
-- Assumes nothing.
use Rattle.std.specs.Prelude.{ℕ, ◌+◌, ◌-◌, ◌≤◌, ◌<◌, ◌≡◌, refl, List, [], ◌++◌, length, take}
use Rattle.std.proofs.Common.{arith, sym, ap, subst, ◌∙◌, length-append}
use Rattle.reader.specs.Machine.{Step, run, run_at}
use Rattle.reader.specs.Seq.{first}
use Rattle.reader.specs.Answer.{Answer, got, short, bad, answer}
use Rattle.reader.proofs.Answer.{answered, answered_bad, bad_stays}
use Rattle.reader.specs.Refusals.{Refuses}
use Rattle.reader.specs.Known.{known_of}
use Rattle.exact.specs.Exact.{Relation, Exact}
use Rattle.rules.specs.Rules.{Rules}
use Rattle.grammar.specs.Fields.{Field}
use Rattle.grammar.specs.Message.{IsEmptyLines, IsLineEnd, head}
use Rattle.grammar.specs.Message as grammar
use Rattle.parts.specs.declared.Error.TheVariants.{TooManyHeaders}
use Rattle.parts.specs.declared.Fault.{Fault}
use Rattle.parts.specs.Answers.{fault}
use Rattle.fields.specs.declared.Header.{Header}
use Rattle.blocks.specs.Block.{Blocks, block}
use Rattle.blocks.specs.Block as blocks
use Rattle.leaves.specs.Rows.{In}
use Rattle.heads.specs.Head.{Heads, Known, head_step, head_known, over, headed, head_parts, given}
use Rattle.heads.specs.Head as heads
use Rattle.agreement.specs.Head.{exact_head}
use Rattle.agreement.specs.Places.{At, at_start, at_as, at_first, at_second, from_at}
use Rattle.agreement.specs.Fields.{HeaderIs, fields_are, fields_of, block_derived, block_read, block_over, few_fields, Each, fields_in}
use Rattle.agreement.specs.Colons.{HeaderToColon}
use Rattle.agreement.proofs.Colons.{fields_to_colon}
use Rattle.agreement.specs.FieldLine.{HeaderIn}
use Rattle.agreement.specs.Full.{LocatedLine, head_full}
use Rattle.agreement.specs.Steps.{passed_is, Started, LineRead}
use Rattle.agreement.specs.Exactly.{Exactly, Found, Lies, Tells, read}

pub given_over : {K : Type 0} (k : K) (b : Blocks) → given (over k b) ≡ blocks.given b
given_over k (got hs q) = refl
given_over k (short hs) = refl
given_over k (bad x) = refl

pub line_over : {K : Type 0} (k : K) (b : Blocks) → (known_of (over k b)).0 ≡ k
line_over k (got hs q) = refl
line_over k (short hs) = refl
line_over k (bad x) = refl

module _ (r : Rules) (n : ℕ) {K S : Type 0} (m : Step S K (Fault × K)) (known : S → K) (s : S) where
  line_is : (z : List ℕ) (a : Answer K K (Fault × K)) → (known_of (headed a (λ k q. over k (block r n [] z q)))).0 ≡ known_of a
  line_is z (got k q) = line_over k (block r n [] z q)
  line_is z (short k) = refl
  line_is z (bad x) = refl

  pub head_line : (z : List ℕ) → (known_of (heads.head r n m known s z)).0 ≡ known_of (answer known (run_at m s z 0))
  head_line z = ap (λ (y : Heads K). (known_of y).0) (head_parts r n m known s z) ∙ line_is z (answer known (run_at m s z 0))

  -- what holds of the headers of every block holds of those of a head
  given_is : (P : List Header → Type 0) → P [] → (z : List ℕ) → ((q : ℕ) → P (blocks.given (block r n [] z q))) → (a : Answer K K (Fault × K)) → P (given (headed a (λ k q. over k (block r n [] z q))))
  given_is P h z g (got k q) = subst P (sym (given_over k (block r n [] z q))) (g q)
  given_is P h z g (short k) = h
  given_is P h z g (bad x) = h

  head_given : (P : List Header → Type 0) → P [] → (z : List ℕ) → ((q : ℕ) → P (blocks.given (block r n [] z q))) → P (given (heads.head r n m known s z))
  head_given P h z g = subst (λ a. P (given a)) (sym (head_parts r n m known s z)) (given_is P h z g (answer known (run_at m s z 0)))

  pub head_lies : (In : List ℕ → K → Type 0) → ((z : List ℕ) → In z (known_of (answer known (run_at m s z 0)))) → Lies r In (heads.head r n m known s)
  head_lies In h = record {
    line = λ z. subst (In z) (sym (head_line z)) (h z);
    fields = λ z. head_given (Each (HeaderIn (length z))) tt z (λ q. fields_in z r n [] q tt);
    are = λ z. head_given (Each (HeaderIs z r)) tt z (λ q. fields_are z r n [] q tt);
    colons = λ z. head_given (Each (HeaderToColon z r)) tt z (λ q. fields_to_colon z r n [] q tt);
  }

module _ (r : Rules) (n : ℕ) {L K S : Type 0} (m : Step S K (Fault × K)) (known : S → K) (s : S) {G : Relation K} (M : Exact m s G) (ordinary : Refuses LocatedLine m)
    (start_line : List ℕ → L → Type 0) (Says : List ℕ → K → L → Type 0)
    (derived : (z w rest : List ℕ) (k : K) → At z 0 w rest → G 0 w k rest → Started r start_line (Says z k) w)
    (reads : (z e l c rest : List ℕ) (g : L) → At z 0 (e ++ l ++ c) rest → IsEmptyLines r e → start_line l g → IsLineEnd r c → LineRead Says G z 0 (e ++ l ++ c) g rest) where
  found : (z : List ℕ) (k : K) (hs : List Header) (q : ℕ) → read r n m known s M ordinary start_line Says derived reads z ≡ got (k, hs) q → Found (head r start_line) Says n z k hs q
  found z k hs q e =
      let P = (exact_head r n m known s M).sound 0 z (k, hs) q (answered (head_known r n m known s) _ e) in
      let B = P.holds in
      let h : At z 0 P.w P.rest = record { before = []; whole = P.whole; place = refl } in
      let h' = at_as B.whole h in
      let D = derived z B.w₁ (B.w₂ ++ P.rest) B.left.a (at_first B.w₁ B.w₂ h') B.left.holds in
      let A = block_derived (at_second B.w₁ B.w₂ h') B.right.holds in
      let whole : P.w ≡ D.e ++ D.l ++ D.c ++ B.w₂ = B.whole ∙ ap (λ y. y ++ B.w₂) D.whole in
      let same_k : B.a ≡ B.left.a = passed_is B.left.passes in
      let same : ◌≡◌ {A = Known K} (k, hs) (B.a, B.right.a) = passed_is B.right.passes in
      let k_is : k ≡ B.left.a = ap (λ y. y.0) same ∙ same_k in
      let hs_is : hs ≡ A.new = ap (λ y. y.1) same ∙ A.whole in
      record {
        w = D.e ++ D.l ++ D.c ++ B.w₂;
        rest = P.rest;
        l = D.g;
        whole = P.whole ∙ ap (λ y. y ++ P.rest) whole;
        place = omega (arith, P.place, ap length whole);
        head = subst (λ y. head r start_line (D.e ++ D.l ++ D.c ++ B.w₂) D.g (fields_of z y)) (sym hs_is) (grammar.head.message D.empty D.line D.ends A.block);
        says = subst (λ y. Says z y D.g) (sym k_is) D.says;
        fits = omega (arith, A.fits (omega arith), ap length (ap (λ y. y.1) same));
      }

  -- behind the start line the block is left
  line_got : (z w rest : List ℕ) (k : K) → At z 0 w rest → G 0 w k rest → read r n m known s M ordinary start_line Says derived reads z ≡ over k (block r n [] z (0 + length w))
  line_got z w rest k h g =
      head_parts r n m known s z
      ∙ ap (λ a. headed a (λ k q. over k (block r n [] z q))) (ap (λ y. answer known (run m s 0 y)) (from_at h) ∙ ap (answer known) (M.complete 0 w rest k g))

  -- a head by its start line, whose bytes are w, and the block b behind it
  record BehindLine (z w b rest : List ℕ) (l : L) : Type 0 where
    k : K
    says : Says z k l
    there : At z (0 + length w) b rest
    answers : (read r n m known s M ordinary start_line Says derived reads) z ≡ over k (block r n [] z (0 + length w))

  behind_line : (e v c b rest : List ℕ) (l : L) → IsEmptyLines r e → start_line v l → IsLineEnd r c → BehindLine (e ++ v ++ c ++ b ++ rest) (e ++ v ++ c) b rest l
  behind_line e v c b rest l empty line ends =
      let z : List ℕ = e ++ v ++ c ++ b ++ rest in
      let h = at_start (e ++ v ++ c ++ b) rest in
      let h₁ = at_first (e ++ v ++ c) b h in
      let R = reads z e v c (b ++ rest) l h₁ empty line ends in
      record { k = R.k; says = R.says; there = at_second (e ++ v ++ c) b h; answers = line_got z (e ++ v ++ c) (b ++ rest) R.k h₁ R.reads }

  complete_head : (w rest : List ℕ) (l : L) (fs : List Field) → head r start_line w l fs → length fs ≤ n → Tells (head r start_line) Says n (w ++ rest) l fs (λ k hs. got (k, hs) (length w)) (read r n m known s M ordinary start_line Says derived reads (w ++ rest))
  complete_head w rest l fs (grammar.head.message {e = e} {w = v} {c = c} {b = b} empty line ends block) f =
      let z : List ℕ = e ++ v ++ c ++ b ++ rest in
      let D = behind_line e v c b rest l empty line ends in
      let F = block_read z r n D.there block [] refl (omega (arith, f)) in
      let q : 0 + length (e ++ v ++ c) + length b ≡ length (e ++ v ++ c ++ b) = omega (arith, length-append (e ++ v ++ c) b) in
      record { k = D.k; hs = F.new; says = D.says; holds = F.holds; answers = D.answers ∙ ap (over D.k) F.answers ∙ ap (got (D.k, F.new)) q }

  over_head : (w rest : List ℕ) (l : L) (fs : List Field) → head r start_line w l fs → n < length fs → (c : ℕ) × Tells (head r start_line) Says n (w ++ rest) l (take n fs) (λ k hs. bad (fault TooManyHeaders c, (k, hs))) (read r n m known s M ordinary start_line Says derived reads (w ++ rest))
  over_head w rest l fs (grammar.head.message {e = e} {w = v} {c = c} {b = b} empty line ends block) f =
      let z : List ℕ = e ++ v ++ c ++ b ++ rest in
      let D = behind_line e v c b rest l empty line ends in
      let F = block_over z r n D.there block [] refl (omega arith) (omega (arith, f)) in
      let j : n - 0 ≡ n = omega arith in
      (F.position, record { k = D.k; hs = F.new; says = D.says; holds = F.holds ∙ ap (λ y. take y fs) j; answers = D.answers ∙ ap (over D.k) F.answers })

  pub exactly : Exactly (head r start_line) Says n (read r n m known s M ordinary start_line Says derived reads)
  exactly = record {
    sound = found;
    complete = complete_head;
    too_many = over_head;
    few = λ z. head_given r n m known s (λ hs. length hs ≤ n) (omega arith) z (λ q. few_fields z r n [] q (omega arith));
    full = λ z x e. let u = answered_bad (head_known r n m known s) _ e in (head_full r n m known s ordinary z x u.0 u.1).full;
    stays = λ z u x. bad_stays (head_known r n m known s) (head_step r n m known s) z u (first s) 0;
  }
