-- Where targets are plain ASCII, a byte that is not is refused at once, whatever follows it, and the method is known.
-- Assumes nothing.
use Prim.Native.Nat.{ℕ, suc, ◌+◌}
use native.Mathlib.Omega.{arith}
use Rattle.std.specs.Prelude.{◌≡◌, false, eqb}
use Rattle.std.proofs.Math.Path.{refl, sym, ap}
use Rattle.std.proofs.Common.{◌∙◌, drop-drop, ne_eqb}
use mathlib.Core.List.{List, [], ◌∷◌, ◌++◌, append_assoc}
use Rattle.std.proofs.Math.Bool.{Bool}
use Rattle.std.proofs.Math.ListN.{length, drop, length-append}
use Rattle.std.proofs.Math.Seq.{drop_at}
use Rattle.reader.specs.Machine.{more as wants, refused, run}
use Rattle.reader.specs.Seq.{first}
use Rattle.reader.specs.Skip.{Skipped}
use Rattle.reader.specs.Answer.{got, bad, answer}
use Rattle.reader.specs.Chain.{nothing, chain}
use Rattle.octets.specs.Grammar.{VCHAR}
use Rattle.octets.specs.Class.{is_token, is_visible}
use Rattle.octets.proofs.Ties.{token_is_tchar, visible_is_VCHAR}
use Rattle.octets.specs.Outside.{space_no_token}
use Rattle.rules.specs.Rules.{Rules}
use Rattle.grammar.specs.Rows.{Many, none, more, some}
use Rattle.gaps.specs.Gap.{spaces_if}
use Rattle.grammar.specs.Message.{IsEmptyLines, IsMethod, space, IsRequestSpace}
use Rattle.parts.specs.declared.Error.TheVariants.{Token}
use Rattle.parts.specs.Answers.{piece, fault}
use Rattle.parts.specs.EmptyLines.{start, empty_lines}
use Rattle.words.specs.Word.{word_step, word}
use Rattle.words.specs.Word as words
use Rattle.words.specs.Target.{Utf8, none as no_byte, some as inside, feed, target_byte, target_step, target}
use Rattle.requestline.specs.RequestLine as requests
use Rattle.blocks.specs.Block.{block}
use Rattle.heads.specs.Head.{head, head_parts, headed, over}
use Rattle.heads.specs.Calls.{request}
use Rattle.leaves.specs.Rows.{In}
use Rattle.leaves.specs.Gap.{GapStops, row_skipped}
use Rattle.leaves.specs.EmptyLines.{exact_empties}
use Rattle.leaves.specs.Word.{exact_word}
use Rattle.agreement.specs.Rows.{many_as, in_token}
use Rattle.agreement.specs.Delimiters.{delimiter_read, gap_stops}
use Rattle.agreement.specs.Request.{method_stops}

module _ (class : ℕ → Bool) (b : ℕ) (outside : class b ≡ false) (no_space : eqb b 32 ≡ false) where
  inside_refused : (o : ℕ) (f : Utf8) {t : List ℕ} → Many (In class) t → (p : ℕ) (u : List ℕ) → run (target_step class) (inside o f) p (t ++ (b ∷ u)) ≡ refused (fault Token (p + length t)) (p + length t)
  inside_refused o f none p u = let i : p + 0 ≡ p = omega arith in rw (outside, no_space, i)
  inside_refused o f {t} (more {b = c} {w = w} h k) p u = let i : p + suc (length w) ≡ p + 1 + length w = omega arith in rw (h, i) (inside_refused o (feed f p c) k (p + 1) u)

  target_refused : {t : List ℕ} → Many (In class) t → (p : ℕ) (u : List ℕ) → run (target_step class) no_byte p (t ++ (b ∷ u)) ≡ refused (fault Token (p + length t)) (p + length t)
  target_refused none p u = let i : p + 0 ≡ p = omega arith in rw (outside, i)
  target_refused {t} (more {b = c} {w = w} h k) p u = let i : p + suc (length w) ≡ p + 1 + length w = omega arith in rw (h, i) (inside_refused p (feed (wants []) p c) k (p + 1) u)

-- no space stands before a target that begins with a visible byte, or with a byte that is no space
no_space_first : (several : Bool) {t : List ℕ} (u : List ℕ) {b : ℕ} → Many VCHAR t → (b ≡ 32 → ⊥) → GapStops (spaces_if several) (t ++ (b ∷ u))
no_space_first several u {b} none h = gap_stops several b u h
no_space_first several u (more {b = c} x k) h = gap_stops several c _ (λ i. omega (arith, i, x.low))

module _ {r : Rules} (ascii : r.any_target ≡ false) (n : ℕ) {e t : List ℕ} (u : List ℕ) {b : ℕ} where
  -- empty lines, a method, the spaces behind it and the visible bytes t of a target, then the byte, and whatever follows
  pub token_at_once : {m d : List ℕ} → IsEmptyLines r e → IsMethod m → IsRequestSpace r d → Many VCHAR t → is_visible b ≡ false → (b ≡ 32 → ⊥) → request r n (e ++ ((m ++ d) ++ (t ++ (b ∷ u)))) ≡ bad (fault Token (length e + length (m ++ d) + length t), (requests.with_method requests.unread (piece (length e) (length e + length m)), []))
  unfolding request
  token_at_once {m} {d} empty (some {b = c} {w = m'} x k) delimits visible outside no_space =
      let class : ℕ → Bool = target_byte r.any_target in
      let several = r.spaces_in_request_line in
      let D = delimiter_read several delimits in
      let f = D.w in
      let rest : List ℕ = t ++ (b ∷ u) in
      let z : List ℕ = e ++ ((m ++ space) ++ (f ++ rest)) in
      let same : (m ++ d) ++ rest ≡ (m ++ space) ++ (f ++ rest) = ap (λ y. (m ++ y) ++ rest) D.whole ∙ ap (λ y. y ++ rest) (sym (append_assoc m space f)) ∙ append_assoc (m ++ space) f rest in
      let i : ℕ = length e in
      let j : ℕ = i + length (m ++ space) in
      let g : ℕ = j + length f in
      let place : g + length t ≡ i + length (m ++ d) + length t = omega (arith, length-append m space, length-append m d, ap length D.whole, length-append space f) in
      let line = requests.with_method requests.unread (piece i (i + length m)) in
      let from : 0 + i ≡ i = omega arith in
      let lines : empty_lines r z 0 ≡ got tt i =
      ap (answer nothing) ((exact_empties r).complete 0 e ((m ++ space) ++ (f ++ rest)) tt (record { lines = empty; stops = method_stops r c _ ((token_is_tchar c).1 x) })) ∙ ap (got tt) from in
      let named : word is_token 32 Token z i ≡ got (piece i (i + length m)) j =
      ap (λ y. answer nothing (run (word_step is_token 32 Token) words.none i y)) (drop_at e ((m ++ space) ++ (f ++ rest)) i refl)
      ∙ ap (answer nothing) ((exact_word is_token 32 Token space_no_token).complete i (m ++ space) (f ++ rest) (piece i (i + length m)) (record { v = m; kind = in_token (some x k); whole = refl; place = refl })) in
      let behind : drop j z ≡ f ++ rest = ap (drop j) (sym (append_assoc e (m ++ space) (f ++ rest))) ∙ drop_at (e ++ (m ++ space)) (f ++ rest) j (length-append e (m ++ space)) in
      let at_target : drop g z ≡ rest = sym (drop-drop (length f) j z) ∙ ap (drop (length f)) behind ∙ drop_at f rest (length f) refl in
      let gap : Skipped (requests.more_spaces r) z j g = row_skipped z j behind D.all (no_space_first several u visible no_space) in
      let kind : Many (In class) t = many_as (λ a h. rw ascii ((visible_is_VCHAR a).1 h)) visible in
      let wrong : target class z g ≡ bad (fault Token (g + length t)) =
      ap (λ y. answer nothing (run (target_step class) no_byte g y)) at_target ∙ ap (answer nothing) (target_refused class b (rw ascii outside) (ne_eqb b 32 no_space) kind g u) in
      let read : requests.request_line r z 0 ≡ bad (fault Token (g + length t), line) =
      sym (requests.request_line_whole r z 0 refl) ∙ ap (λ a. chain requests.unread (λ _. requests.unread) a (requests.from_method r z)) lines
      ∙ ap (λ a. chain requests.unread (requests.with_method requests.unread) a (requests.from_target r z)) named
      ∙ sym (requests.target_gapped r z line gap refl) ∙ ap (λ a. chain line (requests.with_target line) a (requests.from_version r z)) wrong in
      ap (λ y. head r n (requests.request_line_step r) requests.line_known (first start) (e ++ y)) same
      ∙ head_parts r n (requests.request_line_step r) requests.line_known (first start) z ∙ ap (λ a. headed a (λ k q. over k (block r n [] z q))) read
      ∙ ap (λ y. bad (fault Token y, (line, []))) place
