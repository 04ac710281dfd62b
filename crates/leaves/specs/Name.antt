-- A name is read exactly where one or more token bytes stand, then the blanks that the rules allow, then a colon.
-- Assumes nothing.
use Rattle.std.specs.Prelude.{ℕ, suc, ◌+◌, ◌≡◌, refl, List, [], ◌∷◌, ◌++◌, true, length}
use Rattle.std.proofs.Common.{arith, sym, ap, ◌∙◌}
use Rattle.reader.specs.Machine.{Run, gave, after, run}
use Rattle.reader.specs.Judged.{pass, judged}
use Rattle.reader.specs.Seq.{first}
use Rattle.reader.specs.Tests.{split, never}
use Rattle.exact.specs.Exact.{Relation, Part, Exact}
use Rattle.exact.specs.Judged.{Passes, exact_judged}
use Rattle.exact.specs.Seq.{Both}
use Rattle.exact.proofs.Seq.{exact_seq}
use Rattle.octets.specs.Class.{is_token}
use Rattle.rules.specs.Rules.{Rules}
use Rattle.parts.specs.declared.Error.TheVariants.{HeaderName}
use Rattle.parts.specs.declared.Fault.{Fault}
use Rattle.parts.specs.declared.Piece.{Piece}
use Rattle.parts.specs.Answers.{piece}
use Rattle.gaps.specs.Gap.{blanks_if}
use Rattle.names.specs.Name.{Token, none, some as inside, token_step, colon_step, gap_colon, name_step}
use Rattle.grammar.specs.Rows.{Many, none as no_more, more, Some, some}
use Rattle.leaves.specs.Rows.{In, over}
use Rattle.leaves.specs.Byte.{Byte, exact_byte}
use Rattle.leaves.specs.Gap.{GapStops, BehindGap, exact_behind_gap}

-- token bytes up to one that is none; the answer is their piece
pub record Tokened (p : ℕ) (w : List ℕ) (a : Piece) (rest : List ℕ) : Type 0 where
  pub kind : Some (In is_token) w
  pub place : a ≡ piece p (p + length w)
  pub stops : GapStops is_token rest

-- the rest of a name that began at o
record Left (o p : ℕ) (xs : List ℕ) (a : Piece) (q : ℕ) : Type 0 where
  w : List ℕ
  rest : List ℕ
  kind : Many (In is_token) w
  whole : xs ≡ w ++ rest
  behind : q ≡ p + length w
  place : a ≡ piece o (p + length w)
  stops : GapStops is_token rest

left_more : (o p b : ℕ) (bs : List ℕ) (a : Piece) (q : ℕ) → is_token b ≡ true → Left o (p + 1) bs a q → Left o p (b ∷ bs) a q
left_more o p b bs a q h k =
    let n : p + 1 + length k.w ≡ p + length (b ∷ k.w) = omega arith in
    record { w = b ∷ k.w; rest = k.rest; kind = more h k.kind; whole = ap (λ y. b ∷ y) k.whole; behind = k.behind ∙ n; place = k.place ∙ ap (piece o) n; stops = k.stops }

sound_inside : (o : ℕ) (xs : List ℕ) (p : ℕ) (a : Piece) (q : ℕ) → run token_step (inside o) p xs ≡ gave a q → Left o p xs a q
sound_inside o [] p a q = λ e. never cc
sound_inside o (b ∷ bs) p a q =
    let k : Token → Run Token Piece Fault = λ s. run token_step s (p + 1) bs in
    let ih = sound_inside o bs (p + 1) a q in
    split (λ u. after u p k ≡ gave a q → Left o p (b ∷ bs) a q) (is_token b) (λ h e. left_more o p b bs a q h (ih e))
    (λ t e. let i : piece o p ≡ a = cc in let j : p ≡ q = cc in let n : p ≡ p + 0 = omega arith in record { w = []; rest = b ∷ bs; kind = no_more; whole = refl; behind = sym j ∙ n; place = sym i ∙ ap (piece o) n; stops = record { b = b; ys = bs; whole = refl; stops = t } })

sound_token : (p : ℕ) (xs : List ℕ) (a : Piece) (q : ℕ) → run token_step none p xs ≡ gave a q → Part Tokened p xs a q
sound_token p [] a q = λ e. never cc
sound_token p (b ∷ bs) a q =
    split (λ u. after u p (λ s. run token_step s (p + 1) bs) ≡ gave a q → Part Tokened p (b ∷ bs) a q) (is_token b)
    (λ h e.
    let k = sound_inside p bs (p + 1) a q e in
    let n : p + 1 + length k.w ≡ p + length (b ∷ k.w) = omega arith in
    record { w = b ∷ k.w; rest = k.rest; whole = ap (λ y. b ∷ y) k.whole; place = k.behind ∙ n; holds = record { kind = some h k.kind; place = k.place ∙ ap (piece p) n; stops = k.stops } })
    (λ _ e. never cc)

complete_token : (p : ℕ) (w rest : List ℕ) (a : Piece) → Tokened p w a rest → run token_step none p (w ++ rest) ≡ gave a (p + length w)
complete_token p w rest a K = by K.kind K.place
  where
    by : {v : List ℕ} → Some (In is_token) v → a ≡ piece p (p + length v) → run token_step none p (v ++ rest) ≡ gave a (p + length v)
    by (some {b = b} {w = v} h m) e =
        let n : p + 1 + length v ≡ p + suc (length v) = omega arith in
        rw h (over token_step (inside p) (λ c t q. rw t) m (p + 1) rest ∙ rw (K.stops.whole, K.stops.stops, n) (ap (λ y. gave y (p + suc (length v))) (sym e)))

pub exact_token : Exact token_step none Tokened
exact_token = record { sound = sound_token; complete = complete_token }

-- the name, and up to its colon
abbrev pub Colon : Rules → Relation (Unit {0})
Colon r = BehindGap (blanks_if r.spaces_after_name) (Byte 58)

abbrev pub Named : Rules → Relation Piece
Named r = Both Tokened (λ n. Passes {F = Fault} (λ _. pass n) (Colon r))

pub exact_name : (r : Rules) → Exact (name_step r) (first none) (Named r)
exact_name r =
    exact_seq token_step (λ _. first tt) (λ n. judged (λ _. pass n) (λ e. e) (gap_colon r)) none exact_token (λ n.
    exact_judged (λ _. pass n) (λ e. e) (gap_colon r) (exact_behind_gap (blanks_if r.spaces_after_name) colon_step tt (exact_byte 58 HeaderName)))
