-- The blanks before a line are passed over exactly where the grammar has them: until there is a header, if the rules allow them.
-- Assumes nothing.
use Rattle.std.specs.Prelude.{ℕ, ◌+◌, ◌≤◌, ◌<◌, ◌≡◌, refl, List, [], ◌∷◌, ◌++◌, Bool, false, ◌&&◌, length, get_or, take}
use Rattle.std.proofs.Common.{arith, sym, ap, subst, ◌∙◌, length-take-le, take_all, get_or-take}
use Rattle.std.proofs.Math.Decide.{dec_lt}
use Rattle.reader.specs.Skip.{Skipped}
use Rattle.reader.specs.Tests.{both_true}
use Rattle.octets.specs.Grammar.{IsBlank}
use Rattle.rules.specs.Rules.{Rules}
use Rattle.grammar.specs.Rows.{Many, none, more, Some, some}
use Rattle.grammar.specs.Message.{IsBeforeFirstName}
use Rattle.grammar.specs.Message as grammar
use Rattle.fields.specs.declared.Header.{Header}
use Rattle.blocks.specs.Block.{none_yet, blanks_before}
use Rattle.leaves.specs.Rows.{In}
use Rattle.leaves.specs.Gap.{GapStops, row_skipped}
use Rattle.agreement.specs.Names.{allowed_blanks, some_allowed, in_allowed, no_blank_stops}
use Rattle.agreement.specs.Places.{At, from_at}
use Rattle.agreement.specs.Folded.{NoBlank}

-- with a header there is one
pub none_behind : (hs : List Header) (h : Header) → none_yet (hs ++ (h ∷ [])) ≡ false
none_behind [] h = refl
none_behind (g ∷ hs) h = refl

module _ (r : Rules) (hs : List Header) where
  abbrev allowed : Bool
  allowed = r.space_before_first_name && none_yet hs

  pub before_derived : {w : List ℕ} → Many (In (blanks_before r hs)) w → IsBeforeFirstName r (none_yet hs) w
  before_derived none = grammar.IsBeforeFirstName.nothing
  before_derived {w} (more {b = b} h k) =
      let t = both_true r.space_before_first_name (none_yet hs) (some_allowed allowed b h) in
      subst (λ y. IsBeforeFirstName r y w) (sym t.1) (grammar.IsBeforeFirstName.blanks t.0 (all (allowed_blanks allowed (more h k))))
    where
      all : {c : ℕ} {v : List ℕ} → Many IsBlank (c ∷ v) → Some IsBlank (c ∷ v)
      all (more x l) = some x l

  before_all : {first : Bool} {w : List ℕ} → first ≡ none_yet hs → IsBeforeFirstName r first w → Many (In (blanks_before r hs)) w
  before_all e grammar.IsBeforeFirstName.nothing = none
  before_all e (grammar.IsBeforeFirstName.blanks h k) = in_allowed allowed (rw (h, ← e)) k

  -- they end before a byte that is none, or none that is allowed
  pub before_passed : {z : List ℕ} {p : ℕ} {first : Bool} {w rest : List ℕ} → first ≡ none_yet hs → At z p w rest → IsBeforeFirstName r first w → GapStops (blanks_before r hs) rest → Skipped (blanks_before r hs) z p (p + length w)
  before_passed {z} {p} e h k S = row_skipped z p (from_at h) (before_all e k) S

  pub before_read : {z : List ℕ} {p : ℕ} {first : Bool} {w rest : List ℕ} → first ≡ none_yet hs → At z p w rest → IsBeforeFirstName r first w → NoBlank rest → Skipped (blanks_before r hs) z p (p + length w)
  before_read e h k N = before_passed e h k (subst (GapStops (blanks_before r hs)) (sym N.whole) (no_blank_stops allowed N.b N.ys N.solid))

-- they are the same in any input that begins as z does up to a position c behind them, and has none at c
pub before_there : {class : ℕ → Bool} (z y : List ℕ) (c : ℕ) {q e : ℕ} → Skipped class z q e → e ≤ c → c ≤ length z → take c y ≡ take c z → (e ≡ c → c < length y → class (get_or y c 0) ≡ false) → Skipped class y q e
before_there {class} z y c {q} {e} g l i same stops = record {
  passed = record { from = g.passed.from; inside = λ _. omega (arith, size, l); past = λ p. omega (arith, size, l, p, g.passed.from); all = λ k lo hi. ap class (byte k (omega (arith, l, hi))) ∙ g.passed.all k lo hi };
  stop = λ h. by h (dec_lt e c);
}
  where
    byte : (k : ℕ) → k < c → get_or y k 0 ≡ get_or z k 0
    byte k h = sym (get_or-take c y k 0 h) ∙ ap (λ w. get_or w k 0) same ∙ get_or-take c z k 0 h

    size : c ≤ length y
    size = at_least (dec_lt (length y) c)
      where
        at_least : Dec (length y < c) → c ≤ length y
        at_least (no h) = omega arith
        at_least (yes h) = absurd (omega (arith, h, ap length same, length-take-le c z i, ap length (take_all c y (omega arith))))

    by : e < length y → Dec (e < c) → class (get_or y e 0) ≡ false
    by h (yes k) = ap class (byte e k) ∙ g.stop (omega (arith, k, i))
    by h (no k) = let e_is : e ≡ c = omega arith in ap (λ w. class (get_or y w 0)) e_is ∙ stops e_is (omega (arith, e_is, h))
