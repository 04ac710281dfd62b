-- What stands between a header's name and its colon (RFC 9112, 5.1): spaces and tabs where they are allowed, and nothing else.
-- Assumes nothing.
use Rattle.std.specs.Prelude.{ℕ, ◌+◌, ◌-◌, ◌≤◌, ◌<◌, ◌≡◌, refl, List, Bool, true, false, length, get_or, Err, Ok}
use Rattle.std.proofs.Common.{arith, sym, ap, subst, ◌∙◌, eqb-true, eq-eqb, ne_eqb}
use Rattle.std.proofs.Math.Decide.{dec_lt}
use Rattle.std.proofs.Math.Bool.{and-false}
use Rattle.std.specs.Result.{IsErrAnd}
use Rattle.reader.specs.Tests.{both_true, never, clash}
use Rattle.reader.specs.Skip.{Skipped}
use Rattle.reader.proofs.Skip.{told_true, told_false}
use Rattle.reader.specs.Answer.{got, short, bad}
use Rattle.reader.specs.Chain.{ended}
use Rattle.octets.specs.Class.{is_token, is_blank}
use Rattle.octets.specs.Grammar.{IsTchar, IsBlank}
use Rattle.octets.specs.Outside.{colon_no_blank}
use Rattle.octets.proofs.Ties.{blank_is_blank, token_is_tchar}
use Rattle.gaps.specs.Gap.{blanks_if, gap_end}
use Rattle.gaps.proofs.Gap.{end_skipped}
use Rattle.rules.specs.Rules.{Rules}
use Rattle.parts.specs.declared.Error.TheVariants.{HeaderName}
use Rattle.parts.specs.declared.Fault.{Fault}
use Rattle.parts.specs.declared.Unread.{Unread}
use Rattle.parts.specs.declared.Unread.TheVariants.{More, Bad}
use Rattle.parts.specs.declared.Piece.{Piece}
use Rattle.parts.specs.Answers.{Passed, piece, fault, passed, refusal, stopped}
use Rattle.parts.specs.Byte.{Is, IsPast}
use Rattle.names.specs.Name.{is_colon, before_colon, name, name_none, name_not, name_more, colon_more, colon_there, colon_not}
use Rattle.names.specs.Colon.{BehindName, Blanks, NameToColon, ToColon, end}

-- where no blanks are allowed the colon is the byte behind the name
pub colon_at_once : {xs : List ℕ} {end : ℕ} (k : ToColon false xs end) → k.colon ≡ end
colon_at_once {end = end} k = by (dec_lt end k.colon)
  where
    by : Dec (end < k.colon) → k.colon ≡ end
    by (yes l) = absurd (clash (k.between end (omega arith) l).0 refl)
    by (no l) = omega (arith, k.behind)

module _ {allowed : Bool} {xs : List ℕ} {end q : ℕ} (s : Skipped (blanks_if allowed) xs end q) where
  all_blanks : Blanks allowed xs end q
  all_blanks k lo hi = let t = both_true allowed (is_blank (get_or xs k 0)) (s.passed.all k lo hi) in (t.0, (blank_is_blank (get_or xs k 0)).0 t.1)

  abbrev colon_found : q < length xs → is_colon (get_or xs q 0) ≡ true → ToColon allowed xs end
  colon_found l t = record { colon = q; behind = s.passed.from; inside = l; there = eqb-true _ _ t; between = all_blanks }

-- a name that is read is one, up to its colon
module _ (r : Rules) (xs : List ℕ) (at : ℕ) (a : Piece) (q : ℕ) (g : name r xs at ≡ got a q) where
  name_end : Skipped is_token xs (at + 1) (end r xs at a q g)
  name_end = end_skipped is_token xs (at + 1)

  abbrev colon_at : ℕ
  colon_at = gap_end (before_colon r) xs (end r xs at a q g)

  gap_end_lem : Skipped (before_colon r) xs (end r xs at a q g) colon_at
  gap_end_lem = end_skipped (before_colon r) xs (end r xs at a q g)

  -- its bytes, from the first on
  all_tokens : is_token (get_or xs at 0) ≡ true → (i : ℕ) → at ≤ i → i < (end r xs at a q g) → IsTchar (get_or xs i 0)
  all_tokens c i lo hi = by (dec_lt at i)
    where
      by : Dec (at < i) → IsTchar (get_or xs i 0)
      by (yes l) = (token_is_tchar (get_or xs i 0)).0 (name_end.passed.all i (omega arith) hi)
      by (no l) = let e : i ≡ at = omega arith in rw e ((token_is_tchar (get_or xs at 0)).0 c)

  named : is_token (get_or xs at 0) ≡ true → ToColon r.spaces_after_name xs (end r xs at a q g) → NameToColon r.spaces_after_name xs (piece at (end r xs at a q g))
  named c k =
      let l : at + 1 ≤ (end r xs at a q g) = name_end.passed.from in
      let e : at + ((end r xs at a q g) - at) ≡ (end r xs at a q g) = omega (arith, l) in
      record { long = omega (arith, l); tokens = λ i lo hi. all_tokens c i lo (omega (arith, e, hi)); to_colon = subst (ToColon r.spaces_after_name xs) (sym e) k }

  by_colon : at < length xs → is_token (get_or xs at 0) ≡ true → (end r xs at a q g) < length xs → Dec (colon_at < length xs) → (t : Bool) → is_colon (get_or xs colon_at 0) ≡ t → NameToColon r.spaces_after_name xs a
  by_colon h c l (no u) t e = let w = colon_more r xs at h c name_end l gap_end_lem (omega arith) ∙ g in never cc
  by_colon h c l (yes u) false e = let w = colon_not r xs at h c name_end l gap_end_lem u e ∙ g in never cc
  by_colon h c l (yes u) true e =
      let w = colon_there r xs at h c name_end l gap_end_lem u e ∙ g in
      let same : piece at (end r xs at a q g) ≡ a = cc in
      subst (NameToColon r.spaces_after_name xs) same (named c (colon_found gap_end_lem u e))

  by_end : at < length xs → is_token (get_or xs at 0) ≡ true → Dec ((end r xs at a q g) < length xs) → NameToColon r.spaces_after_name xs a
  by_end h c (no l) = let w = name_more r xs at h c name_end (omega arith) ∙ g in never cc
  by_end h c (yes l) = by_colon h c l (dec_lt colon_at (length xs)) (is_colon (get_or xs colon_at 0)) refl

  by_first : Dec (at < length xs) → (t : Bool) → is_token (get_or xs at 0) ≡ t → NameToColon r.spaces_after_name xs a
  by_first (no h) t c = let w = name_none r xs at (omega arith) ∙ g in never cc
  by_first (yes h) false c = let w = name_not r xs at h c ∙ g in never cc
  by_first (yes h) true c = by_end h c (dec_lt (end r xs at a q g) (length xs))

  pub name_to_colon : NameToColon r.spaces_after_name xs a
  name_to_colon = by_first (dec_lt at (length xs)) (is_token (get_or xs at 0)) refl

-- what the code finds behind the blanks that it passes over
module _ (allowed : Bool) (xs : List ℕ) (end : ℕ) {q : ℕ} (s : Skipped (blanks_if allowed) xs end q) where
  pub input_ended : (x : Unread Fault) → IsPast xs q x → BehindName allowed xs end (Err x)
  input_ended More l = λ k lo hi. all_blanks s k lo (omega (arith, l.past))
  input_ended (Bad y) l = let w = l.more in never cc

  module _ {b : ℕ} (l : Is xs q b) where
    pub there_colon : b ≡ 58 → BehindName allowed xs end (Ok (q + 1))
    there_colon t = (colon_found s l.inside (rw (← l.there) (eq-eqb _ _ t)), refl)

    pub no_colon : (b ≡ 58 → ⊥) → (x : Unread Fault) → x ≡ refusal HeaderName q → BehindName allowed xs end (Err x)
    no_colon t x i = rw i (refl, s.passed.from, l.inside, all_blanks s, (λ e. t (l.there ∙ e)), λ e d. let u : blanks_if allowed (get_or xs q 0) ≡ true = rw e ((blank_is_blank (get_or xs q 0)).1 d) in clash u (s.stop l.inside))

-- what its `?` hands on is what it found
pub colon_stopped : (allowed : Bool) (xs : List ℕ) (end : ℕ) (m : Passed) (e : Unread Fault) → IsErrAnd m (λ d. d ≡ e) → BehindName allowed xs end (Err e) → BehindName allowed xs end m
colon_stopped allowed xs end (Ok q) e h b = absurd h
colon_stopped allowed xs end (Err d) e h b = rw h b

pub ruleset behind = (input_ended, there_colon, no_colon)

-- neither the colon nor a byte that is wrong is passed over
colon_stops : (allowed : Bool) → blanks_if allowed 0x3A ≡ false
colon_stops allowed = rw colon_no_blank (and-false allowed)

wrong_stops : {allowed : Bool} {b : ℕ} → (allowed ≡ true → IsBlank b → ⊥) → blanks_if allowed b ≡ false
wrong_stops {allowed} {b} f = by (blanks_if allowed b) refl
  where
    by : (t : Bool) → blanks_if allowed b ≡ t → blanks_if allowed b ≡ false
    by true e = let t = both_true allowed (is_blank b) e in absurd (f t.0 ((blank_is_blank b).0 t.1))
    by false e = e

-- and so what `name` reads
module _ (r : Rules) (xs : List ℕ) (at : ℕ) {e : ℕ} (h : at < length xs) (c : is_token (get_or xs at 0) ≡ true) (k : Skipped is_token xs (at + 1) e) (l : e < length xs) where
  only_blanks : {q : ℕ} → e ≤ q → q ≤ length xs → Blanks r.spaces_after_name xs e q → (q < length xs → before_colon r (get_or xs q 0) ≡ false) → Skipped (before_colon r) xs e q
  only_blanks {q} f i b s = record {
    passed = record { from = f; inside = λ _. i; past = λ p. absurd (omega (arith, p, l)); all = λ n lo hi. let t = b n lo hi in rw t.0 ((blank_is_blank (get_or xs n 0)).1 t.1) };
    stop = s;
  }

  name_is : (p : Passed) → BehindName r.spaces_after_name xs e p → ended (piece at e) (passed p) ≡ name r xs at
  name_is (Err More) b = colon_more r xs at h c k l (only_blanks (omega arith) (omega arith) b (λ p. absurd (omega arith))) (omega arith)
  name_is (Ok q) b =
      let w = b.0 in
      ap (got (piece at e)) b.1
      ∙ colon_there r xs at h c k l (only_blanks w.behind (omega (arith, w.inside)) w.between (λ _. rw w.there (colon_stops r.spaces_after_name))) w.inside (eq-eqb _ _ w.there)
  name_is (Err (Bad x)) b =
      let same : x ≡ fault HeaderName x.position = ap (λ y. fault y x.position) b.0 in
      ap bad same ∙ colon_not r xs at h c k l (only_blanks b.1 (omega (arith, b.2)) b.3 (λ _. wrong_stops b.5)) b.2 (ne_eqb _ _ b.4)

-- and so what `name` reads, of which the first byte is b
module _ (r : Rules) (xs : List ℕ) (at : ℕ) where
  pub name_missing : {x : Unread Fault} → IsPast xs at x → stopped x ≡ name r xs at
  name_missing h = rw h.more (name_none r xs at h.past)

  module _ {b : ℕ} (h : Is xs at b) where
    pub name_wrong : is_token b ≡ false → {x : Unread Fault} → x ≡ refusal HeaderName at → stopped x ≡ name r xs at
    name_wrong c i = rw i (name_not r xs at h.inside (rw (← h.there) c))

    module _ (c : is_token b ≡ true) {e : ℕ} (k : Skipped is_token xs (at + 1) e) where
      pub name_cut : length xs ≤ e → short tt ≡ name r xs at
      name_cut l = name_more r xs at h.inside (rw (← h.there) c) k l

      module _ (l : e < length xs) where
        pub name_ends : {q : ℕ} → BehindName r.spaces_after_name xs e (Ok q) → got (piece at e) q ≡ name r xs at
        name_ends {q} b = name_is r xs at h.inside (rw (← h.there) c) k l (Ok q) b

        pub name_stops : (x : Unread Fault) → BehindName r.spaces_after_name xs e (Err x) → stopped x ≡ name r xs at
        name_stops More b = name_is r xs at h.inside (rw (← h.there) c) k l (Err More) b
        name_stops (Bad y) b = name_is r xs at h.inside (rw (← h.there) c) k l (Err (Bad y)) b

pub ruleset names = (name_missing, name_wrong, name_cut, name_ends, name_stops, told_true, told_false)
