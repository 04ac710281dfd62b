-- What the lines of a block are by their first bytes, for proofs that a byte string is no block.
-- Assumes nothing.
use Rattle.std.specs.Prelude.{ℕ, ◌≤◌, ◌≡◌, refl, List, [], ◌∷◌, ◌++◌, Bool, true, false}
use Rattle.std.proofs.Common.{arith, sym, subst}
use Rattle.std.proofs.lemmas.Bool.{eqb-false}
use Rattle.octets.specs.Grammar.{IsTchar, IsBlank, IsText}
use Rattle.octets.specs.Grammar as bytes
use Rattle.octets.specs.Class.{among, within, is_digit, is_blank, is_token}
use Rattle.octets.proofs.Ties.{in_range, blank_is_blank, token_is_tchar}
use Rattle.octets.specs.Outside.{differs, cr_no_token, lf_no_token, space_no_token, cr_no_blank, lf_no_blank, colon_no_blank}
use Rattle.rules.specs.Rules.{Rules}
use Rattle.grammar.specs.Rows.{Many, none, more, Some, some}
use Rattle.grammar.specs.Fields.{Field}
use Rattle.grammar.specs.Message.{colon, IsLineEnd, crlf, lf, IsBehindName, IsWithinValue, IsFieldLine, IsIgnorable, NoColonNext, IsIgnoredLine, NoBlankLeft, NoFoldLeft, IsHeaderBlock}
use Rattle.grammar.specs.Message as grammar
use Rattle.leniency.specs.Shapes.{same_head, same_tail}

-- what can't be off is on
pub on_if : {t : Bool} → (t ≡ false → ⊥) → t ≡ true
on_if {t = true} f = refl
on_if {t = false} f = absurd (f refl)

-- a block that no blanks stand before
pub data Bare (r : Rules) (first : Bool) : List ℕ → List Field → Type 0 where
  end : {e : List ℕ} → IsLineEnd r e → Bare r first e []
  field : {w e b : List ℕ} {f : Field} {fs : List Field} → IsFieldLine r w f → IsLineEnd r e → NoFoldLeft r b → IsHeaderBlock r false b fs → Bare r first (w ++ e ++ b) (f ∷ fs)
  ignored : {w b : List ℕ} {fs : List Field} → r.ignore_invalid_headers ≡ true → IsIgnoredLine r w → NoBlankLeft r first w → IsHeaderBlock r first b fs → Bare r first (w ++ b) fs

-- where its first byte is none
pub bare : {r : Rules} {first : Bool} {w : List ℕ} {fs : List Field} → IsHeaderBlock r first w fs → (b : ℕ) (ys : List ℕ) → w ≡ b ∷ ys → (r.space_before_first_name ≡ true → IsBlank b → ⊥) → Bare r first w fs
bare (grammar.IsHeaderBlock.end grammar.IsBeforeFirstName.nothing d) b ys e no_blank = end d
bare (grammar.IsHeaderBlock.field grammar.IsBeforeFirstName.nothing f d o k) b ys e no_blank = field f d o k
bare (grammar.IsHeaderBlock.ignored t grammar.IsBeforeFirstName.nothing l o k) b ys e no_blank = ignored t l o k
bare (grammar.IsHeaderBlock.end (grammar.IsBeforeFirstName.blanks t (some h j)) d) b ys e no_blank = absurd (no_blank t (subst IsBlank (same_head e) h))
bare (grammar.IsHeaderBlock.field (grammar.IsBeforeFirstName.blanks t (some h j)) f d o k) b ys e no_blank = absurd (no_blank t (subst IsBlank (same_head e) h))
bare (grammar.IsHeaderBlock.ignored i (grammar.IsBeforeFirstName.blanks t (some h j)) l o k) b ys e no_blank = absurd (no_blank t (subst IsBlank (same_head e) h))

-- bytes that may be passed over: each of a name, and each above the three that may not
nul_no_token : is_token 0x00 ≡ false
unfolding is_token is_digit within among
nul_no_token = refl

token_ignorable : {b : ℕ} → IsTchar b → IsIgnorable b
token_ignorable {b} h =
    let t = (token_is_tchar b).1 h in
    record { no_nul = λ e. differs is_token nul_no_token t e; no_cr = λ e. differs is_token cr_no_token t e; no_lf = λ e. differs is_token lf_no_token t e }

pub above_ignorable : (b : ℕ) → 0x0E ≤ b → IsIgnorable b
above_ignorable b h = record { no_nul = λ e. omega (arith, h, e); no_cr = λ e. omega (arith, h, e); no_lf = λ e. omega (arith, h, e) }

-- a line that is passed over begins with no line's end
ignored_first : {r : Rules} {w : List ℕ} → IsIgnoredLine r w → (zs : List ℕ) (b : ℕ) (ys : List ℕ) → w ++ zs ≡ b ∷ ys → IsIgnorable b
ignored_first (grammar.IsIgnoredLine.no_name x i u d) zs b ys e = subst IsIgnorable (same_head e) i
ignored_first (grammar.IsIgnoredLine.no_colon (some h k) a x u d) zs b ys e = subst IsIgnorable (same_head e) (token_ignorable h)
ignored_first (grammar.IsIgnoredLine.no_value (some h k) a m x i u d) zs b ys e = subst IsIgnorable (same_head e) (token_ignorable h)

-- what is behind a line's end, and that this is never passed over
pub behind_end : {r : Rules} {c : List ℕ} → IsLineEnd r c → (zs ys : List ℕ) → c ++ zs ≡ 13 ∷ 10 ∷ ys → zs ≡ ys
behind_end crlf zs ys e = same_tail (same_tail e)
behind_end (lf t) zs ys e = absurd (eqb-false 10 13 refl (same_head e))

end_ignored : {r : Rules} {c : List ℕ} {b : ℕ} → IsLineEnd r c → IsIgnorable b → (zs ys : List ℕ) → c ++ zs ≡ b ∷ ys → ⊥
end_ignored crlf i zs ys e = i.no_cr (sym (same_head e))
end_ignored (lf t) i zs ys e = i.no_lf (sym (same_head e))

-- so a line that is passed over ends where it stands
pub passed : {r : Rules} {u x c : List ℕ} → Many IsIgnorable u → Many IsIgnorable x → IsLineEnd r c → (zs ys : List ℕ) → u ++ (c ++ zs) ≡ x ++ (13 ∷ 10 ∷ ys) → zs ≡ ys
passed none none d zs ys e = behind_end d zs ys e
passed none (more {w = w} i l) d zs ys e = absurd (end_ignored d i zs (w ++ (13 ∷ 10 ∷ ys)) e)
passed (more i k) none d zs ys e = absurd (i.no_cr (same_head e))
passed (more i k) (more j l) d zs ys e = passed k l d zs ys (same_tail e)

-- what begins with a byte that is never passed over is a line's end
pub only_end : {r : Rules} {first : Bool} {w : List ℕ} {fs : List Field} → Bare r first w fs → (c : ℕ) (ys : List ℕ) → w ≡ c ∷ ys → (IsIgnorable c → ⊥) → IsLineEnd r w × (fs ≡ [])
only_end (end d) c ys e never_passed = (d, refl)
only_end (field (grammar.IsFieldLine.line (some h k) s o v t) d i j) c ys e never_passed = absurd (never_passed (subst IsIgnorable (same_head e) (token_ignorable h)))
only_end (ignored {b = b} t l o k) c ys e never_passed = absurd (never_passed (ignored_first l b c ys e))

pub at_cr : {r : Rules} {first : Bool} {w : List ℕ} {fs : List Field} (ys : List ℕ) → IsHeaderBlock r first w fs → w ≡ 13 ∷ ys → IsLineEnd r w × (fs ≡ [])
at_cr ys k e = only_end (bare k 13 ys e (λ t h. differs is_blank cr_no_blank ((blank_is_blank 13).1 h) refl)) 13 ys e (λ i. i.no_cr refl)

pub at_lf : {r : Rules} {first : Bool} {w : List ℕ} {fs : List Field} (ys : List ℕ) → IsHeaderBlock r first w fs → w ≡ 10 ∷ ys → IsLineEnd r w × (fs ≡ [])
at_lf ys k e = only_end (bare k 10 ys e (λ t h. differs is_blank lf_no_blank ((blank_is_blank 10).1 h) refl)) 10 ys e (λ i. i.no_lf refl)

-- where blanks may stand before the first field none is of a line
no_space_line : {r : Rules} {w : List ℕ} {fs : List Field} (ys : List ℕ) → r.space_before_first_name ≡ true → Bare r true w fs → w ≡ 32 ∷ ys → ⊥
no_space_line ys on (end crlf) e = eqb-false 13 32 refl (same_head e)
no_space_line ys on (end (lf t)) e = eqb-false 10 32 refl (same_head e)
no_space_line ys on (field (grammar.IsFieldLine.line (some {b = b} h k) s o v t) d i j) e = differs is_token space_no_token ((token_is_tchar b).1 h) (same_head e)
no_space_line ys on (ignored t (grammar.IsIgnoredLine.no_name {c = c} {u = u} {e = d} x i k j) o l) e = o on refl c (u ++ d) refl (bytes.IsBlank.space (same_head e))
no_space_line ys on (ignored t (grammar.IsIgnoredLine.no_colon (some {b = b} h k) s x u d) o l) e = differs is_token space_no_token ((token_is_tchar b).1 h) (same_head e)
no_space_line ys on (ignored t (grammar.IsIgnoredLine.no_value (some {b = b} h k) s m x i u d) o l) e = differs is_token space_no_token ((token_is_tchar b).1 h) (same_head e)

behind_blanks : {s : List ℕ} → Some IsBlank s → (zs : List ℕ) (b c : ℕ) (ys : List ℕ) → s ++ zs ≡ b ∷ c ∷ ys → (IsBlank c → ⊥) → zs ≡ c ∷ ys
behind_blanks (some h none) zs b c ys e solid = same_tail e
behind_blanks (some h (more i k)) zs b c ys e solid = absurd (solid (subst IsBlank (same_head (same_tail e)) i))

-- and a space alone stands before what is behind it
pub behind_a_space : {r : Rules} {b : List ℕ} {fs : List Field} (c : ℕ) (ys : List ℕ) → r.space_before_first_name ≡ true → (IsBlank c → ⊥) → IsHeaderBlock r true b fs → b ≡ 32 ∷ c ∷ ys → (w : List ℕ) × Bare r true w fs × (w ≡ c ∷ ys)
behind_a_space c ys on solid (grammar.IsHeaderBlock.end grammar.IsBeforeFirstName.nothing d) e = absurd (no_space_line (c ∷ ys) on (end d) e)
behind_a_space c ys on solid (grammar.IsHeaderBlock.field grammar.IsBeforeFirstName.nothing f d o k) e = absurd (no_space_line (c ∷ ys) on (field f d o k) e)
behind_a_space c ys on solid (grammar.IsHeaderBlock.ignored t grammar.IsBeforeFirstName.nothing l o k) e = absurd (no_space_line (c ∷ ys) on (ignored t l o k) e)
behind_a_space c ys on solid (grammar.IsHeaderBlock.end {e = z} (grammar.IsBeforeFirstName.blanks t h) d) e = (z, end d, behind_blanks h z 32 c ys e solid)
behind_a_space c ys on solid (grammar.IsHeaderBlock.field {w = w} {e = z} {b = b} (grammar.IsBeforeFirstName.blanks t h) f d o k) e = (w ++ z ++ b, field f d o k, behind_blanks h (w ++ z ++ b) 32 c ys e solid)
behind_a_space c ys on solid (grammar.IsHeaderBlock.ignored {w = w} {b = b} i (grammar.IsBeforeFirstName.blanks t h) l o k) e = (w ++ b, ignored i l o k, behind_blanks h (w ++ b) 32 c ys e solid)

-- a block that begins with the letter A
pub A_no_blank : is_blank 65 ≡ false
unfolding is_blank among
A_no_blank = refl

A_token : IsTchar 65
unfolding within
A_token = bytes.letter (bytes.ALPHA.capital (in_range 0x41 0x5A 0x41 refl))

pub at_letter : {r : Rules} {first : Bool} {w : List ℕ} {fs : List Field} (ys : List ℕ) → IsHeaderBlock r first w fs → w ≡ 65 ∷ ys → Bare r first w fs
at_letter ys k e = bare k 65 ys e (λ t h. differs is_blank A_no_blank ((blank_is_blank 65).1 h) refl)

-- what is behind the name of a line that is passed over
pub data BehindLetter (r : Rules) : List ℕ → Type 0 where
  no_colon : {s u e : List ℕ} → IsBehindName r s → NoColonNext r s u → Many IsIgnorable u → IsLineEnd r e → BehindLetter r (s ++ (u ++ e))
  no_value : {s m u e : List ℕ} {c : ℕ} → IsBehindName r s → IsWithinValue r m → (IsText c → ⊥) → IsIgnorable c → Many IsIgnorable u → IsLineEnd r e → BehindLetter r (s ++ colon ++ m ++ ((c ∷ u) ++ e))

-- where that is the letter A, and no byte of a name follows it
pub behind_letter : {r : Rules} {w : List ℕ} → IsIgnoredLine r w → (b : ℕ) → is_token b ≡ false → (zs ys : List ℕ) → w ++ zs ≡ 65 ∷ b ∷ ys → (v : List ℕ) × BehindLetter r v × (v ++ zs ≡ b ∷ ys)
behind_letter (grammar.IsIgnoredLine.no_name x i k d) b f zs ys e = absurd (x (subst IsTchar (sym (same_head e)) A_token))
behind_letter (grammar.IsIgnoredLine.no_colon {s = s} {u = u} {e = c} (some h none) a x k d) b f zs ys e = (s ++ (u ++ c), no_colon a x k d, same_tail e)
behind_letter (grammar.IsIgnoredLine.no_colon (some h (more {b = c} i j)) a x k d) b f zs ys e = absurd (differs is_token f ((token_is_tchar c).1 i) (same_head (same_tail e)))
behind_letter (grammar.IsIgnoredLine.no_value {s = s} {m = m} {u = u} {e = a} {c = c} (some h none) y j x i k d) b f zs ys e = (s ++ colon ++ m ++ ((c ∷ u) ++ a), no_value y j x i k d, same_tail e)
behind_letter (grammar.IsIgnoredLine.no_value (some h (more {b = c} l j)) y m x i k d) b f zs ys e = absurd (differs is_token f ((token_is_tchar c).1 l) (same_head (same_tail e)))

-- what is behind its colon, where there is one: a byte that can't stand in a value
pub data BehindColon (r : Rules) : List ℕ → Type 0 where
  spoilt : {m u e : List ℕ} {c : ℕ} → IsWithinValue r m → (IsText c → ⊥) → IsIgnorable c → Many IsIgnorable u → IsLineEnd r e → BehindColon r (m ++ ((c ∷ u) ++ e))

pub behind_colon : {r : Rules} {v : List ℕ} → BehindLetter r v → (zs ys : List ℕ) → v ++ zs ≡ 58 ∷ ys → (w : List ℕ) × BehindColon r w × (w ++ zs ≡ ys)
behind_colon (no_colon grammar.IsBehindName.nothing x none d) zs ys e = absurd (end_ignored d (above_ignorable 58 (omega arith)) zs ys e)
behind_colon (no_colon grammar.IsBehindName.nothing x (more {b = b} {w = w} i k) d) zs ys e = absurd ((x b w refl).0 (same_head e))
behind_colon (no_colon (grammar.IsBehindName.blanks y (some {b = b} h j)) x k d) zs ys e = absurd (differs is_blank colon_no_blank ((blank_is_blank b).1 h) (same_head e))
behind_colon (no_value {m = m} {u = u} {e = a} {c = c} grammar.IsBehindName.nothing j x i k d) zs ys e = (m ++ ((c ∷ u) ++ a), spoilt j x i k d, same_tail e)
behind_colon (no_value (grammar.IsBehindName.blanks y (some {b = b} h j)) m x i k d) zs ys e = absurd (differs is_blank colon_no_blank ((blank_is_blank b).1 h) (same_head e))
