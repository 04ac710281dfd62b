-- Each rule of a chunk size line makes a difference: the byte string is one of its entry in docs/DIFFERENCES.md.
-- Assumes nothing.
use Rattle.std.specs.Prelude.{ℕ, ◌+◌, ◌*◌, ◌≤◌, ◌≡◌, refl, List, [], ◌∷◌, ◌++◌, true, false, eqb, length}
use Rattle.std.proofs.Common.{arith, sym, ap, ◌∙◌, append_assoc}
use Rattle.std.proofs.lemmas.Bool.{eqb-false}
use Rattle.reader.specs.Machine.{refused, run}
use Rattle.reader.specs.Tests.{clash, never}
use Rattle.octets.specs.Grammar.{HEXDIG, IsBlank, IsTchar}
use Rattle.octets.specs.Grammar as bytes
use Rattle.octets.specs.Class.{among, within, is_digit, is_hex_digit, is_blank, is_token}
use Rattle.octets.proofs.Ties.{in_range, blank_is_blank, hex_digit_is_HEXDIG, token_is_tchar}
use Rattle.octets.specs.Outside.{differs, cr_no_blank, semicolon_no_blank, cr_no_digit, semicolon_no_digit, space_no_digit, cr_no_token}
use Rattle.rules.specs.Rules.{Rules, default}
use Rattle.grammar.specs.Rows.{Many, none, more, Some, some}
use Rattle.grammar.specs.Message.{CRLF}
use Rattle.grammar.specs.Chunked.{IsHexadecimal, IsChunkSize, IsBehindSize, IsChunkLine}
use Rattle.grammar.specs.Chunked as chunked
use Rattle.chunks.specs.Chunk.{digits, chunk_step}
use Rattle.agreement.specs.ChunkRead.{chunk_read}
use Rattle.leniency.specs.Text.{ascii}
use Rattle.leniency.proofs.Strict.{hexadecimal_row, size_row}
use Rattle.leniency.specs.Real.{Real, Restricts, Chunk}
use Rattle.leniency.specs.Shapes.{same_head, same_tail}

-- what is behind a size: nothing; blanks, where they are allowed; or a semicolon behind blanks
data View (r : Rules) : List ℕ → Type 0 where
  nothing : View r []
  blanks : {w : List ℕ} → r.blank_behind_size ≡ true → Many IsBlank w → View r w
  semicolon : {o x : List ℕ} (w : List ℕ) → Many IsBlank o → x ≡ o ++ (59 ∷ w) → View r x

view : {r : Rules} {x : List ℕ} → IsBehindSize r x → View r x
view (chunked.IsBehindSize.extension chunked.IsChunkExt.none) = nothing
view (chunked.IsBehindSize.extension (chunked.IsChunkExt.name {a = a} {b = b} {n = n} {x = x} k l m y)) =
    let e : a ++ chunked.semicolon ++ b ++ n ++ x ≡ a ++ (59 ∷ (b ++ (n ++ x))) = simp append_assoc in
    semicolon (b ++ (n ++ x)) k e
view (chunked.IsBehindSize.extension (chunked.IsChunkExt.value {a = a} {b = b} {n = n} {c = c} {d = d} {v = v} {x = x} k l m i j u y)) =
    let w : List ℕ = b ++ (n ++ (c ++ (chunked.equals ++ (d ++ (v ++ x))))) in
    let e : a ++ chunked.semicolon ++ b ++ n ++ c ++ chunked.equals ++ d ++ v ++ x ≡ a ++ (59 ∷ w) = simp append_assoc in
    semicolon w k e
view (chunked.IsBehindSize.blanks t o) = blanks t o
view (chunked.IsBehindSize.any {o = o} {w = w} t h k) =
    let e : o ++ chunked.semicolon ++ w ≡ o ++ (59 ∷ w) = simp append_assoc in
    semicolon w h e

-- a digit is none of the bytes that may follow the size
begins : {r : Rules} {x : List ℕ} (b : ℕ) → is_blank b ≡ false → eqb 59 b ≡ false → eqb 13 b ≡ false → View r x → (zs ys : List ℕ) → x ++ (13 ∷ zs) ≡ b ∷ ys → ⊥
begins b f g h nothing zs ys e = eqb-false 13 b h (same_head e)
begins b f g h (blanks t none) zs ys e = eqb-false 13 b h (same_head e)
begins b f g h (blanks t (more {b = c} y l)) zs ys e = differs is_blank f ((blank_is_blank c).1 y) (same_head e)
begins b f g h (semicolon w none q) zs ys e = eqb-false 59 b g (same_head (ap (λ y. y ++ (13 ∷ zs)) (sym q) ∙ e))
begins b f g h (semicolon w (more {b = c} y l) q) zs ys e = differs is_blank f ((blank_is_blank c).1 y) (same_head (ap (λ y. y ++ (13 ∷ zs)) (sym q) ∙ e))

-- a line that starts with the digit 0 and another byte that is none: what is behind the size
behind_zero : {r : Rules} {s x : List ℕ} {n : ℕ} (b : ℕ) (ys : List ℕ) → is_hex_digit b ≡ false → IsChunkSize r s n → IsBehindSize r x → s ++ x ++ CRLF ≡ 48 ∷ b ∷ ys → x ++ CRLF ≡ b ∷ ys
unfolding is_blank among
behind_zero {r} {s} {x} b ys f k d e = by (size_row k) e
  where
    by : {s : List ℕ} → Many HEXDIG s → s ++ x ++ CRLF ≡ 48 ∷ b ∷ ys → x ++ CRLF ≡ b ∷ ys
    by none q = absurd (begins 48 refl refl refl (view d) (10 ∷ []) (b ∷ ys) q)
    by (more h none) q = same_tail q
    by (more h (more {b = c} g l)) q = absurd (differs is_hex_digit f ((hex_digit_is_HEXDIG c).1 g) (same_head (same_tail q)))

-- blank_behind_size
no_blanks : {r : Rules} {x : List ℕ} → r.blank_behind_size ≡ false → View r x → x ++ CRLF ≡ 32 ∷ 13 ∷ 10 ∷ [] → ⊥
no_blanks f nothing e = eqb-false 13 32 refl (same_head e)
no_blanks f (blanks t o) e = clash t f
no_blanks f (semicolon w none q) e = eqb-false 59 32 refl (same_head (ap (λ y. y ++ CRLF) (sym q) ∙ e))
no_blanks f (semicolon w (more y none) q) e = eqb-false 59 13 refl (same_head (same_tail (ap (λ y. y ++ CRLF) (sym q) ∙ e)))
no_blanks f (semicolon w (more y (more {b = c} z l)) q) e = differs is_blank cr_no_blank ((blank_is_blank c).1 z) (same_head (same_tail (ap (λ y. y ++ CRLF) (sym q) ∙ e)))

zero : {w : List ℕ} {n : ℕ} → IsHexadecimal w n → IsHexadecimal (w ++ (48 ∷ [])) (n * 16 + 0)
unfolding within
zero h = chunked.IsHexadecimal.more h (bytes.digit (in_range 0x30 0x39 0x30 refl))

one_zero_digit : {r : Rules} → IsChunkSize r (ascii "0") 0
one_zero_digit = chunked.IsChunkSize.digits (zero chunked.IsHexadecimal.none) (omega arith) (λ _. omega arith)

no_blank_line : {r : Rules} {w : List ℕ} {n : ℕ} → r.blank_behind_size ≡ false → IsChunkLine r w n → w ≡ ascii "0 \r\n" → ⊥
no_blank_line f (chunked.IsChunkLine.line k d) e = no_blanks f (view d) (behind_zero 32 (ascii "\r\n") space_no_digit k d e)

pub blank_behind_size_real : Real (λ r. r.blank_behind_size) (Chunk (ascii "0 \r\n"))
blank_behind_size_real = (
  λ r t. (0, chunked.IsChunkLine.line one_zero_digit (chunked.IsBehindSize.blanks t (more (bytes.IsBlank.space refl) none))),
  λ r f d. no_blank_line f d.1 refl,
)

-- any_extension
no_names : {b n : List ℕ} → Many IsBlank b → Some IsTchar n → (zs ys : List ℕ) → b ++ (n ++ zs) ≡ 13 ∷ ys → ⊥
no_names none (some {b = c} h k) zs ys e = differs is_token cr_no_token ((token_is_tchar c).1 h) (same_head e)
no_names (more {b = c} h l) k zs ys e = differs is_blank cr_no_blank ((blank_is_blank c).1 h) (same_head e)

no_extension : {r : Rules} {x : List ℕ} → r.any_extension ≡ false → IsBehindSize r x → x ++ CRLF ≡ 59 ∷ 13 ∷ 10 ∷ [] → ⊥
no_extension f (chunked.IsBehindSize.extension chunked.IsChunkExt.none) e = eqb-false 13 59 refl (same_head e)
no_extension f (chunked.IsBehindSize.extension (chunked.IsChunkExt.name {b = b} {n = n} {x = x} none k m y)) e = let q : b ++ n ++ x ++ CRLF ≡ 13 ∷ 10 ∷ [] = same_tail e in no_names k m (x ++ CRLF) (10 ∷ []) (simp append_assoc at q)
no_extension f (chunked.IsBehindSize.extension (chunked.IsChunkExt.name (more {b = c} y l) k m x)) e = differs is_blank semicolon_no_blank ((blank_is_blank c).1 y) (same_head e)
no_extension f (chunked.IsBehindSize.extension (chunked.IsChunkExt.value {b = b} {n = n} {c = c} {d = d} {v = v} {x = x} none k m i j u y)) e = let q : b ++ n ++ c ++ chunked.equals ++ d ++ v ++ x ++ CRLF ≡ 13 ∷ 10 ∷ [] = same_tail e in no_names k m (c ++ (chunked.equals ++ (d ++ (v ++ (x ++ CRLF))))) (10 ∷ []) (simp append_assoc at q)
no_extension f (chunked.IsBehindSize.extension (chunked.IsChunkExt.value (more {b = c} y l) k m i j v x)) e = differs is_blank semicolon_no_blank ((blank_is_blank c).1 y) (same_head e)
no_extension f (chunked.IsBehindSize.blanks t none) e = eqb-false 13 59 refl (same_head e)
no_extension f (chunked.IsBehindSize.blanks t (more {b = c} y l)) e = differs is_blank semicolon_no_blank ((blank_is_blank c).1 y) (same_head e)
no_extension f (chunked.IsBehindSize.any t o w) e = clash t f

no_extension_line : {r : Rules} {w : List ℕ} {n : ℕ} → r.any_extension ≡ false → IsChunkLine r w n → w ≡ ascii "0;\r\n" → ⊥
no_extension_line f (chunked.IsChunkLine.line k d) e = no_extension f d (behind_zero 59 (ascii "\r\n") semicolon_no_digit k d e)

pub any_extension_real : Real (λ r. r.any_extension) (Chunk (ascii "0;\r\n"))
any_extension_real = (λ r t. (0, chunked.IsChunkLine.line one_zero_digit (chunked.IsBehindSize.any t none none)), λ r f d. no_extension_line f d.1 refl)

-- no_digit
no_size : {r : Rules} {s : List ℕ} {n : ℕ} → r.no_digit ≡ false → IsChunkSize r s n → (zs ys : List ℕ) → s ++ zs ≡ 13 ∷ ys → ⊥
no_size f (chunked.IsChunkSize.digits h l g) zs ys e = by (hexadecimal_row h) l e
  where
    by : {s : List ℕ} → Many HEXDIG s → 1 ≤ length s → s ++ zs ≡ 13 ∷ ys → ⊥
    by none m q = omega (arith, m)
    by (more {b = c} x k) m q = differs is_hex_digit cr_no_digit ((hex_digit_is_HEXDIG c).1 x) (same_head q)
no_size f (chunked.IsChunkSize.no_digit t) zs ys e = clash t f

no_size_line : {r : Rules} {w : List ℕ} {n : ℕ} → r.no_digit ≡ false → IsChunkLine r w n → w ≡ ascii "\r\n" → ⊥
no_size_line f (chunked.IsChunkLine.line {s = s} {x = x} k d) e = no_size f k (x ++ CRLF) (10 ∷ []) (sym (append_assoc s x CRLF) ∙ e)

pub no_digit_real : Real (λ r. r.no_digit) (Chunk (ascii "\r\n"))
no_digit_real = (λ r t. (0, chunked.IsChunkLine.line (chunked.IsChunkSize.no_digit t) (chunked.IsBehindSize.extension chunked.IsChunkExt.none)), λ r f d. no_size_line f d.1 refl)

-- sixteen_digits: the default reading, which has every leniency on, refuses the seventeenth
in_default : {r : Rules} {w : List ℕ} {n : ℕ} → r.sixteen_digits ≡ true → IsChunkLine r w n → IsChunkLine default w n
in_default {r} t (chunked.IsChunkLine.line k d) = chunked.IsChunkLine.line (size k) (behind d)
  where
    size : {s : List ℕ} {n : ℕ} → IsChunkSize r s n → IsChunkSize default s n
    size (chunked.IsChunkSize.digits h l f) = chunked.IsChunkSize.digits h l (λ _. f t)
    size (chunked.IsChunkSize.no_digit u) = chunked.IsChunkSize.no_digit refl

    behind : {x : List ℕ} → IsBehindSize r x → IsBehindSize default x
    behind (chunked.IsBehindSize.extension x) = chunked.IsBehindSize.extension x
    behind (chunked.IsBehindSize.blanks u o) = chunked.IsBehindSize.blanks refl o
    behind (chunked.IsBehindSize.any u o w) = chunked.IsBehindSize.any refl o w

abbrev seventeen : List ℕ
seventeen = ascii "00000000000000000\r\n"

refuses : run (chunk_step default) (digits 0 0) 0 (seventeen ++ []) ≡ refused 16 16
unfolding is_hex_digit is_digit within
refuses = refl

pub sixteen_digits_real : Restricts (λ r. r.sixteen_digits) (Chunk seventeen)
sixteen_digits_real = (
  λ r f. (0, chunked.IsChunkLine.line (chunked.IsChunkSize.digits (zero (zero (zero (zero (zero (zero (zero (zero (zero (zero (zero (zero (zero (zero (zero (zero (zero chunked.IsHexadecimal.none))))))))))))))))) (omega arith) (λ t. absurd (clash t f))) (chunked.IsBehindSize.extension chunked.IsChunkExt.none)),
  λ r t d. let e = sym refuses ∙ chunk_read (in_default t d.1) [] in never cc,
)
