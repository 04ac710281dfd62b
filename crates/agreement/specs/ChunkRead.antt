-- Every chunk size line is accepted by its reader, whatever follows it, with the number that its digits write.
-- Assumes nothing.
use Rattle.std.specs.Prelude.{ℕ, ◌+◌, ◌*◌, ◌≤◌, ◌≡◌, refl, List, [], ◌∷◌, ◌++◌, false, length}
use Rattle.std.proofs.Common.{arith, sym, ap, ◌∙◌, append_assoc, length-append, ne_eqb, lt-ltb}
use Rattle.reader.specs.Machine.{Run, gave, run}
use Rattle.octets.specs.Grammar.{IsBlank}
use Rattle.octets.specs.Grammar as bytes
use Rattle.octets.specs.Class.{within, is_digit, is_hex_digit}
use Rattle.octets.proofs.Ties.{hex_digit_is_HEXDIG, blank_is_blank}
use Rattle.octets.specs.Outside.{cr_no_blank, semicolon_no_blank, cr_no_digit, semicolon_no_digit}
use Rattle.rules.specs.Rules.{default}
use Rattle.grammar.specs.Rows.{Many, none, more}
use Rattle.grammar.specs.Fields.{OWS}
use Rattle.grammar.specs.Message.{CRLF}
use Rattle.grammar.specs.Chunked.{semicolon, IsHexadecimal, IsChunkSize, IsChunkLine}
use Rattle.grammar.specs.Chunked as grammar
use Rattle.chunks.specs.Chunk.{worth, Chunk, digits, blanks, extension, chunk_step}
use Rattle.leaves.specs.Rows.{over}
use Rattle.agreement.specs.Loose.{NoCR, Loose, blank_only, extended, loose_read}
use Rattle.agreement.specs.ChunkDerived.{worth_is}

-- what each kind of byte does to the machine
abbrev pub from : Chunk → ℕ → List ℕ → Run Chunk ℕ ℕ
from s p xs = run (chunk_step default) s p xs

over_digits : {w : List ℕ} {n : ℕ} → IsHexadecimal w n → (p : ℕ) (ys : List ℕ) → length w ≤ 16 → from (digits 0 0) p (w ++ ys) ≡ from (digits (length w) n) (p + length w) ys
over_digits grammar.IsHexadecimal.none p ys l = let q : p ≡ p + 0 = omega arith in ap (λ y. from (digits 0 0) y ys) q
over_digits (grammar.IsHexadecimal.more {w = w} {n = n} {b = b} h d) p ys l =
    let m : length (w ++ (b ∷ [])) ≡ length w + 1 = length-append w (b ∷ []) in
    let q : p + length w + 1 ≡ p + length (w ++ (b ∷ [])) = omega (arith, m) in
    ap (from (digits 0 0) p) (append_assoc w (b ∷ []) ys)
    ∙ over_digits h p (b ∷ ys) (omega (arith, m, l))
    ∙ rw ((hex_digit_is_HEXDIG b).1 d, lt-ltb (length w) 16 (omega (arith, m, l)))
    (ap (λ y. from (digits y (n * 16 + worth b)) (p + length w + 1) ys) (sym m) ∙ ap (λ y. from (digits (length (w ++ (b ∷ []))) (n * 16 + y)) (p + length w + 1) ys) (sym (worth_is d)) ∙ ap (λ y. from (digits (length (w ++ (b ∷ []))) (n * 16 + grammar.worth d)) y ys) q)

over_blanks : {o : List ℕ} → OWS o → (v p : ℕ) (ys : List ℕ) → from (blanks v) p (o ++ ys) ≡ from (blanks v) (p + length o) ys
over_blanks k v = over (chunk_step default) (blanks v) (λ b h q. rw ((blank_is_blank b).1 h)) k

over_extension : {w : List ℕ} → Many NoCR w → (v p : ℕ) (ys : List ℕ) → from (extension v) p (w ++ ys) ≡ from (extension v) (p + length w) ys
over_extension k v = over (chunk_step default) (extension v) (λ b h q. rw (ne_eqb b 13 h)) k

ends_blanks : (v p : ℕ) (rest : List ℕ) → from (blanks v) p (CRLF ++ rest) ≡ gave v (p + 2)
ends_blanks v p rest = let q : p + 1 + 1 ≡ p + 2 = omega arith in rw (cr_no_blank, q)

ends_extension : (v p : ℕ) (rest : List ℕ) → from (extension v) p (CRLF ++ rest) ≡ gave v (p + 2)
ends_extension v p rest = let q : p + 1 + 1 ≡ p + 2 = omega arith in rw q

loose_ends : {x : List ℕ} → Loose x → (v p : ℕ) (rest : List ℕ) → from (blanks v) p (x ++ (CRLF ++ rest)) ≡ gave v (p + length x + 2)
loose_ends (blank_only {o = o} k) v p rest = over_blanks k v p (CRLF ++ rest) ∙ ends_blanks v (p + length o) rest
loose_ends (extended {o = o} {w = w} k e) v p rest =
    let q : p + length o + 1 + length w + 2 ≡ p + length (o ++ semicolon ++ w) + 2 = omega (arith, length-append (o ++ semicolon) w, length-append o semicolon) in
    ap (from (blanks v) p) (append_assoc (o ++ semicolon) w (CRLF ++ rest) ∙ append_assoc o semicolon (w ++ (CRLF ++ rest)))
    ∙ over_blanks k v p (semicolon ++ (w ++ (CRLF ++ rest)))
    ∙ rw semicolon_no_blank (over_extension e v (p + length o + 1) (CRLF ++ rest) ∙ ends_extension v (p + length o + 1 + length w) rest ∙ ap (gave v) q)

-- a byte that is no digit is read as behind the digits
digits_out : (k v p b : ℕ) (bs : List ℕ) → is_hex_digit b ≡ false → from (digits k v) p (b ∷ bs) ≡ from (blanks v) p (b ∷ bs)
digits_out k v p b bs h = rw h

blank_no_digit : {b : ℕ} → IsBlank b → is_hex_digit b ≡ false
unfolding is_hex_digit is_digit within
blank_no_digit (bytes.IsBlank.space h) = rw h
blank_no_digit (bytes.IsBlank.tab h) = rw h

out : {x : List ℕ} → Loose x → (k v p : ℕ) (rest : List ℕ) → from (digits k v) p (x ++ (CRLF ++ rest)) ≡ from (blanks v) p (x ++ (CRLF ++ rest))
out (blank_only none) k v p rest = digits_out k v p 13 (10 ∷ rest) cr_no_digit
out (blank_only (more {b = b} {w = o} h l)) k v p rest = digits_out k v p b (o ++ (CRLF ++ rest)) (blank_no_digit h)
out (extended {w = w} none e) k v p rest = digits_out k v p 59 (w ++ (CRLF ++ rest)) semicolon_no_digit
out (extended {w = w} (more {b = b} {w = o} h l) e) k v p rest = digits_out k v p b (o ++ semicolon ++ w ++ (CRLF ++ rest)) (blank_no_digit h)

-- a size, and the digits that it is read from
size_read : {s : List ℕ} {n : ℕ} → IsChunkSize default s n → IsHexadecimal s n × (length s ≤ 16)
size_read (grammar.IsChunkSize.digits h l f) = (h, f refl)
size_read (grammar.IsChunkSize.no_digit t) = (grammar.IsHexadecimal.none, omega arith)

pub chunk_read : {w : List ℕ} {n : ℕ} → IsChunkLine default w n → (rest : List ℕ) → from (digits 0 0) 0 (w ++ rest) ≡ gave n (length w)
chunk_read (grammar.IsChunkLine.line {s = s} {x = x} {n = n} size behind) rest =
    let S = size_read size in
    let B = loose_read behind in
    let q : 0 + length s + length x + 2 ≡ length (s ++ x ++ CRLF) = omega (arith, length-append (s ++ x) CRLF, length-append s x) in
    ap (from (digits 0 0) 0) (append_assoc (s ++ x) CRLF rest ∙ append_assoc s x (CRLF ++ rest))
    ∙ over_digits S.0 0 (x ++ (CRLF ++ rest)) S.1
    ∙ out B (length s) n (0 + length s) rest ∙ loose_ends B n (0 + length s) rest ∙ ap (gave n) q
