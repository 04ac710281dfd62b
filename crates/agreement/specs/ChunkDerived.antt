-- What the reader of a chunk size line accepts is such a line, and its size is the number that the digits write.
-- Assumes nothing.
use Rattle.std.specs.Prelude.{ℕ, ◌+◌, ◌*◌, ◌≤◌, ◌<◌, ◌≡◌, refl, List, [], ◌∷◌, ◌++◌, true, eqb, ltb, length}
use Rattle.std.proofs.Common.{arith, sym, ap, subst, ◌∙◌, append_assoc, append-nil, eqb-true, ltb-true}
use Rattle.std.proofs.lemmas.Bool.{eqb-false}
use Rattle.reader.specs.Machine.{Move, gave, after, run}
use Rattle.reader.specs.Tests.{split, never}
use Rattle.octets.specs.Grammar.{HEXDIG}
use Rattle.octets.specs.Grammar as bytes
use Rattle.octets.specs.Class.{is_hex_digit, is_blank}
use Rattle.octets.proofs.Ties.{hex_digit_is_HEXDIG, blank_is_blank}
use Rattle.rules.specs.Rules.{default}
use Rattle.grammar.specs.Rows.{Many, none, more}
use Rattle.grammar.specs.Message.{CRLF}
use Rattle.grammar.specs.Chunked.{semicolon, IsHexadecimal, IsChunkSize, IsChunkLine}
use Rattle.grammar.specs.Chunked as grammar
use Rattle.chunks.specs.Chunk.{worth, worth_digit, worth_capital, worth_small_letter, Chunk, digits, blanks, extension, cr, behind_step, chunk_step}
use Rattle.agreement.specs.Loose.{NoCR, Loose, blank_only, extended, loose_derived, blank_before}

-- both readings of a digit
pub worth_is : {b : ℕ} (d : HEXDIG b) → grammar.worth d ≡ worth b
worth_is {b} (bytes.digit h) = worth_digit b (omega (arith, h.high)) refl
worth_is {b} (bytes.capital h) = worth_capital b h.low (omega (arith, h.high)) refl
worth_is {b} (bytes.small h) = worth_small_letter b h.low refl

-- digits d behind others that write v, and the number n of all
data Onto : ℕ → List ℕ → ℕ → Type 0 where
  last : {v : ℕ} → Onto v [] v
  digit : {v b n : ℕ} {d : List ℕ} → HEXDIG b → Onto (v * 16 + worth b) d n → Onto v (b ∷ d) n

all_digits : {w d : List ℕ} {v n : ℕ} → IsHexadecimal w v → Onto v d n → IsHexadecimal (w ++ d) n
all_digits {w = w} {n = n} h last = subst (λ y. IsHexadecimal y n) (sym (append-nil w)) h
all_digits {w = w} {v = v} {n = n} h (digit {b = b} {d = d} x k) =
    subst (λ y. IsHexadecimal y n) (append_assoc w (b ∷ []) d)
    (all_digits {w = w ++ (b ∷ [])} (subst (λ y. IsHexadecimal (w ++ (b ∷ [])) (v * 16 + y)) (worth_is x) (grammar.IsHexadecimal.more h x)) k)

-- what stands in a run from each state on
record Ended (v : ℕ) (w : List ℕ) (p : ℕ) (xs : List ℕ) (n q : ℕ) : Type 0 where
  rest : List ℕ
  whole : xs ≡ w ++ rest
  size : n ≡ v
  place : q ≡ p + length w

sound_cr : (v p : ℕ) (xs : List ℕ) (n q : ℕ) → run (chunk_step default) (cr v) p xs ≡ gave n q → Ended v (0x0A ∷ []) p xs n q
sound_cr v p [] n q = λ e. never cc
sound_cr v p (b ∷ bs) n q =
    split (λ u. after u p (λ s. run (chunk_step default) s (p + 1) bs) ≡ gave n q → Ended v (0x0A ∷ []) p (b ∷ bs) n q) (eqb b 10)
    (λ t e. let i : v ≡ n = cc in let j : p + 1 ≡ q = cc in record { rest = bs; whole = ap (λ y. y ∷ bs) (eqb-true b 10 t); size = sym i; place = sym j })
    (λ t e. never cc)

behind_cr : {v p b : ℕ} {bs : List ℕ} {n q : ℕ} → eqb b 13 ≡ true → Ended v (0x0A ∷ []) (p + 1) bs n q → Ended v CRLF p (b ∷ bs) n q
behind_cr {b = b} {bs = bs} t E = record { rest = E.rest; whole = ap (λ y. y ∷ bs) (eqb-true b 13 t) ∙ ap (λ y. 0x0D ∷ y) E.whole; size = E.size; place = omega (arith, E.place) }

record Extended (v p : ℕ) (xs : List ℕ) (n q : ℕ) : Type 0 where
  w : List ℕ
  kind : Many NoCR w
  ends : Ended v (w ++ CRLF) p xs n q

one_before : {v p b : ℕ} {w bs : List ℕ} {n q : ℕ} → Ended v w (p + 1) bs n q → Ended v (b ∷ w) p (b ∷ bs) n q
one_before {b = b} E = record { rest = E.rest; whole = ap (λ y. b ∷ y) E.whole; size = E.size; place = omega (arith, E.place) }

sound_extension : (v : ℕ) (xs : List ℕ) (p n q : ℕ) → run (chunk_step default) (extension v) p xs ≡ gave n q → Extended v p xs n q
sound_extension v [] p n q = λ e. never cc
sound_extension v (b ∷ bs) p n q =
    let ih = sound_extension v bs (p + 1) n q in
    split (λ u. after u p (λ s. run (chunk_step default) s (p + 1) bs) ≡ gave n q → Extended v p (b ∷ bs) n q) (eqb b 13)
    (λ t e. record { w = []; kind = none; ends = behind_cr t (sound_cr v (p + 1) bs n q e) })
    (λ t e. let k = ih e in record { w = b ∷ k.w; kind = more (eqb-false b 13 t) k.kind; ends = one_before k.ends })

record Behind (v p : ℕ) (xs : List ℕ) (n q : ℕ) : Type 0 where
  x : List ℕ
  kind : Loose x
  ends : Ended v (x ++ CRLF) p xs n q

semicolon_before : {v p b : ℕ} {bs : List ℕ} {n q : ℕ} → eqb b 59 ≡ true → Extended v (p + 1) bs n q → Behind v p (b ∷ bs) n q
semicolon_before {v} {p} {b} {bs} {n} {q} t E =
    record { x = semicolon ++ E.w; kind = extended none E.kind; ends = subst (λ y. Ended v ((y ∷ E.w) ++ CRLF) p (b ∷ bs) n q) (eqb-true b 59 t) (one_before E.ends) }

-- one step behind the digits, whatever the rest does
behind_step_lem : (v b : ℕ) (bs : List ℕ) (p n q : ℕ) → (run (chunk_step default) (blanks v) (p + 1) bs ≡ gave n q → Behind v (p + 1) bs n q) → after (behind_step v p b) p (λ s. run (chunk_step default) s (p + 1) bs) ≡ gave n q → Behind v p (b ∷ bs) n q
behind_step_lem v b bs p n q ih =
    let G : Move Chunk ℕ ℕ → Type 0 = λ u. after u p (λ s. run (chunk_step default) s (p + 1) bs) ≡ gave n q → Behind v p (b ∷ bs) n q in
    split G (is_blank b) (λ t e. let k = ih e in record { x = b ∷ k.x; kind = blank_before ((blank_is_blank b).0 t) k.kind; ends = one_before k.ends })
    (λ _. split G (eqb b 59) (λ t e. semicolon_before t (sound_extension v bs (p + 1) n q e))
    (λ _. split G (eqb b 13) (λ t e. record { x = []; kind = blank_only none; ends = behind_cr t (sound_cr v (p + 1) bs n q e) })
    (λ t e. never cc)))

sound_blanks : (v : ℕ) (xs : List ℕ) (p n q : ℕ) → run (chunk_step default) (blanks v) p xs ≡ gave n q → Behind v p xs n q
sound_blanks v [] p n q = λ e. never cc
sound_blanks v (b ∷ bs) p n q = behind_step_lem v b bs p n q (sound_blanks v bs (p + 1) n q)

-- k digits have been read, and d more stand here
record Counted (k v p : ℕ) (xs : List ℕ) (n q : ℕ) : Type 0 where
  d : List ℕ
  x : List ℕ
  digits : Onto v d n
  most : k + length d ≤ 16
  kind : Loose x
  rest : List ℕ
  whole : xs ≡ d ++ (x ++ CRLF) ++ rest
  place : q ≡ p + length (d ++ (x ++ CRLF))

digit_before : {k v p b : ℕ} {bs : List ℕ} {n q : ℕ} → is_hex_digit b ≡ true → Counted (k + 1) (v * 16 + worth b) (p + 1) bs n q → Counted k v p (b ∷ bs) n q
digit_before {b = b} h C = record { d = b ∷ C.d; x = C.x; digits = digit ((hex_digit_is_HEXDIG b).0 h) C.digits; most = omega (arith, C.most); kind = C.kind; rest = C.rest; whole = ap (λ y. b ∷ y) C.whole; place = omega (arith, C.place) }

no_digits : {k v p : ℕ} {xs : List ℕ} {n q : ℕ} → k ≤ 16 → Behind v p xs n q → Counted k v p xs n q
no_digits {v = v} l B = record { d = []; x = B.x; digits = subst (λ y. Onto v [] y) (sym B.ends.size) last; most = omega (arith, l); kind = B.kind; rest = B.ends.rest; whole = B.ends.whole; place = B.ends.place }

sound_digits : (k v : ℕ) (xs : List ℕ) (p n q : ℕ) → k ≤ 16 → run (chunk_step default) (digits k v) p xs ≡ gave n q → Counted k v p xs n q
sound_digits k v [] p n q l = λ e. never cc
sound_digits k v (b ∷ bs) p n q l =
    let G : Move Chunk ℕ ℕ → Type 0 = λ u. after u p (λ s. run (chunk_step default) s (p + 1) bs) ≡ gave n q → Counted k v p (b ∷ bs) n q in
    let ih : k < 16 → run (chunk_step default) (digits (k + 1) (v * 16 + worth b)) (p + 1) bs ≡ gave n q → Counted (k + 1) (v * 16 + worth b) (p + 1) bs n q = λ m. sound_digits (k + 1) (v * 16 + worth b) bs (p + 1) n q (omega (arith, m)) in
    split G (is_hex_digit b)
    (λ h. split G (ltb k 16) (λ t e. digit_before h (ih (ltb-true k 16 t) e)) (λ t e. never cc))
    (λ h e. no_digits l (behind_step_lem v b bs p n q (sound_blanks v bs (p + 1) n q) e))

-- no digit at all is the named leniency
size_derived : {d : List ℕ} {n : ℕ} → IsHexadecimal d n → length d ≤ 16 → Onto 0 d n → IsChunkSize default d n
size_derived h l last = grammar.IsChunkSize.no_digit refl
size_derived h l (digit {d = d} x k) = grammar.IsChunkSize.digits h (omega arith) (λ _. l)

pub record LineAt (xs : List ℕ) (n q : ℕ) : Type 0 where
  pub w : List ℕ
  pub rest : List ℕ
  pub whole : xs ≡ w ++ rest
  pub place : q ≡ length w
  pub line : IsChunkLine default w n

pub chunk_derived : (xs : List ℕ) (n q : ℕ) → run (chunk_step default) (digits 0 0) 0 xs ≡ gave n q → LineAt xs n q
chunk_derived xs n q e =
    let C = sound_digits 0 0 xs 0 n q (omega arith) e in
    let same : C.d ++ (C.x ++ CRLF) ≡ C.d ++ C.x ++ CRLF = sym (append_assoc C.d C.x CRLF) in
    record {
      w = C.d ++ C.x ++ CRLF;
      rest = C.rest;
      whole = C.whole ∙ ap (λ y. y ++ C.rest) same;
      place = omega (arith, C.place, ap length same);
      line = grammar.IsChunkLine.line (size_derived (all_digits grammar.IsHexadecimal.none C.digits) (omega (arith, C.most)) C.digits) (loose_derived C.kind);
    }
