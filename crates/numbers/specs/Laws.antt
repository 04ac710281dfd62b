-- The bits of the settings, and one law for each way that a part is told.
-- Assumes nothing.
use Rattle.std.specs.Prelude.{ℕ, ◌+◌, ◌/◌, ◌%◌, ◌^◌, ◌≡◌, List, [], ◌∷◌, cond, eqb, nat_eq, not, None, Option}
use Rattle.std.specs.Int.Bits.{bit_and}
use Rattle.std.proofs.Common.{arith, tests, sym, ap, ◌∙◌, eq-eqb, ne_eqb}
use Rattle.std.proofs.lemmas.Nat.{pow_pos}
use Rattle.std.proofs.lemmas.Nat.Bits.{and_pow, bit_at_lowest}
use Rattle.parts.specs.declared.Piece.{Piece}
use Rattle.startline.specs.Answers.{number_of}
use Rattle.requestline.specs.declared.RequestLine.{RequestLine}
use Rattle.statusline.specs.declared.StatusLine.{StatusLine}
use Rattle.heads.specs.declared.Head.{Head}
use Rattle.numbers.specs.Numbers.{settings_of, position_of, piece_of, bit_of, placed, request_numbers, response_numbers}

module _ (bits : ℕ) where
  -- a bit as the code tests it
  asked : (k : ℕ) → not (nat_eq (bit_and bits (2 ^ k)) 0) ≡ eqb ((bits / 2 ^ k) % 2) 1
  asked k = grind (arith, tests, and_pow bits k, pow_pos k)

  asked_lowest : not (nat_eq (bit_and bits 1) 0) ≡ eqb (bits % 2) 1
  asked_lowest = grind (arith, asked 0, bit_at_lowest bits)

  -- and so are all of them
  pub all_asked : record {
    ascii_targets = not (nat_eq (bit_and bits 128) 0);
    spaces_in_request_line = not (nat_eq (bit_and bits 4) 0);
    spaces_in_status_line = not (nat_eq (bit_and bits 8) 0);
    space_before_first_name = not (nat_eq (bit_and bits 16) 0);
    spaces_after_name = not (nat_eq (bit_and bits 1) 0);
    multiline_headers = not (nat_eq (bit_and bits 2) 0);
    ignore_invalid_headers_in_requests = not (nat_eq (bit_and bits 64) 0);
    ignore_invalid_headers_in_responses = not (nat_eq (bit_and bits 32) 0);
  } ≡ settings_of bits
  all_asked = cc (asked 7, asked 2, asked 3, asked 4, asked_lowest, asked 1, asked 6, asked 5)

-- what is not known, or is empty, has no place
pub unknown_piece : {k : Option Piece} → k ≡ None → record { offset = 0; length = 0 } ≡ piece_of k
unknown_piece h = sym (ap piece_of h)

pub empty_piece : (p : Piece) → p.length ≡ 0 → record { offset = 0; length = 0 } ≡ placed p
empty_piece p h = sym (ap (λ t. cond t (record { offset = 0; length = 0 }) p) (eq-eqb p.length 0 h))

pub long_piece : (p : Piece) → (p.length ≡ 0 → ⊥) → p ≡ placed p
long_piece p h = sym (ap (λ t. cond t (record { offset = 0; length = 0 }) p) (ne_eqb p.length 0 h))

-- the numbers of a head, each from the function that makes it
module _ (head : Head RequestLine) {p k l m n : ℕ} {f g : Piece} {out : List ℕ} where
  pub request_numbers_lem : out ≡ p ∷ head.count ∷ (k + l + m) ∷ f.offset ∷ f.length ∷ g.offset ∷ g.length ∷ n ∷ [] → p ≡ position_of head.end → k ≡ bit_of head.line.method 1 → l ≡ bit_of head.line.target 2 → m ≡ bit_of head.line.version 4 → f ≡ piece_of head.line.method →
      g ≡ piece_of head.line.target → n ≡ number_of head.line.version → out ≡ request_numbers head
  request_numbers_lem o a b c d e h i = o ∙ rw (a, b, c, d, e, h, i)

module _ (head : Head StatusLine) {p k l m n c : ℕ} {f g : Piece} {out : List ℕ} where
  pub response_numbers_lem : out ≡ p ∷ head.count ∷ (k + l + m) ∷ n ∷ c ∷ g.offset ∷ g.length ∷ 0 ∷ [] → p ≡ position_of head.end → k ≡ bit_of head.line.version 4 → l ≡ bit_of head.line.code 8 → m ≡ bit_of head.line.reason 16 → n ≡ number_of head.line.version →
      c ≡ number_of head.line.code → f ≡ piece_of head.line.reason → g ≡ placed f → out ≡ response_numbers head
  response_numbers_lem o a b d e h i j z = o ∙ rw (a, b, d, e, h, i, z, j)
