-- How a byte of the input is shown.
use Rattle.std.specs.Prelude.{ℕ, ◌/◌, ◌%◌, false, cond, List, [], ◌∷◌, ◌==◌, nat_lt}
use Rattle.std.specs.Fmt.{digit_glyph}

-- \x and two hexadecimal digits
abbrev pub hexadecimal : ℕ → List ℕ
hexadecimal b = 92 ∷ 120 ∷ digit_glyph false (b / 16) ∷ digit_glyph false (b % 16) ∷ []

-- \t, \n, \r and \\; of the other bytes printable ASCII as it is, and the rest by its number
abbrev pub shown : ℕ → List ℕ
shown b =
    cond (b == 9) (92 ∷ 116 ∷ [])
    (cond (b == 10) (92 ∷ 110 ∷ [])
    (cond (b == 13) (92 ∷ 114 ∷ [])
    (cond (b == 92) (92 ∷ 92 ∷ [])
    (cond (nat_lt b 32) (hexadecimal b)
    (cond (nat_lt b 127) (b ∷ []) (hexadecimal b))))))
