-- The bytes of a text in ASCII, so that examples can be read.
-- Assumes nothing.
use Rattle.std.specs.Prelude.{ℕ, List, [] as end, ◌∷◌ as ◌then◌}
use Prim.Native.Char.{code}
use Prim.Native.String.{String, [], ◌∷◌}

abbrev pub ascii : String → List ℕ
ascii [] = end
ascii (c ∷ s) = code c then ascii s
