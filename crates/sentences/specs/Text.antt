-- A text that has a sentence to each line. Assumes nothing.
use Rattle.std.specs.Prelude.{ℕ, zero, suc, List, [], ◌∷◌, ◌++◌, eqb}
use Prim.Native.Char.{code}
use Prim.Native.String.{String}
use Rattle.laws.specs.Order.{pick}
use Rattle.text.specs.Ascii.{ascii}

abbrev pub lines : List String → List ℕ
lines [] = []
lines (s ∷ ss) = (ascii s ++ ascii "\n") ++ lines ss

-- what stands behind n lines of a text
unfoldable pub behind_lines : ℕ → List ℕ → List ℕ
behind_lines zero t = t
behind_lines (suc n) [] = []
behind_lines (suc n) (b ∷ t) = pick (eqb b (code "\n")) (behind_lines n t) (behind_lines (suc n) t)

-- a line without its end
unfoldable pub first_line : List ℕ → List ℕ
first_line [] = []
first_line (b ∷ t) = pick (eqb b (code "\n")) [] (b ∷ first_line t)
