-- A sentence has blanks, which are filled in with the numbers that it is about. Assumes nothing.
use Rattle.std.specs.Prelude.{ℕ, Bool, true, false, List, [], ◌∷◌, ◌++◌, eqb, ℤ, nat_abs}
use Prim.Native.Char.{code}
use Rattle.laws.specs.Order.{pick}
use Rattle.refusal.specs.declared.About.{About}
use Rattle.text.specs.Ascii.{ascii}
use Rattle.text.specs.Digits.{digits, minus_of}
use Rattle.text.specs.Grouped.{grouped}

-- a number with its sign: as hundredths in threes, or its digits
abbrev pub signed : Bool → ℤ → List ℕ
signed true z = minus_of z ++ grouped (nat_abs z)
signed false z = minus_of z ++ digits (nat_abs z)

-- a blank filled in: # the item's number, $ the value, ~ the value as hundredths, < the low limit, > the high one; any other byte is itself
unfoldable pub filled_in : About → ℕ → List ℕ
filled_in x b =
    pick (eqb b (code "#")) (digits x.item)
    (pick (eqb b (code "$")) (signed false x.value)
    (pick (eqb b (code "~")) (signed true x.value)
    (pick (eqb b (code "<")) (signed false x.low)
    (pick (eqb b (code ">")) (signed false x.high) (b ∷ [])))))

unfoldable pub filled : About → List ℕ → List ℕ
filled x [] = []
filled x (b ∷ t) = filled_in x b ++ filled x t

-- a sentence that begins with a byte of its own: no line end, no blank

abbrev pub is_none_of : ℕ → List ℕ → Bool
is_none_of b [] = true
is_none_of b (c ∷ cs) = pick (eqb b c) false (is_none_of b cs)

abbrev pub begun : List ℕ → Bool
begun [] = false
begun (b ∷ t) = is_none_of b (ascii "\n#$~<>")
