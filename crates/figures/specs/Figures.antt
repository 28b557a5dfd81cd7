-- Which text is a figure, and of how many hundredths: read from the left, one to eight digits, and if anything follows, a point
-- and one or two digits. Assumes nothing.
use Rattle.std.specs.Prelude.{ℕ, zero, suc, ◌+◌, ◌*◌, ◌-◌, Bool, ◌&&◌, List, [], ◌∷◌, leb, ltb, eqb, Option, Some, None}
use Prim.Native.Char.{code}
use Rattle.laws.specs.Order.{pick}

abbrev pub is_digit : ℕ → Bool
is_digit b = leb (code "0") b && leb b (code "9")

-- what a digit stands for
abbrev pub value_of : ℕ → ℕ
value_of b = b - code "0"

-- what a byte says, if it is a digit
abbrev pub read_digit : ℕ → Option ℕ
read_digit b = pick (is_digit b) (Some (value_of b)) None

-- the most digits of a whole part
abbrev pub most_digits : ℕ
most_digits = 8

-- no figure has more hundredths than 32 bits hold
abbrev pub largest_figure : ℕ
largest_figure = 4_294_967_295

abbrev pub fitting : ℕ → Option ℕ
fitting n = pick (leb n largest_figure) (Some n) None

-- a whole part, what should be a point, and what should be two decimals
abbrev pub pointed : ℕ → ℕ → ℕ → ℕ → Option ℕ
pointed whole point tenth hundredth =
    pick (eqb point (code ".") && (is_digit tenth && is_digit hundredth)) (fitting (100 * whole + 10 * value_of tenth + value_of hundredth)) None

-- a whole part and what stands behind it; decimals that are not written are zeros
abbrev pub decimals : ℕ → List ℕ → Option ℕ
decimals whole [] = pointed whole (code ".") (code "0") (code "0")
decimals whole (point ∷ []) = None
decimals whole (point ∷ tenth ∷ []) = pointed whole point tenth (code "0")
decimals whole (point ∷ tenth ∷ hundredth ∷ []) = pointed whole point tenth hundredth
decimals whole (point ∷ tenth ∷ hundredth ∷ more ∷ s) = None

-- no whole part is no figure
abbrev pub ended : ℕ → ℕ → List ℕ → Option ℕ
ended zero whole s = None
ended (suc count) whole s = decimals whole s

-- what a text says whose first `count` digits are read already, as the number `whole`
unfoldable pub figure_from : ℕ → ℕ → List ℕ → Option ℕ
figure_from count whole [] = ended count whole []
figure_from count whole (b ∷ s) = pick (is_digit b && ltb count most_digits) (figure_from (suc count) (10 * whole + value_of b) s) (ended count whole (b ∷ s))

unfoldable pub figure_of : List ℕ → Option ℕ
figure_of s = figure_from 0 0 s
