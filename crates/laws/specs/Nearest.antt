-- `nearest a b` is the whole number nearest to a / b, an exact half to the even neighbour (document 02, E5). Assumes nothing.
use Rattle.std.specs.Prelude.{ℕ, ◌+◌, ◌/◌, ◌%◌, ltb}
use Rattle.laws.specs.Order.{pick}

-- a quotient q and a rest of r by b: q where twice the rest is below b, one more where it is above, and at half of b the even one of the two
abbrev pub rounded : (q r b : ℕ) → ℕ
rounded q r b = pick (ltb (r + r) b) q (pick (ltb b (r + r)) (q + 1) (q + q % 2))

unfoldable pub nearest : ℕ → ℕ → ℕ
nearest a b = rounded (a / b) (a % b) b
