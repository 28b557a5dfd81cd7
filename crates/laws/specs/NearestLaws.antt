-- Laws of `nearest`, by which everything above knows it: where it goes by the rest, that it lies within half of the quotient, never falls as
-- a grows, is exact on a multiple, that a factor of both numbers cancels, and what becomes of a sum. Only `nearest_of_half` says where a half goes; the others would
-- hold of a half that goes either way. Assumes nothing.
use Rattle.std.specs.Prelude.{ℕ, ◌+◌, ◌%◌, ◌≤◌, ◌≡◌}

-- n is the even one of q and q + 1
abbrev pub EvenOf : (q n : ℕ) → Type 0
EvenOf q n = (n % 2 ≡ 0) × (q ≤ n) × (n ≤ q + 1)
