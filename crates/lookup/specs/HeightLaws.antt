-- The interval of heights that a search for the lowest one halves. Assumes nothing.
use Rattle.std.specs.Prelude.{ℕ, ◌≤◌, ◌<◌, List}
use Rattle.lookup.specs.Litres.{litres}

-- the lowest height is among low, .., high
pub record Among (dh step : ℕ) (table : List ℕ) (w low high : ℕ) : Type 0 where
  pub order : low ≤ high
  pub inside : high ≤ dh
  pub reaches : w ≤ litres dh step table high
  pub first : (lower : ℕ) → lower < low → litres dh step table lower < w
