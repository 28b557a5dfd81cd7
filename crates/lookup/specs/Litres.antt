-- Litres at a height, on a sound table (document 01, 'Lookups'): the row itself, or on the straight line between the neighbour rows,
-- nearest v. And what that comes to, said outright. Assumes nothing.
use Rattle.std.specs.Prelude.{ℕ, ◌+◌, ◌*◌, ◌-◌, ◌≤◌, ◌<◌, ◌≡◌, List, eqb}
use Rattle.laws.specs.Nearest.{nearest}
use Rattle.laws.specs.Order.{pick}
use Rattle.schedule.specs.Rows.{row_count, row_height, row_below}
use Rattle.lookup.specs.Table.{row}
use Rattle.lookup.specs.Line.{line_value}

-- x above row i, on the line to row i + 1
abbrev pub above : (dh step : ℕ) (table : List ℕ) (i h : ℕ) → ℕ
above dh step table i h =
    line_value (row table i) (row table (i + 1)) (h - row_height dh step i) (row_height dh step (i + 1) - row_height dh step i)

unfoldable pub litres : (dh step : ℕ) (table : List ℕ) (h : ℕ) → ℕ
litres dh step table h =
    pick (eqb (row_height dh step (row_below dh step h)) h) (row table (row_below dh step h)) (above dh step table (row_below dh step h) h)

-- a volume v between a row a, x below its height, and the next row b, y above it: it is on their line, to the nearest v, and between them
pub record BetweenRows (a b x y v : ℕ) : Type 0 where
  pub on_line : v ≡ nearest (a * y + b * x) (x + y)
  pub at_least : a ≤ v
  pub at_most : v ≤ b

-- a volume v at height h: at a row's height that row, elsewhere between the rows below and above, and litres never fall with the height
pub record OnTable (dh step : ℕ) (table : List ℕ) (h v : ℕ) : Type 0 where
  pub at_row : (i : ℕ) → i < row_count dh step → row_height dh step i ≡ h → v ≡ row table i
  pub between : (i : ℕ) → i + 1 < row_count dh step → row_height dh step i ≤ h → h ≤ row_height dh step (i + 1)
      → BetweenRows (row table i) (row table (i + 1)) (h - row_height dh step i) (row_height dh step (i + 1) - h) v
  pub no_less_above : (higher : ℕ) → h ≤ higher → higher ≤ dh → v ≤ litres dh step table higher
  pub no_more_below : (lower : ℕ) → lower ≤ h → litres dh step table lower ≤ v
