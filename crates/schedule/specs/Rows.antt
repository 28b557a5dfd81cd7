-- Document 01, 'Volume': rows stand at 0, step, 2·step and so on up to DH, with one more row at DH if DH is no multiple of the
-- step. Assumes nothing.
use Rattle.std.specs.Prelude.{ℕ, ◌+◌, ◌-◌, ◌*◌, ◌/◌, ◌%◌, min, eqb}
use Rattle.laws.specs.Order.{pick}

-- the limits of a step
abbrev pub smallest_step : ℕ
smallest_step = 100

abbrev pub largest_step : ℕ
largest_step = 10000

-- the most rows that the limits of DH and of a step allow
abbrev pub most_rows : ℕ
most_rows = 5001

unfoldable pub row_count : (dh step : ℕ) → ℕ
row_count dh step = dh / step + 1 + pick (eqb (dh % step) 0) 0 1

unfoldable pub row_height : (dh step i : ℕ) → ℕ
row_height dh step i = min (i * step) dh

-- the last row at or below a height
unfoldable pub row_below : (dh step h : ℕ) → ℕ
row_below dh step h = pick (eqb h dh) (row_count dh step - 1) (h / step)
