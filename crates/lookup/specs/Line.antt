-- The value on the straight line between two neighbour rows, to the nearest v: the value itself is rounded, not the increment.
-- Assumes nothing.
use Rattle.std.specs.Prelude.{ℕ, ◌+◌, ◌*◌, ◌-◌}
use Rattle.laws.specs.Nearest.{nearest}

-- between rows a and b, x above the lower of them, with the rows so far apart
unfoldable pub line_value : (a b x gap : ℕ) → ℕ
line_value a b x gap = nearest (a * (gap - x) + b * x) gap
