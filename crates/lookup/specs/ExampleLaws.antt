-- The middle between two rows, worked out by hand: the value on the line is rounded and not what it has more than the lower row, which would be
-- a half in both and give 1 and 2. Assumes nothing.
use Rattle.std.specs.Prelude.{◌≡◌, refl}
use Rattle.laws.specs.Nearest.{nearest}
use Rattle.lookup.specs.Line.{line_value}

-- 1.5 between rows 1 and 2, and 2.5 between rows 2 and 3
pub middle_to_even : (line_value 1 2 5000 10000 ≡ 2) × (line_value 2 3 5000 10000 ≡ 2)
unfolding nearest line_value
middle_to_even = (refl, refl)
