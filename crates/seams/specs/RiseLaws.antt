-- The largest terms of the tape rise, and the largest rise, of the most, thickest and widest seams on the smallest diameter: 69.25 mm in
-- all. Assumes nothing.
use Rattle.std.specs.Prelude.{ℕ}

abbrev pub most_first : ℕ
most_first = 2400

abbrev pub most_second : ℕ
most_second = 4525

abbrev pub most_rise : ℕ
most_rise = 6925
