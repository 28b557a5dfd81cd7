-- The floor half of a signed number: rounded down, toward the lower number, also below zero, so that half of -3 is -2.
-- Assumes nothing.
use Rattle.std.specs.Prelude.{ℕ, ◌/◌, ℤ, pos, negsuc}
use Rattle.std.proofs.Math.IntN.{sub_ℕ}

abbrev pub floor_half : ℤ → ℤ
floor_half (pos n) = pos (n / 2)
floor_half (negsuc n) = negsuc (n / 2)

-- floor half of a - b
abbrev pub half_difference : ℕ → ℕ → ℤ
half_difference a b = floor_half (sub_ℕ a b)
