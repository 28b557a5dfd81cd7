-- The corrected height (document 01, 'Dimensions'; document 001, A.22): H + (D - DH)/2, the half rounded down, then held within
-- 0 to D. Assumes nothing.
use Rattle.std.specs.Prelude.{ℕ, min, ℤ, pos, negsuc, ◌+ℤ◌}
use Rattle.laws.specs.Half.{half_difference}

abbrev pub held_within : ℤ → ℕ → ℕ
held_within (pos n) upper = min n upper
held_within (negsuc n) upper = 0

unfoldable pub corrected_height : (d dh h : ℕ) → ℕ
corrected_height d dh h = held_within (pos h +ℤ half_difference d dh) d
