-- No line is longer than `line_size`, no row's than `row_size`: of numbers of 32 bits, and of 64 where they have a sign. Assumes nothing.
use Rattle.std.specs.Prelude.{ℕ, zero, suc, ◌^◌, ◌≤◌, ◌<◌, ℤ, pos, negsuc, nat_abs, length}
use Rattle.std.proofs.Common.{arith, length-append}
use Rattle.std.specs.Int.Signed.{mag}
use Rattle.laws.proofs.SignedLaws.{nat_abs_at_most}
use Rattle.text.specs.DigitsLaws.{digits_at_most, hundredths_at_most, hundredths_of_64}
use Rattle.lines.specs.Lines.{rows_line, row_line, refused_line, figure_line, sign_of, signed_line, line_size, row_size}

pub rows_line_size : (n : ℕ) → n < 2 ^ 32 → length (rows_line n) ≤ line_size
unfolding rows_line
rows_line_size n h = simp length-append (omega (arith, digits_at_most n h))

pub row_line_size : (h v : ℕ) → h < 2 ^ 32 → v < 2 ^ 32 → length (row_line h v) ≤ row_size
unfolding row_line
row_line_size h v lh lv = simp length-append (omega (arith, hundredths_at_most h lh, hundredths_at_most v lv))

pub refused_line_size : (number place : ℕ) → number < 2 ^ 32 → place < 2 ^ 32 → length (refused_line number place) ≤ line_size
unfolding refused_line
refused_line_size number place ln lp = simp length-append (omega (arith, digits_at_most number ln, digits_at_most place lp))

pub figure_line_size : (n : ℕ) → n < 2 ^ 32 → length (figure_line n) ≤ line_size
unfolding figure_line
figure_line_size n h = simp length-append (omega (arith, hundredths_at_most n h))

sign_at_most : (z : ℤ) → length (sign_of z) ≤ 1
sign_at_most (pos zero) = omega arith
sign_at_most (pos (suc n)) = omega arith
sign_at_most (negsuc n) = omega arith

pub signed_line_size : (z : ℤ) → mag z < 2 ^ 63 → length (signed_line z) ≤ line_size
unfolding signed_line
signed_line_size z h =
    simp length-append (omega (arith, sign_at_most z, hundredths_of_64 (nat_abs z) (omega (arith, nat_abs_at_most z))))

-- how long each line can be, for the functions that put it
pub ruleset line_sizes = (rows_line_size, row_line_size, refused_line_size, figure_line_size, signed_line_size)
