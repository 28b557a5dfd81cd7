-- Seams within their limits: the products of the tape rise stay small. Assumes nothing.
use Rattle.std.specs.Prelude.{ℕ, ◌*◌, ◌≤◌}
use Rattle.std.proofs.Common.{mul-le-mul, arith}
use Rattle.seams.specs.declared.seam.Seam.{Seam}
use Rattle.seams.specs.Seam.{most_seams, thickest_seam, widest_seam}

pub record SeamFits (seam : Seam) : Type 0 where
  pub few : seam.number ≤ most_seams
  pub thin : seam.thickness ≤ thickest_seam
  pub narrow : seam.width ≤ widest_seam

-- 64N²t³ of the most and thickest seams
abbrev pub largest_under_root : ℕ
largest_under_root = 9216000000000

module _ (s : Seam) (fits : SeamFits s) where
  -- of the first term: 2Nt, and 2Ntw

  pub first_factors_fit : 2 * s.number * s.thickness ≤ 24000
  first_factors_fit = omega (arith, mul-le-mul fits.few fits.thin)

  pub first_product_fits : 2 * s.number * s.thickness * s.width ≤ 120000000
  first_product_fits = mul-le-mul first_factors_fit fits.narrow

  -- of the second term: 64N², t², t³, and 64N²t³

  pub numbers_fit : 64 * s.number * s.number ≤ 9216
  numbers_fit = omega (arith, mul-le-mul fits.few fits.few)

  pub square_fits : s.thickness * s.thickness ≤ 1000000
  square_fits = mul-le-mul fits.thin fits.thin

  pub cube_fits : s.thickness * s.thickness * s.thickness ≤ 1000000000
  cube_fits = mul-le-mul square_fits fits.thin

  pub second_product_fits : 64 * s.number * s.number * (s.thickness * s.thickness * s.thickness) ≤ largest_under_root
  second_product_fits = mul-le-mul numbers_fit cube_fits
