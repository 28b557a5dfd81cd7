-- Laws of the tape rise: the second term in the paper's own words; no rise where there are no seams; and a rise of 69.25 mm at most, so that
-- every circumference, which is 1,500 mm or more, is larger than what is taken off it. Assumes nothing.
use Rattle.std.specs.Prelude.{ℕ, ◌+◌, ◌*◌, ◌≤◌, ◌<◌, ◌≡◌}
use Rattle.std.proofs.Common.{mul-le-mul, arith}
use Rattle.laws.proofs.NearestLaws.{nearest_at_most}
use Rattle.laws.specs.Root.{root, root_of}
use Rattle.laws.proofs.FractionRootLaws.{root_of_square_law, root_of_next, root_of_order}
use Rattle.measure.specs.Diameter.{smallest}
use Rattle.seams.specs.declared.seam.Seam.{Seam}
use Rattle.seams.specs.Seam.{seam, no_seam}
use Rattle.seams.specs.SeamLaws.{SeamFits, largest_under_root, first_product_fits, second_product_fits}
use Rattle.seams.specs.Rise.{first_term, second_term, tape_rise}
use Rattle.seams.specs.RiseLaws.{most_first, most_second, most_rise}

-- the square of the second term does not exceed 64N²t³/(9d) ..
pub second_term_square : (s : Seam) (d : ℕ)
    → second_term s d * second_term s d * (9 * d) ≤ 64 * s.number * s.number * (s.thickness * s.thickness * s.thickness)
unfolding second_term
second_term_square s d = root_of_square_law _ (9 * d)

-- .. and the next square does
pub second_term_next : (s : Seam) (d : ℕ) → 0 < d
    → 64 * s.number * s.number * (s.thickness * s.thickness * s.thickness) < (second_term s d + 1) * (second_term s d + 1) * (9 * d)
unfolding second_term
second_term_next s d some = root_of_next _ (9 * d) (omega arith)

module _ (s : Seam) (d : ℕ) (fits : SeamFits s) (wide : smallest ≤ d) where
  pub first_term_at_most : first_term s d ≤ most_first
  unfolding first_term
  first_term_at_most = nearest_at_most _ most_first d (omega arith) (omega (arith, first_product_fits s fits))

  pub second_term_at_most : second_term s d ≤ most_second
  unfolding second_term root_of root
  second_term_at_most =
      root_of_order _ (9 * d) largest_under_root (9 * smallest) (omega arith) (omega arith)
      (mul-le-mul (second_product_fits s fits) (omega arith))

  pub tape_rise_at_most : tape_rise s d ≤ most_rise
  unfolding tape_rise
  tape_rise_at_most = omega (arith, first_term_at_most, second_term_at_most)

-- where the tape crosses no seam, however thick and wide
pub tape_rise_of_no_seams : (t w d : ℕ) → 0 < d → tape_rise (seam 0 t w) d ≡ 0
unfolding tape_rise first_term second_term root_of root
tape_rise_of_no_seams t w d some =
    omega (
      arith,
      nearest_at_most (2 * 0 * t * w) 0 d some (omega arith),
      root_of_order (64 * 0 * 0 * (t * t * t)) (9 * d) 0 1 (omega arith) (omega arith) (omega arith),
    )

pub tape_rise_none : (d : ℕ) → 0 < d → tape_rise no_seam d ≡ 0
tape_rise_none d some = tape_rise_of_no_seams 0 0 d some
