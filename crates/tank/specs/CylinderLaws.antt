-- What no cylinder within the limits exceeds: the product that its volume is rounded from, and the volume. Assumes nothing.
use Rattle.std.specs.Prelude.{ℕ, ◌+◌, ◌*◌, ◌≤◌}
use Rattle.std.proofs.Common.{le_trans, mul-le-mul, add-le-add, arith}
use Rattle.laws.proofs.NearestLaws.{nearest_at_most}
use Rattle.measure.specs.Diameter.{largest}
use Rattle.measure.specs.Quantity.{cubic_per_v}
use Rattle.circle.specs.Circle.{doubled_area}
use Rattle.circle.proofs.AreaLaws.{area_at_most}
use Rattle.tank.specs.Limits.{longest_shell}
use Rattle.tank.specs.Part.{cylinder_volume}

-- in v
abbrev pub most_cylinder : ℕ
most_cylinder = 75000000

module _ (d l h : ℕ) (h_high : h ≤ d) (d_high : d ≤ largest) (l-high : l ≤ longest_shell) where
  pub cylinder_product : doubled_area d h * l ≤ largest * (largest + largest) * longest_shell
  cylinder_product =
      mul-le-mul (le_trans (area_at_most d h) (mul-le-mul (le_trans h_high d_high) (add-le-add d_high d_high))) l-high

  pub cylinder_at_most : cylinder_volume d l h ≤ most_cylinder
  unfolding cylinder_volume
  cylinder_at_most = nearest_at_most _ most_cylinder (2 * cubic_per_v) (omega arith) cylinder_product
