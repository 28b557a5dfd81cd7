-- `tank::cylinder::cylinder_volume` meets its contract: in v the volume fits 32 bits. Assumes nothing.
use Rattle.std.proofs.Common.{arith, ◌*◌, ◌^◌, ◌-◌}
use Rattle.laws.proofs.NearestLaws.{nearest_at_most}
use Rattle.measure.specs.Quantity.{cubic_per_v}
use Rattle.tank.proofs.cylinder.cylinder_volume.Goals as goal

pub overflow_cast-nearest_quotient : goal.overflow_cast-nearest_quotient
overflow_cast-nearest_quotient c =
    let product = c.args.area * c.args.length in
    omega (
      arith,
      c.nearest_quotient.ensures,
      nearest_at_most product (2 ^ 32 - 1) (2 * cubic_per_v) (omega arith) (omega (arith, c.requires)),
    )
