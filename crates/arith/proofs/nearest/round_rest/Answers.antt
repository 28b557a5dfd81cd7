-- `arith::nearest::round_rest` meets its contract: at half of the divisor it is the even one of the two. Assumes nothing.
use Rattle.std.specs.Cmp.{ranked}
use Rattle.std.proofs.Common.{arith, ◌≡◌, ◌-◌}
use Rattle.laws.proofs.NearestLaws.{nearest_of_half}
use Rattle.arith.proofs.nearest.round_rest.Goals as goal

pub returns-in-Equal : goal.returns-in-Equal
returns-in-Equal c =
    let a = c.args in
    let half : a.rest ≡ a.divisor - a.rest = ranked _ _ _ c.in-Equal.ensures in
    omega (arith, nearest_of_half a.quotient a.rest a.divisor c.requires.0 (omega arith))
