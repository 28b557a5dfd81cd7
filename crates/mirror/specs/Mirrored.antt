-- Which tanks and surveys can be turned over, and how closely two mirrored heights then agree with the full tank (document 02, E7). Assumes nothing.
use Rattle.std.specs.Prelude.{ℕ, ◌+◌, ◌≤◌, ◌≡◌, Bool, true, false, []}
use Rattle.measure.specs.Quantity.{diameter_units}
use Rattle.heads.specs.declared.kind.HeadKind.{HeadKind}
use Rattle.heads.specs.declared.kind.HeadKind.TheVariants.{Flat, HalfEllipsoid, SphericalCap}
use Rattle.tank.specs.declared.tank.Tank.{Tank}
use Rattle.tank.specs.Part.{Shape, cylinder, head_pair}
use Rattle.survey.specs.declared.decode.Survey.{Survey}

-- kind 0 or 1. Of spherical caps nothing is claimed: their 1 mm levels mirror each other only where D2 is a whole number of mm
abbrev pub kind_mirrors : HeadKind → Bool
kind_mirrors Flat = true
kind_mirrors HalfEllipsoid = true
kind_mirrors SphericalCap = false

abbrev pub shape_mirrors : Shape → Bool
shape_mirrors cylinder = true
shape_mirrors (head_pair kind) = kind_mirrors kind

-- D1 = D2 = DH, and kind 0 or 1
pub record MirroredTank (t : Tank) : Type 0 where
  pub shell : diameter_units t.d1 ≡ diameter_units t.dh
  pub heads : diameter_units t.d2 ≡ diameter_units t.dh
  pub kind : kind_mirrors t.kind ≡ true

-- and no deadwood
pub record MirroredSurvey (v : Survey) : Type 0 where
  pub tank : MirroredTank v.tank
  pub no_deadwood : v.deadwood ≡ []

-- one v for each part of the tank: shell, flanges, heads
abbrev pub mirror_tolerance : ℕ
mirror_tolerance = 3

-- two volumes that together keep within n v of a third, either way
pub record Around (n below above full : ℕ) : Type 0 where
  pub at_most : below + above ≤ full + n
  pub at_least : full ≤ below + above + n
