-- The volume of both heads by their kind, to the nearest v (document 01, 'Volume'; document 02, E2), of diameter D and inner length L, filled
-- to height H. Lengths are in u. Assumes nothing.
use Rattle.std.specs.Prelude.{ℕ, ◌+◌, ◌*◌, ◌-◌}
use Rattle.laws.specs.Nearest.{nearest}
use Rattle.measure.specs.Pi.{pi_over, pi_under}
use Rattle.measure.specs.Quantity.{cubic_per_v}
use Rattle.domes.specs.Dome.{dome_fitting, dome_covering}
use Rattle.heads.specs.declared.kind.HeadKind.{HeadKind}
use Rattle.heads.specs.declared.kind.HeadKind.TheVariants.{Flat, HalfEllipsoid, SphericalCap}

-- half-ellipsoids: pi · L · H² · (3D - 2H) / 3D; spherical caps: halfway between the total of 1 mm cells that fit and the total of those that
-- cover, both domes together
unfoldable pub heads_volume : HeadKind → (d l h : ℕ) → ℕ
heads_volume Flat d l h = 0
heads_volume HalfEllipsoid d l h = nearest (pi_over * l * (h * h) * (3 * d - 2 * h)) (pi_under * (3 * d) * cubic_per_v)
heads_volume SphericalCap d l h = nearest (2 * dome_fitting d l h + 2 * dome_covering d l h) (2 * cubic_per_v)
