-- The slack within which the slabs of a pair of heads keep of its volume, whatever their count; the laws stand in proofs/. Assumes nothing.
use Rattle.std.specs.Prelude.{ℕ, ◌+◌, ◌-◌}
use Rattle.measure.specs.Quantity.{cubic_per_v}
use Rattle.domes.specs.Dome.{dome_fitting, dome_covering}
use Rattle.heads.specs.declared.kind.HeadKind.{HeadKind}
use Rattle.heads.specs.declared.kind.HeadKind.TheVariants.{Flat, HalfEllipsoid, SphericalCap}

-- spherical caps: any cells that fit total no more than the 1 mm cells that cover, and any cells that cover no less than the 1 mm cells that
-- fit; the row lies halfway between the two 1 mm totals, to half a v
unfoldable pub heads_slack : HeadKind → (d l h : ℕ) → ℕ
heads_slack Flat d l h = cubic_per_v
heads_slack HalfEllipsoid d l h = cubic_per_v
heads_slack SphericalCap d l h = dome_covering d l h - dome_fitting d l h + cubic_per_v
