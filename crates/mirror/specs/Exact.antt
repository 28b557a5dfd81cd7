-- The volume of a part before it is rounded, in v, as a fraction: what document 01, 'Volume', and document 02, E2, take the nearest of. That the
-- volumes in use are rounded from these is a law (`rounded_from_exact`). Assumes nothing.
use Rattle.std.specs.Prelude.{ℕ, ◌+◌, ◌*◌, ◌-◌}
use Rattle.measure.specs.Pi.{pi_over, pi_under}
use Rattle.measure.specs.Quantity.{cubic_per_v}
use Rattle.slabs.specs.Fraction.{Fraction, whole}
use Rattle.circle.specs.Circle.{doubled_area}
use Rattle.domes.specs.Dome.{dome_fitting, dome_covering}
use Rattle.heads.specs.declared.kind.HeadKind.{HeadKind}
use Rattle.heads.specs.declared.kind.HeadKind.TheVariants.{Flat, HalfEllipsoid, SphericalCap}
use Rattle.tank.specs.Part.{Shape, cylinder, head_pair}

-- doubled area · L / 2
abbrev pub exact_cylinder : (d l h : ℕ) → Fraction
exact_cylinder d l h = record { over = doubled_area d h * l; under = 2 * cubic_per_v }

-- nothing; pi · L · H² · (3D - 2H) / 3D; halfway between the two totals of both domes
abbrev pub exact_heads : HeadKind → (d l h : ℕ) → Fraction
exact_heads Flat d l h = whole 0
exact_heads HalfEllipsoid d l h = record { over = pi_over * l * (h * h) * (3 * d - 2 * h); under = pi_under * (3 * d) * cubic_per_v }
exact_heads SphericalCap d l h = record { over = 2 * dome_fitting d l h + 2 * dome_covering d l h; under = 2 * cubic_per_v }

abbrev pub exact_volume : Shape → (d l h : ℕ) → Fraction
exact_volume cylinder = exact_cylinder
exact_volume (head_pair kind) = exact_heads kind
