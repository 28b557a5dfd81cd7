-- The volume of heads: it never falls as the height grows, that of full half-ellipsoids is document 000's formula 30, and what no heads within
-- the limits exceed. That of half-ellipsoids goes by its polynomial. Assumes nothing.
use Rattle.std.specs.Prelude.{ℕ, ◌+◌, ◌*◌, ◌-◌, ◌≤◌, ◌<◌, ◌≡◌}
use Rattle.std.proofs.Common.{ap, le_refl, le_trans, add-le-add, mul-le-mul, mul-le-mul_left, mul_assoc, arith}
use Rattle.laws.specs.Nearest.{nearest}
use Rattle.laws.proofs.NearestLaws.{nearest_mono, nearest_at_most, nearest_cancel}
use Rattle.measure.specs.Diameter.{largest}
use Rattle.measure.specs.Quantity.{cubic_per_v}
use Rattle.measure.specs.Pi.{pi_over, pi_under}
use Rattle.domes.specs.Dome.{dome_fitting, dome_covering}
use Rattle.domes.proofs.TotalLaws.{fitting_mono, covering_mono, dome_at_most}
use Rattle.heads.specs.declared.kind.HeadKind.{HeadKind}
use Rattle.heads.specs.declared.kind.HeadKind.TheVariants.{Flat, HalfEllipsoid, SphericalCap}
use Rattle.heads.specs.Length.{longest}
use Rattle.heads.specs.LengthLaws.{HeadLimits, cap_limits}
use Rattle.heads.specs.Volume.{heads_volume}
use Rattle.heads.specs.PolynomialLaws.{polynomial, polynomial_at_most, polynomial_mono}
use Rattle.heads.specs.VolumeLaws.{most_heads}

pub volume_by_polynomial : (d l h : ℕ)
    → heads_volume HalfEllipsoid d l h ≡ nearest (pi_over * l * polynomial d h) (pi_under * (3 * d) * cubic_per_v)
unfolding heads_volume polynomial
volume_by_polynomial d l h =
    ap (λ (n : ℕ). nearest n (pi_under * (3 * d) * cubic_per_v)) (mul_assoc (pi_over * l) (h * h) (3 * d - 2 * h))

pub heads_mono : (kind : HeadKind) (d l h h' : ℕ) → 0 < d → h ≤ h' → h' ≤ d → heads_volume kind d l h ≤ heads_volume kind d l h'
unfolding heads_volume
heads_mono Flat d l h h' d_low up h_high = le_refl 0
heads_mono HalfEllipsoid d l h h' d_low up h_high =
    rw (volume_by_polynomial d l h, volume_by_polynomial d l h')
    (nearest_mono _ _ (pi_under * (3 * d) * cubic_per_v) (omega arith) (mul-le-mul_left (pi_over * l) (polynomial_mono d h h' up h_high)))
heads_mono SphericalCap d l h h' d_low up h_high =
    nearest_mono _ _ (2 * cubic_per_v) (omega arith)
    (add-le-add (mul-le-mul_left 2 (fitting_mono d l h h' up)) (mul-le-mul_left 2 (covering_mono d l h h' up)))

-- full heads, document 000's formula 30 for both: pi/3 · D² · L
pub full_heads : (d l : ℕ) → 0 < d → heads_volume HalfEllipsoid d l d ≡ nearest (pi_over * l * (d * d)) (pi_under * 3 * cubic_per_v)
unfolding heads_volume
full_heads d l some =
    let left : 3 * d - 2 * d ≡ d = omega arith in
    let over : pi_over * l * (d * d) * d ≡ d * (pi_over * l * (d * d)) = omega arith in
    let under : pi_under * (3 * d) * cubic_per_v ≡ d * (pi_under * 3 * cubic_per_v) = omega arith in
    rw (left, over, under) (nearest_cancel d (pi_over * l * (d * d)) (pi_under * 3 * cubic_per_v) some (omega arith))

-- the polynomial of the largest heads
pub polynomial_limit : (d l h : ℕ) → h ≤ d → d ≤ largest → l ≤ longest → l * polynomial d h ≤ longest * (largest * largest * d)
polynomial_limit d l h h_high d_high l-high =
    mul-le-mul l-high (le_trans (polynomial_at_most d h h_high) (mul-le-mul (mul-le-mul d_high d_high) (le_refl d)))

pub half_ellipsoids_at_most : (d l h : ℕ) → h ≤ d → 0 < d → d ≤ largest → l ≤ longest → heads_volume HalfEllipsoid d l h ≤ most_heads
half_ellipsoids_at_most d l h h_high d_low d_high l-high =
    rw (volume_by_polynomial d l h)
    (nearest_at_most _ most_heads (pi_under * (3 * d) * cubic_per_v) (omega arith)
    (omega (arith, polynomial_limit d l h h_high d_high l-high)))

-- of one dome
pub dome_small : (d l h : ℕ) → h ≤ d → d ≤ largest → HeadLimits SphericalCap d l → dome_fitting d l h + dome_covering d l h ≤ most_heads * cubic_per_v
dome_small d l h h_high d_high limits =
    omega (
      arith,
      dome_at_most d l (cap_limits d l limits) limits.low h,
      mul-le-mul (le_trans h_high d_high) (mul-le-mul limits.high d_high),
    )

pub heads_at_most : (kind : HeadKind) (d l h : ℕ) → h ≤ d → 0 < d → d ≤ largest → HeadLimits kind d l
    → heads_volume kind d l h ≤ most_heads
unfolding heads_volume
heads_at_most Flat d l h h_high d_low d_high limits = omega arith
heads_at_most HalfEllipsoid d l h h_high d_low d_high limits = half_ellipsoids_at_most d l h h_high d_low d_high limits.high
heads_at_most SphericalCap d l h h_high d_low d_high limits =
    nearest_at_most _ most_heads (2 * cubic_per_v) (omega arith) (omega (arith, dome_small d l h h_high d_high limits))
