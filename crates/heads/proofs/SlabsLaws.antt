-- The slabs of a pair of heads keep within a slack of its volume, whatever their count. Half-ellipsoids: both of the slabs' values of pi lie
-- below the volume's 355/113, and what a covering slab lacks by that is below half a v at the largest head. Assumes nothing.
use Rattle.std.specs.Prelude.{ℕ, ◌+◌, ◌*◌, ◌-◌, ◌≤◌, ◌<◌, ◌≡◌, refl}
use Rattle.std.proofs.Math.Nat.{le_dest}
use Rattle.std.proofs.Common.{mul-le-mul_left, arith}
use Rattle.laws.specs.Nearest.{nearest}
use Rattle.laws.proofs.NearestLaws.{nearest_above, nearest_below}
use Rattle.measure.specs.Diameter.{largest}
use Rattle.measure.specs.Quantity.{cubic_per_v}
use Rattle.slabs.specs.Fraction.{Fraction, whole, ◌⊕◌, ◌⊑◌}
use Rattle.slabs.specs.Slab.{Cut, Some}
use Rattle.slabs.specs.WithinLaws.{Within}
use Rattle.domes.specs.Dome.{dome_fitting, dome_covering, cut_fitting, cut_covering}
use Rattle.domes.proofs.TotalLaws.{cut_fits, cut_covers, dome_fits_under}
use Rattle.measure.specs.Pi.{pi_over, pi_under}
use Rattle.heads.specs.declared.kind.HeadKind.{HeadKind}
use Rattle.heads.specs.declared.kind.HeadKind.TheVariants.{Flat, HalfEllipsoid, SphericalCap}
use Rattle.heads.specs.LengthLaws.{HeadLimits, cap_limits}
use Rattle.heads.specs.Volume.{heads_volume}
use Rattle.heads.specs.PolynomialLaws.{polynomial}
use Rattle.heads.proofs.VolumeLaws.{volume_by_polynomial, polynomial_limit}
use Rattle.heads.specs.Slabs.{slabs_of, both_domes, heads_fitting, heads_covering, heads_tolerance}
use Rattle.heads.specs.SectionLaws.{heads_fit, heads_cover}
use Rattle.heads.specs.SlabsLaws.{heads_slack}

-- within 1 v and what the kind adds to the tolerance
pub heads_slack_law : (kind : HeadKind) (d l h : ℕ) → heads_slack kind d l h ≤ cubic_per_v + heads_tolerance kind d l h
unfolding heads_slack heads_tolerance
heads_slack_law Flat d l h = omega arith
heads_slack_law HalfEllipsoid d l h = omega arith
heads_slack_law SphericalCap d l h = omega arith

-- what caps add is what the paper says: the difference of the two 1 mm totals of both domes, plus 1 v
pub caps_tolerance : (d l h : ℕ) → HeadLimits SphericalCap d l
    → heads_tolerance SphericalCap d l h + 2 * dome_fitting d l h ≡ 2 * dome_covering d l h + 1 * cubic_per_v
unfolding heads_tolerance
caps_tolerance d l h limits = omega (arith, dome_fits_under d l h (cap_limits d l limits) limits.low)

-- .. and heads of another kind add nothing
pub others_add_nothing : (d l h : ℕ) → (heads_tolerance Flat d l h ≡ 0) × (heads_tolerance HalfEllipsoid d l h ≡ 0)
unfolding heads_tolerance
others_add_nothing d l h = (refl, refl)

-- the row of both domes, of which one has f and c
abbrev row : (f c : ℕ) → ℕ
row f c = nearest (2 * f + 2 * c) (2 * cubic_per_v)

within_fits : (x : Fraction) (f c : ℕ) → f ≤ c → x ⊑ whole c → both_domes x ⊑ whole (row f c * cubic_per_v + (c - f + cubic_per_v))
within_fits x f c under below =
    let (t, e) = le_dest under in
    let left : c - f ≡ t = omega arith in
    let near : 2 * c ≤ row f c * cubic_per_v + (t + cubic_per_v) = omega (arith, nearest_below (2 * f + 2 * c) (2 * cubic_per_v) (omega arith)) in
    rw left (omega (arith, below, mul-le-mul_left x.under near))

within_covers : (x : Fraction) (f c : ℕ) → f ≤ c → whole f ⊑ x → whole (row f c * cubic_per_v) ⊑ both_domes x ⊕ whole (c - f + cubic_per_v)
within_covers x f c under above =
    let (t, e) = le_dest under in
    let left : c - f ≡ t = omega arith in
    let near : row f c * cubic_per_v ≤ 2 * f + (t + cubic_per_v) = omega (arith, nearest_above (2 * f + 2 * c) (2 * cubic_per_v)) in
    rw left (omega (arith, above, mul-le-mul_left x.under near))

pub heads_within : (kind : HeadKind) (d l h : ℕ) (cut : Cut) → Some cut → 0 < d → d ≤ largest → HeadLimits kind d l → h ≤ d
    → Within (heads_fitting kind d l h cut) (heads_covering kind d l h cut) (heads_volume kind d l h * cubic_per_v) (heads_slack kind d l h)
unfolding heads_fitting heads_covering slabs_of heads_volume heads_slack
heads_within Flat d l h cut some d_low d_high limits h_high = record { fits = omega arith; covers = omega arith }
heads_within HalfEllipsoid d l h cut some d_low d_high limits h_high = rw (volume_by_polynomial d l h) (
    let n = cut.levels in
    record {
      fits =
          omega (
            arith,
            mul-le-mul_left l (heads_fit d h n h_high),
            mul-le-mul_left (n * n * n) (nearest_below (pi_over * l * polynomial d h) (pi_under * (3 * d) * cubic_per_v) (omega arith)),
          );
      covers =
          omega (
            arith,
            mul-le-mul_left l (heads_cover d h n h_high),
            mul-le-mul_left (n * n * n) (polynomial_limit d l h h_high d_high limits.high),
            mul-le-mul_left (n * n * n) (nearest_above (pi_over * l * polynomial d h) (pi_under * (3 * d) * cubic_per_v)),
          );
    })
heads_within SphericalCap d l h cut some d_low d_high limits h_high =
    let n = cut.levels in
    let m = cut.lengths in
    let fits = cap_limits d l limits in
    let f = dome_fitting d l h in
    let c = dome_covering d l h in
    let under = dome_fits_under d l h fits limits.low in
    record {
      fits = within_fits (cut_fitting d l h n m) f c under (cut_fits d l h m n fits limits.low some.1 some.0);
      covers = within_covers (cut_covering d l h n m) f c under (cut_covers d l h m n fits limits.low some.1 some.0);
    }
