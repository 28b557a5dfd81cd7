-- The slabs of a pair of heads by its kind (document 01, 'Slabs'; document 02, E2), of diameter D and inner length L, filled to height H, and
-- the tolerance that a kind brings. Volumes are in cubic u, those of slabs as fractions. Assumes nothing.
use Rattle.std.specs.Prelude.{ℕ, ◌+◌, ◌*◌, ◌-◌, ◌^◌}
use Rattle.laws.specs.Sum.{sum}
use Rattle.circle.specs.Circle.{chord_square}
use Rattle.slabs.specs.Fraction.{Fraction, whole}
use Rattle.measure.specs.Quantity.{cubic_per_v}
use Rattle.slabs.specs.Slab.{Cut, smaller_face, larger_face}
use Rattle.domes.specs.Dome.{dome_fitting, dome_covering, cut_fitting, cut_covering}
use Rattle.heads.specs.declared.kind.HeadKind.{HeadKind}
use Rattle.heads.specs.declared.kind.HeadKind.TheVariants.{Flat, HalfEllipsoid, SphericalCap}

-- the mission's two values of pi, in parts of pi_unit
abbrev pub pi_unit : ℕ
pi_unit = 10 ^ 7

abbrev pub pi_fitting : ℕ
pi_fitting = 31415926

abbrev pub pi_covering : ℕ
pi_covering = 31415927

-- slabs of pi·(2L/D)·y·(D - y) × H/N each. With 4y(D - y) in N-ths of u squared the section is pi·L·4y(D - y) / 2D; `faces` is
-- the sum of what stands for 4y(D - y) in each slab
unfoldable pub slabs_of : (pi d l h n faces : ℕ) → Fraction
slabs_of pi d l h n faces = record { over = pi * l * h * faces; under = 2 * pi_unit * d * (n * n * n) }

-- twice what one dome has
abbrev pub both_domes : Fraction → Fraction
both_domes dome = record { over = 2 * dome.over; under = dome.under }

unfoldable pub heads_fitting : HeadKind → (d l h : ℕ) → Cut → Fraction
heads_fitting Flat d l h cut = whole 0
heads_fitting HalfEllipsoid d l h cut = let n = cut.levels in slabs_of pi_fitting d l h n (sum n (smaller_face (chord_square (n * d)) h))
heads_fitting SphericalCap d l h cut = both_domes (cut_fitting d l h cut.levels cut.lengths)

-- at D/2 the value of 4y(D - y) is D²
unfoldable pub heads_covering : HeadKind → (d l h : ℕ) → Cut → Fraction
heads_covering Flat d l h cut = whole 0
heads_covering HalfEllipsoid d l h cut =
    let n = cut.levels in slabs_of pi_covering d l h n (sum n (larger_face (chord_square (n * d)) (n * d * (n * d)) d h n))
heads_covering SphericalCap d l h cut = both_domes (cut_covering d l h cut.levels cut.lengths)

-- spherical caps: the difference of the two 1 mm totals of both domes, and 1 v
unfoldable pub heads_tolerance : HeadKind → (d l h : ℕ) → ℕ
heads_tolerance Flat d l h = 0
heads_tolerance HalfEllipsoid d l h = 0
heads_tolerance SphericalCap d l h = 2 * dome_covering d l h - 2 * dome_fitting d l h + cubic_per_v
