-- Document 01, 'Slabs', read off in numbers that were worked out from its words, in exact fractions, and not from these definitions:
-- slabs of a cylinder and of a pair of heads, both values of pi, the totals and the tolerance of a small tank, and the gross rows next to
-- which condition 3 stops being true. The second program meets the same (reference/tests/slabs.rs). A claim made easier than the paper's
-- fails here. Assumes nothing.
use Rattle.std.specs.Prelude.{ℕ, zero, suc, ◌*◌, refl, List, [], ◌∷◌}
use Rattle.std.proofs.Common.{not-le_of_lt, leb-true, leb-false}
use Rattle.laws.specs.Root.{root, root_up}
use Rattle.laws.specs.Sum.{sum}
use Rattle.measure.specs.Quantity.{diameter}
use Rattle.correction.specs.Correction.{corrected_height}
use Rattle.circle.specs.Circle.{chord, chord_square, chord_up}
use Rattle.slabs.specs.Fraction.{whole, ◌⊕◌, ◌⊑◌}
use Rattle.slabs.specs.Slab.{Cut, contains_middle, smaller_face, larger_face}
use Rattle.heads.specs.declared.kind.HeadKind.TheVariants.{Flat, HalfEllipsoid}
use Rattle.heads.specs.Slabs.{pi_unit, pi_fitting, pi_covering, slabs_of, heads_fitting, heads_covering, heads_tolerance}
use Rattle.tank.specs.declared.tank.Tank.{Tank}
use Rattle.tank.specs.Part.{Filled}
use Rattle.tank.specs.Tank.{parts_of, filled_at}
use Rattle.tank.specs.Slabs.{cylinder_fitting, cylinder_covering, fitting_of, covering_of, fitting_total, covering_total, film_of, film, tolerance_of, added, tolerance}
use Rattle.tank.specs.Condition3.{Condition3}
use Rattle.cases.specs.Reading.{Reading, ◌reads◌, ◌per◌, ◌comes_to◌, Holds}
use Rattle.cases.specs.HoldLaws.{all_hold}

-- cut into so many levels, as a half-ellipsoid is
abbrev pub levels : ℕ → Cut
levels n = record { levels = n; lengths = 1 }

-- diameter, length, height and count of slabs: even and odd diameters, no height, all of it, and less; with H = D two slabs touch the
-- middle and the second of three contains it
abbrev pub slab_readings : List Reading
slab_readings =
    (1 per 3 ⊕ 1 per 6 comes_to 1 per 2)
    ∷ (whole 7 comes_to 14 per 2)
    ∷ (root_up 35 reads 6)
    ∷ (root_up 36 reads 6)
    ∷ (root_up 37 reads 7)
    ∷ (cylinder_fitting 10 3 10 1 comes_to 0 per 1)
    ∷ (cylinder_covering 10 3 10 1 comes_to 300 per 1)
    ∷ (cylinder_fitting 10 3 10 2 comes_to 0 per 4)
    ∷ (cylinder_covering 10 3 10 2 comes_to 1200 per 4)
    ∷ (cylinder_fitting 10 3 10 3 comes_to 840 per 9)
    ∷ (cylinder_covering 10 3 10 3 comes_to 2640 per 9)
    ∷ (cylinder_fitting 11 3 11 1 comes_to 0 per 1)
    ∷ (cylinder_covering 11 3 11 1 comes_to 363 per 1)
    ∷ (cylinder_fitting 11 3 11 2 comes_to 0 per 4)
    ∷ (cylinder_covering 11 3 11 2 comes_to 1452 per 4)
    ∷ (cylinder_fitting 11 3 11 3 comes_to 1023 per 9)
    ∷ (cylinder_covering 11 3 11 3 comes_to 3201 per 9)
    ∷ (cylinder_fitting 10 3 7 3 comes_to 1092 per 9)
    ∷ (cylinder_covering 10 3 7 3 comes_to 1806 per 9)
    ∷ (cylinder_fitting 11 3 5 2 comes_to 270 per 4)
    ∷ (cylinder_covering 11 3 5 2 comes_to 615 per 4)
    ∷ (cylinder_fitting 10 3 0 3 comes_to 0 per 9)
    ∷ (cylinder_covering 10 3 0 3 comes_to 0 per 9)
    ∷ (pi_fitting * 10000000 reads 31415926 * pi_unit)
    ∷ (pi_covering * 10000000 reads 31415927 * pi_unit)
    ∷ (heads_fitting HalfEllipsoid 10 4 10 (levels 1) comes_to 0 per 1)
    ∷ (heads_covering HalfEllipsoid 10 4 10 (levels 1) comes_to 31415927 per 50000)
    ∷ (heads_fitting HalfEllipsoid 10 4 10 (levels 2) comes_to 0 per 1)
    ∷ (heads_covering HalfEllipsoid 10 4 10 (levels 2) comes_to 31415927 per 50000)
    ∷ (heads_fitting HalfEllipsoid 10 4 10 (levels 3) comes_to 15707963 per 84375)
    ∷ (heads_covering HalfEllipsoid 10 4 10 (levels 3) comes_to 31415927 per 54000)
    ∷ (heads_fitting HalfEllipsoid 11 4 11 (levels 1) comes_to 0 per 1)
    ∷ (heads_covering HalfEllipsoid 11 4 11 (levels 1) comes_to 3801327167 per 5000000)
    ∷ (heads_fitting HalfEllipsoid 11 4 11 (levels 2) comes_to 0 per 1)
    ∷ (heads_covering HalfEllipsoid 11 4 11 (levels 2) comes_to 3801327167 per 5000000)
    ∷ (heads_fitting HalfEllipsoid 11 4 11 (levels 3) comes_to 1900663523 per 8437500)
    ∷ (heads_covering HalfEllipsoid 11 4 11 (levels 3) comes_to 3801327167 per 5400000)
    ∷ (heads_fitting HalfEllipsoid 11 4 6 (levels 2) comes_to 141371667 per 859375)
    ∷ (heads_covering HalfEllipsoid 11 4 6 (levels 2) comes_to 20451768477 per 55000000)
    ∷ (heads_fitting HalfEllipsoid 10 4 0 (levels 3) comes_to 0 per 1)
    ∷ (heads_covering HalfEllipsoid 10 4 0 (levels 3) comes_to 0 per 1)
    ∷ (heads_fitting Flat 10 0 10 (levels 3) comes_to 0 per 1)
    ∷ (heads_covering Flat 10 0 10 (levels 3) comes_to 0 per 1)
    ∷ []

pub slab_readings_hold : Holds slab_readings
unfolding root root_up sum chord chord_square chord_up contains_middle smaller_face larger_face cylinder_fitting cylinder_covering slabs_of heads_fitting heads_covering
slab_readings_hold = all_hold slab_readings refl

pub order_reads : (2 per 6 ⊑ 1 per 3) × ((1 per 2 ⊑ 499 per 999) → ⊥)
order_reads = (leb-true _ _ refl, not-le_of_lt (leb-false _ _ refl))

-- a small tank, half full: D1 60,000, L1 100,000, D2 59,000, L2 500, L3 15,000
abbrev small_tank : Tank
small_tank = record { kind = HalfEllipsoid; dh = diameter 60000; d1 = diameter 60000; d2 = diameter 59000; l1 = 100000; l2 = 500; l3 = 15000 }

abbrev parts : List Filled
parts = filled_at small_tank 30000

-- three slabs of the shell, two of the flanges, one of the heads
abbrev cuts : ℕ → Cut
cuts zero = levels 3
cuts (suc zero) = levels 2
cuts (suc (suc k)) = levels 1

abbrev pub tank_readings : List Reading
tank_readings =
    (fitting_total parts cuts comes_to 306129953750000 per 3)
    ∷ (covering_total parts cuts comes_to 611771422997875 per 3)
    ∷ (tolerance parts reads 48177000000)
    ∷ []

pub tank_readings_hold : Holds tank_readings
unfolding root root_up sum chord chord_square chord_up contains_middle smaller_face larger_face cylinder_fitting cylinder_covering slabs_of heads_fitting heads_covering fitting_of covering_of fitting_total covering_total film_of film heads_tolerance tolerance_of added tolerance parts_of filled_at corrected_height
tank_readings_hold = all_hold tank_readings refl

-- with these slabs condition 3 is true of a gross row of 10,200 to 20,397 v, and of no other
pub edges : (Condition3 parts 10200 cuts × Condition3 parts 20397 cuts) × ((Condition3 parts 10199 cuts → ⊥) × (Condition3 parts 20398 cuts → ⊥))
unfolding root root_up sum chord chord_square chord_up contains_middle smaller_face larger_face cylinder_fitting cylinder_covering slabs_of heads_fitting heads_covering fitting_of covering_of fitting_total covering_total film_of film heads_tolerance tolerance_of added tolerance parts_of filled_at corrected_height
edges = (
  (record { fits = leb-true _ _ refl; covers = leb-true _ _ refl }, record { fits = leb-true _ _ refl; covers = leb-true _ _ refl }),
  (λ c. not-le_of_lt (leb-false _ _ refl) c.fits, λ c. not-le_of_lt (leb-false _ _ refl) c.covers),
)
