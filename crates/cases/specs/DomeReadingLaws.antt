-- Document 02, E2, read off in numbers that were worked out from its words, in exact fractions, and not from these definitions: widths, the
-- 1 mm totals of a dome, full and filled in part, totals of other cuts, the row and the tolerance; and a small tank with spherical caps, with
-- the gross rows next to which condition 3 stops being true. Assumes nothing.
use Rattle.std.specs.Prelude.{ℕ, zero, suc, refl, List, [], ◌∷◌}
use Rattle.std.proofs.Common.{not-le_of_lt, leb-true, leb-false}
use Rattle.laws.specs.Nearest.{nearest}
use Rattle.laws.specs.Root.{root, root_up, root_of, root_up_of}
use Rattle.laws.specs.Sum.{sum}
use Rattle.measure.specs.Quantity.{diameter}
use Rattle.correction.specs.Correction.{corrected_height}
use Rattle.circle.specs.Circle.{chord, chord_square, chord_up}
use Rattle.slabs.specs.Slab.{Cut, contains_middle, smaller_face, larger_face}
use Rattle.domes.specs.Width.{disc_square, width_over, fitting_width, covering_width}
use Rattle.domes.specs.Cell.{from_middle, farther, nearer, cell_fitting, cell_covering}
use Rattle.domes.specs.Dome.{in_cells, level_fitting, level_covering, dome_fitting, dome_covering, cut_fitting, cut_covering}
use Rattle.heads.specs.declared.kind.HeadKind.TheVariants.{SphericalCap}
use Rattle.heads.specs.Volume.{heads_volume}
use Rattle.heads.specs.Slabs.{heads_fitting, heads_covering, heads_tolerance}
use Rattle.tank.specs.declared.tank.Tank.{Tank}
use Rattle.tank.specs.Part.{Filled}
use Rattle.tank.specs.Tank.{parts_of, filled_at}
use Rattle.tank.specs.Slabs.{cylinder_fitting, cylinder_covering, fitting_of, covering_of, fitting_total, covering_total, film_of, film, tolerance_of, added, tolerance}
use Rattle.tank.specs.Condition3.{Condition3}
use Rattle.cases.specs.Reading.{Reading, ◌reads◌, ◌per◌, ◌comes_to◌, Holds}
use Rattle.cases.specs.HoldLaws.{all_hold}

abbrev cut : (levels lengths : ℕ) → Cut
cut levels lengths = record { levels = levels; lengths = lengths }

-- the roots of 35, 36, 37 and 36.5; widths of a dome of diameter 1,000 and length 300 at its flange and its end; then diameter, length and
-- height: levels and lengths that are cut short, a row inside a level, the shortest dome, a hemisphere, an odd diameter
abbrev pub dome_readings : List Reading
dome_readings =
    (root_of 35 1 reads 5)
    ∷ (root_of 72 2 reads 6)
    ∷ (root_of 73 2 reads 6)
    ∷ (root_up_of 35 1 reads 6)
    ∷ (root_up_of 72 2 reads 6)
    ∷ (root_up_of 73 2 reads 7)
    ∷ (fitting_width 1000 300 1 1 0 0 reads 1000)
    ∷ (covering_width 1000 300 1 1 0 0 reads 1000)
    ∷ (fitting_width 1000 300 1 1 300 0 reads 0)
    ∷ (covering_width 1000 300 1 1 0 1000 reads 0)
    ∷ (dome_fitting 1000 300 450 reads 31705000)
    ∷ (dome_covering 1000 300 450 reads 84540000)
    ∷ (dome_fitting 1000 300 1000 reads 77920000)
    ∷ (dome_covering 1000 300 1000 reads 194160000)
    ∷ (dome_fitting 1050 250 1050 reads 62730000)
    ∷ (dome_covering 1050 250 1050 reads 171125000)
    ∷ (dome_fitting 1050 99 640 reads 0)
    ∷ (dome_covering 1050 99 640 reads 58667400)
    ∷ (dome_fitting 1001 500 1001 reads 182160000)
    ∷ (dome_covering 1001 500 1001 reads 334556400)
    ∷ (dome_fitting 800 1 800 reads 0)
    ∷ (dome_covering 800 1 800 reads 559600)
    ∷ (dome_fitting 1000 300 0 reads 0)
    ∷ (dome_covering 1000 300 0 reads 0)
    ∷ (cut_fitting 10 5 10 1 1 comes_to 0 per 1)
    ∷ (cut_covering 10 5 10 1 1 comes_to 500 per 1)
    ∷ (cut_fitting 10 5 10 2 3 comes_to 0 per 1)
    ∷ (cut_covering 10 5 10 2 3 comes_to 1400 per 3)
    ∷ (cut_fitting 11 4 11 3 2 comes_to 154 per 3)
    ∷ (cut_covering 11 4 11 3 2 comes_to 1276 per 3)
    ∷ (cut_fitting 11 4 6 2 2 comes_to 42 per 1)
    ∷ (cut_covering 11 4 6 2 2 comes_to 228 per 1)
    ∷ (heads_fitting SphericalCap 1000 500 1000 (cut 4 3) comes_to 675500000 per 3)
    ∷ (heads_covering SphericalCap 1000 500 1000 (cut 4 3) comes_to 2454500000 per 3)
    ∷ (heads_volume SphericalCap 6000 2000 2555 reads 2)
    ∷ (heads_tolerance SphericalCap 6000 2000 2555 reads 13982667000)
    ∷ (heads_volume SphericalCap 6000 3000 6000 reads 11)
    ∷ (heads_tolerance SphericalCap 6000 3000 6000 reads 21311520000)
    -- exact halves (E5): F + C is 245,000,000,000 cubic u, 24.5 v, and 195,000,000,000, 19.5 v
    ∷ (heads_volume SphericalCap 85800 100 37700 reads 24)
    ∷ (heads_volume SphericalCap 103200 100 29200 reads 20)
    ∷ []

pub dome_readings_hold : Holds dome_readings
unfolding nearest root root_up root_of root_up_of sum contains_middle disc_square width_over fitting_width covering_width from_middle farther nearer cell_fitting cell_covering in_cells level_fitting level_covering dome_fitting dome_covering cut_fitting cut_covering heads_volume heads_fitting heads_covering heads_tolerance
dome_readings_hold = all_hold dome_readings refl

-- a small tank, half full: D1 60,000, L1 100,000, D2 59,000, L2 500, L3 150
abbrev capped_tank : Tank
capped_tank = record { kind = SphericalCap; dh = diameter 60000; d1 = diameter 60000; d2 = diameter 59000; l1 = 100000; l2 = 500; l3 = 150 }

abbrev parts : List Filled
parts = filled_at capped_tank 30000

-- three slabs of the shell, two of the flanges, three levels and two lengths of the heads
abbrev cuts : ℕ → Cut
cuts zero = cut 3 1
cuts (suc zero) = cut 2 1
cuts (suc (suc k)) = cut 3 2

abbrev pub capped_readings : List Reading
capped_readings =
    (fitting_total parts cuts comes_to 306354301250000 per 3)
    ∷ (covering_total parts cuts comes_to 489853511500000 per 3)
    ∷ (tolerance parts reads 287089890000)
    ∷ []

pub capped_readings_hold : Holds capped_readings
unfolding root root_up root_of root_up_of sum chord chord_square chord_up contains_middle smaller_face larger_face cylinder_fitting cylinder_covering disc_square width_over fitting_width covering_width from_middle farther nearer cell_fitting cell_covering in_cells level_fitting level_covering dome_fitting dome_covering cut_fitting cut_covering heads_fitting heads_covering heads_tolerance fitting_of covering_of fitting_total covering_total film_of film tolerance_of added tolerance parts_of filled_at corrected_height
capped_readings_hold = all_hold capped_readings refl

-- with these cuts condition 3 is true of a gross row of 10,184 to 16,357 v, and of no other
pub capped_edges : (Condition3 parts 10184 cuts × Condition3 parts 16357 cuts) × ((Condition3 parts 10183 cuts → ⊥) × (Condition3 parts 16358 cuts → ⊥))
unfolding root root_up root_of root_up_of sum chord chord_square chord_up contains_middle smaller_face larger_face cylinder_fitting cylinder_covering disc_square width_over fitting_width covering_width from_middle farther nearer cell_fitting cell_covering in_cells level_fitting level_covering dome_fitting dome_covering cut_fitting cut_covering heads_fitting heads_covering heads_tolerance fitting_of covering_of fitting_total covering_total film_of film tolerance_of added tolerance parts_of filled_at corrected_height
capped_edges = (
  (record { fits = leb-true _ _ refl; covers = leb-true _ _ refl }, record { fits = leb-true _ _ refl; covers = leb-true _ _ refl }),
  (λ c. not-le_of_lt (leb-false _ _ refl) c.fits, λ c. not-le_of_lt (leb-false _ _ refl) c.covers),
)
