-- Document 02, E7, at its edges: with less than 3 v, or without one of its premises, what is proved of a table turned over would be false. The
-- tanks are so small across, and so long, that they can be worked out by hand. No survey has them; `gross_mirrored` speaks of every tank. Tables of
-- surveys are turned over by tests/turned_over.py. Assumes nothing.
use Rattle.std.specs.Prelude.{ℕ, ◌^◌, ◌*◌, refl, [], ◌∷◌, pos, nat_abs}
use Rattle.std.proofs.Common.{le_of_eq, not-le_of_lt, leb-true, leb-false}
use Rattle.laws.specs.Nearest.{nearest}
use Rattle.laws.specs.Root.{root, root_up, root_of, root_up_of}
use Rattle.laws.specs.Signed.{sumℤ}
use Rattle.laws.specs.Sum.{sum}
use Rattle.measure.specs.Quantity.{diameter}
use Rattle.circle.specs.Circle.{chord, chord_square, doubled_area}
use Rattle.correction.specs.Correction.{corrected_height}
use Rattle.slabs.specs.Fraction.{◌⊕◌, ◌≃◌}
use Rattle.slabs.specs.Slab.{contains_middle}
use Rattle.domes.specs.Width.{disc_square, width_over, fitting_width, covering_width}
use Rattle.domes.specs.Cell.{from_middle, farther, nearer, cell_fitting, cell_covering}
use Rattle.domes.specs.Dome.{in_cells, level_fitting, level_covering, dome_fitting, dome_covering}
use Rattle.heads.specs.declared.kind.HeadKind.{HeadKind}
use Rattle.heads.specs.declared.kind.HeadKind.TheVariants.{Flat, HalfEllipsoid, SphericalCap}
use Rattle.heads.specs.Volume.{heads_volume}
use Rattle.tank.specs.declared.tank.Tank.{Tank}
use Rattle.tank.specs.Part.{cylinder_volume, volume_of, gross}
use Rattle.tank.specs.Tank.{parts_of, filled_at, gross_at}
use Rattle.deadwood.specs.Item.{deadwood}
use Rattle.deadwood.specs.Share.{share_size, share, shares_of}
use Rattle.survey.specs.declared.decode.Survey.{Survey}
use Rattle.rows.specs.Rows.{net_at}
use Rattle.mirror.specs.Exact.{exact_heads}
use Rattle.mirror.specs.Mirrored.{Around}

-- DH is 2 u
abbrev tank : HeadKind → (d1 d2 l1 l2 l3 : ℕ) → Tank
tank kind d1 d2 l1 l2 l3 = record { kind = kind; dh = diameter 2; d1 = diameter d1; d2 = diameter d2; l1 = l1; l2 = l2; l3 = l3 }

-- 2 u across, the doubled area is 2 up to the middle and 4 in all. Shell, flanges and heads each hold 0.6 v at the middle, so 1 v, and twice
-- that when full, 1.2 v, so 1 v: twice 3 v against 3 v
abbrev off_by_three : Tank
off_by_three = tank HalfEllipsoid 2 2 6000000000 3000000000 2864788733

pub three_needed : Around 3 (gross_at off_by_three 1) (gross_at off_by_three 1) (gross_at off_by_three 2)
    × (Around 2 (gross_at off_by_three 1) (gross_at off_by_three 1) (gross_at off_by_three 2) → ⊥)
unfolding sum root chord chord_square doubled_area nearest corrected_height cylinder_volume heads_volume volume_of gross parts_of filled_at gross_at
three_needed = (record { at_most = leb-true _ _ refl; at_least = leb-true _ _ refl }, λ a. not-le_of_lt (leb-false _ _ refl) a.at_most)

-- 4 u across, the doubled area is 3, 10 and 17 up to levels 1, 2 and 3. Dipped at 1 the shell is filled to 2 and has 50 v, dipped at 2 it has 85 v
abbrev wide_shell : Tank
wide_shell = tank Flat 4 2 (10 ^ 11) 0 0

-- likewise the flanges
abbrev wide_flanges : Tank
wide_flanges = tank Flat 2 4 0 (5 * 10 ^ 10) 0

pub diameters_needed : (Around 3 (gross_at wide_shell 1) (gross_at wide_shell 1) (gross_at wide_shell 2) → ⊥)
    × (Around 3 (gross_at wide_flanges 1) (gross_at wide_flanges 1) (gross_at wide_flanges 2) → ⊥)
unfolding sum root chord chord_square doubled_area nearest corrected_height cylinder_volume heads_volume volume_of gross parts_of filled_at gross_at
diameters_needed = (λ a. not-le_of_lt (leb-false _ _ refl) a.at_most, λ a. not-le_of_lt (leb-false _ _ refl) a.at_most)

-- 100 v at the middle and 200 v when full, and an item below the middle that takes 10 v: twice 90 v against 190 v
abbrev with_deadwood : Survey
with_deadwood =
    record { tank = tank Flat 2 2 (10 ^ 12) 0 0; step = 1; deadwood = deadwood 0 1 (pos 10) ∷ [] }

pub no_deadwood_needed : Around 3 (nat_abs (net_at with_deadwood 1)) (nat_abs (net_at with_deadwood 1)) (nat_abs (net_at with_deadwood 2)) → ⊥
unfolding sum root chord chord_square doubled_area nearest corrected_height cylinder_volume heads_volume volume_of gross parts_of filled_at gross_at share_size share sumℤ shares_of net_at
no_deadwood_needed a = not-le_of_lt (leb-false _ _ refl) a.at_least

-- spherical caps 1.5 mm across have a level of 1 mm and one of 0.5 mm: filled to 0.5 mm and to 1 mm they hold, before rounding, not what full ones do
pub kind_needed : exact_heads SphericalCap 150 75 50 ⊕ exact_heads SphericalCap 150 75 100 ≃ exact_heads SphericalCap 150 75 150 → ⊥
unfolding sum root root_up root_of root_up_of contains_middle disc_square width_over fitting_width covering_width from_middle farther nearer cell_fitting cell_covering in_cells level_fitting level_covering dome_fitting dome_covering
kind_needed e = not-le_of_lt (leb-false _ _ refl) (le_of_eq e)
