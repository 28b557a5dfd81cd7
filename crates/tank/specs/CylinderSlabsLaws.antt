-- A cylinder's slabs keep within three films and half a v of its volume, whatever their count. Slabs and table are compared
-- through the chords at all levels: fitting widths are at most the chords in their slab, covering widths at least. Assumes
-- nothing.
use Rattle.std.specs.Prelude.{ℕ, ◌+◌, ◌*◌, ◌/◌, ◌≤◌, ◌<◌}
use Rattle.std.proofs.Common.{mul-le-mul_left, arith}
use Rattle.laws.specs.Sum.{sum}
use Rattle.laws.specs.SumLaws.{blocks_at_least, blocks_at_most}
use Rattle.laws.proofs.NearestLaws.{nearest_above, nearest_below}
use Rattle.measure.specs.Quantity.{cubic_per_v}
use Rattle.circle.specs.Circle.{chord, doubled_area, chord_up}
use Rattle.slabs.specs.Slab.{smaller_face, larger_face}
use Rattle.tank.specs.WidthLaws.{fitting_le_chord, chord_le_covering}
use Rattle.slabs.specs.WithinLaws.{Within}
use Rattle.tank.specs.Part.{cylinder_volume}
use Rattle.tank.specs.Slabs.{cylinder_fitting, cylinder_covering}
use Rattle.tank.specs.LevelLaws.{levels_at_most, levels_at_least}

abbrev pub cylinder_slack : (d l : ℕ) → ℕ
cylinder_slack d l = 3 * (d * l) + cubic_per_v / 2

pub cylinder_within : (d l h n : ℕ) → h ≤ d → 0 < n
    → Within (cylinder_fitting d l h n) (cylinder_covering d l h n) (cylinder_volume d l h * cubic_per_v) (cylinder_slack d l)
unfolding cylinder_fitting cylinder_covering cylinder_volume
cylinder_within d l h n h_high some = record {
  fits =
      omega (
        arith,
        mul-le-mul_left l slabs_fit,
        mul-le-mul_left l (levels_at_most d h n some),
        mul-le-mul_left (n * n * l) h_high,
        mul-le-mul_left (n * n) (nearest_below (doubled_area d h * l) (2 * cubic_per_v) (omega arith)),
      );
  covers =
      omega (
        arith,
        mul-le-mul_left l slabs_cover,
        mul-le-mul_left l (levels_at_least d h n some),
        mul-le-mul_left (n * n) (nearest_above (doubled_area d h * l) (2 * cubic_per_v)),
      );
}
  where
    slabs_fit : h * sum n (smaller_face (chord (n * d)) h) ≤ sum (n * h) (chord (n * d))
    slabs_fit = blocks_at_least n h (smaller_face (chord (n * d)) h) (chord (n * d)) (fitting_le_chord d h n)

    slabs_cover : sum (n * h) (chord (n * d)) ≤ h * sum n (larger_face (chord_up (n * d)) (n * d) d h n)
    slabs_cover = blocks_at_most n h (larger_face (chord_up (n * d)) (n * d) d h n) (chord (n * d)) (chord_le_covering d h n)
