-- The widths of a cylinder's slab against the levels that it contains: a fitting width is at most the chord at each of them, a covering
-- width at least. Assumes nothing.
use Rattle.std.specs.Prelude.{ℕ, ◌+◌, ◌*◌, ◌≤◌, ◌<◌}
use Rattle.std.proofs.Common.{le_trans, arith}
use Rattle.std.proofs.Math.Nat.{le-max_left, le-max_right}
use Rattle.circle.specs.Circle.{chord, chord_up}
use Rattle.circle.proofs.ChordLaws.{rises, falls, chord_between, chord_widest, chord_le_chord_up}
use Rattle.slabs.specs.Slab.{smaller_face, larger_face}
use Rattle.slabs.specs.FaceLaws.{larger_face_law}

-- slab i and the level j above its lower face
module _ (d h n i j : ℕ) (inside : j < h) where
  pub fitting_le_chord : smaller_face (chord (n * d)) h i ≤ chord (n * d) (i * h + j)
  unfolding smaller_face
  fitting_le_chord = chord_between (n * d) (h * i) (i * h + j) (h * (i + 1)) (omega arith) (omega arith)

  pub chord_le_covering : chord (n * d) (i * h + j) ≤ larger_face (chord_up (n * d)) (n * d) d h n i
  chord_le_covering =
      let m = n * d in
      let k = i * h + j in
      larger_face_law (λ w. chord m k ≤ w) (chord_up m) m d h n i
      (λ low high. chord_widest m k)
      (λ low.
      le_trans (chord_le_chord_up m k (h * (i + 1)) (rises m k (h * (i + 1)) (omega arith) (omega arith))) (le-max_right _ _))
      (λ high. le_trans (chord_le_chord_up m k (h * i) (falls m (h * i) k (omega arith) (omega arith))) (le-max_left _ _))
