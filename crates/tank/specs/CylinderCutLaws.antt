-- A cylinder's slabs against each other: fitting slabs total no more than covering slabs of the same cut, the two totals close in on
-- each other as their number grows, and cut finer the slabs fit no less. Assumes nothing.
use Rattle.std.specs.Prelude.{ℕ, ◌+◌, ◌*◌}
use Rattle.std.proofs.Math.Nat.{mul-le-mul_left, mul_assoc}
use Rattle.std.proofs.Common.{mul_comm}
use native.Mathlib.Omega.{arith}
use Rattle.circle.specs.Circle.{chord, chord_up}
use Rattle.circle.proofs.ChordLaws.{rises, falls, chord_mono, chord_widest, chord_between, chord_at_middle, chord_finer, chord_up_near}
use Rattle.slabs.specs.Fraction.{◌⊕◌, ◌⊑◌}
use Rattle.slabs.specs.CutLaws.{Measures}
use Rattle.slabs.proofs.CutLaws.{faces_fit_under, faces_close, faces_refine}
use Rattle.tank.specs.Slabs.{cylinder_fitting, cylinder_covering}

widths : (d n : ℕ) → Measures d n 1 (n * d) (chord (n * d)) (chord_up (n * d))
widths d n = record {
  no_less = λ k. (chord_up_near (n * d) k).0;
  near = λ k. (chord_up_near (n * d) k).1;
  rising = λ a b l m. chord_mono (n * d) a b (rises (n * d) a b l (omega arith));
  falling = λ a b l m. chord_mono (n * d) b a (falls (n * d) a b l (omega arith));
  widest = chord_widest (n * d);
  at_middle = chord_at_middle (n * d);
}

module _ (d l h n : ℕ) where
  pub cylinder_fits_under : cylinder_fitting d l h n ⊑ cylinder_covering d l h n
  unfolding cylinder_fitting cylinder_covering
  cylinder_fits_under = omega (arith, mul-le-mul_left (l * h * (n * n)) (faces_fit_under d h n 1 (n * d) _ _ (widths d n)))

  -- covering slabs total more by at most (3D + 1)·L·H / N
  pub cylinder_closes : cylinder_covering d l h n ⊑ cylinder_fitting d l h n ⊕ record { over = (3 * d + 1) * l * h; under = n }
  unfolding cylinder_fitting cylinder_covering
  cylinder_closes = omega (arith, mul-le-mul_left (l * h * (n * n * n)) (faces_close d h n 1 (n * d) _ _ (widths d n)))

  pub cylinder_refines : (k : ℕ) → cylinder_fitting d l h n ⊑ cylinder_fitting d l h (n * k)
  unfolding cylinder_fitting
  cylinder_refines k =
      omega (
        arith,
        mul-le-mul_left (l * h * (n * n))
            (faces_refine h n k k (chord (n * d)) (chord (n * k * d))
            (λ x. rw (mul_comm n k, mul_assoc k n d) (chord_finer k (n * d) x))
            (chord_between (n * k * d))),
      )
