-- Parts turned over. Every part's volume is rounded from its exact one. Before that the volumes of a cylinder, or of half-ellipsoid heads, at two mirrored
-- heights are together the full one, exactly, and after it within 1 v. Assumes nothing.
use Rattle.std.specs.Prelude.{ℕ, ◌+◌, ◌*◌, ◌-◌, ◌≤◌, ◌<◌, ◌≡◌, refl, true}
use Rattle.std.proofs.Common.{sym, ◌∙◌, ap, add-mul, arith}
use Rattle.laws.specs.BoolLaws.{true_not_false}
use Rattle.laws.specs.Nearest.{nearest}
use Rattle.laws.proofs.NearestLaws.{nearest_of_sum, nearest_of_multiple}
use Rattle.slabs.specs.Fraction.{◌⊕◌, ◌≃◌}
use Rattle.slabs.specs.FractionLaws.{sum_over_one}
use Rattle.circle.specs.Circle.{doubled_area}
use Rattle.circle.proofs.MirrorLaws.{areas_mirrored}
use Rattle.heads.specs.declared.kind.HeadKind.TheVariants.{Flat, HalfEllipsoid, SphericalCap}
use Rattle.heads.specs.Volume.{heads_volume}
use Rattle.tank.specs.Part.{Shape, cylinder, head_pair, cylinder_volume, shape_volume}
use Rattle.mirror.specs.Exact.{exact_heads, exact_volume}
use Rattle.mirror.specs.Mirrored.{shape_mirrors, Around}

-- the volume in use is the nearest v to the exact one
pub rounded_from_exact : (s : Shape) (d l h : ℕ) → shape_volume s d l h ≡ nearest (exact_volume s d l h).over (exact_volume s d l h).under
unfolding cylinder_volume heads_volume
rounded_from_exact cylinder d l h = refl
rounded_from_exact (head_pair Flat) d l h = sym (nearest_of_multiple 0 1 (omega arith))
rounded_from_exact (head_pair HalfEllipsoid) d l h = refl
rounded_from_exact (head_pair SphericalCap) d l h = refl

-- its denominator is above 0, and the same at every height
pub exact_under : (s : Shape) (d l h : ℕ) → 0 < d → 0 < (exact_volume s d l h).under
exact_under cylinder d l h some = omega arith
exact_under (head_pair Flat) d l h some = omega arith
exact_under (head_pair HalfEllipsoid) d l h some = omega arith
exact_under (head_pair SphericalCap) d l h some = omega arith

same_under : (s : Shape) (d l h h' : ℕ) → (exact_volume s d l h).under ≡ (exact_volume s d l h').under
same_under cylinder d l h h' = refl
same_under (head_pair Flat) d l h h' = refl
same_under (head_pair HalfEllipsoid) d l h h' = refl
same_under (head_pair SphericalCap) d l h h' = refl

module _ (d l h r : ℕ) (e : h + r ≡ d) where
  -- h²(h + 3r) + r²(r + 3h) is (h + r)³
  half_ellipsoids_over : (exact_heads HalfEllipsoid d l h).over + (exact_heads HalfEllipsoid d l r).over ≡ (exact_heads HalfEllipsoid d l d).over
  half_ellipsoids_over =
      let factor-h : 3 * d - 2 * h ≡ h + 3 * r = omega arith in
      let factor-r : 3 * d - 2 * r ≡ r + 3 * h = omega arith in
      let factor-d : 3 * d - 2 * d ≡ h + r = omega arith in
      rw (factor-h, factor-r, factor-d, ← e) (omega arith)

  over_mirrored : (s : Shape) → shape_mirrors s ≡ true → (exact_volume s d l h).over + (exact_volume s d l r).over ≡ (exact_volume s d l d).over
  over_mirrored cylinder m = sym (add-mul (doubled_area d h) (doubled_area d r) l) ∙ ap (λ (n : ℕ). n * l) (areas_mirrored d h r e)
  over_mirrored (head_pair Flat) m = refl
  over_mirrored (head_pair HalfEllipsoid) m = half_ellipsoids_over
  over_mirrored (head_pair SphericalCap) m = absurd (true_not_false (sym m))

  -- before rounding two mirrored heights are the full part, exactly: a shell, flanges, and heads of kind 0 or 1
  pub exact_mirrored : (s : Shape) → shape_mirrors s ≡ true → exact_volume s d l h ⊕ exact_volume s d l r ≃ exact_volume s d l d
  exact_mirrored s m =
      rw (same_under s d l h d, same_under s d l r d, ← over_mirrored s m)
      (sum_over_one (exact_volume s d l h).over (exact_volume s d l r).over (exact_volume s d l d).under)

  -- and after it the full part give or take 1 v
  pub volume_mirrored : (s : Shape) → shape_mirrors s ≡ true → 0 < d → Around 1 (shape_volume s d l h) (shape_volume s d l r) (shape_volume s d l d)
  volume_mirrored s m some =
      let near = nearest_of_sum (exact_volume s d l h).over (exact_volume s d l r).over (exact_volume s d l d).under (exact_under s d l d some) in
      rw (rounded_from_exact s d l h, rounded_from_exact s d l r, rounded_from_exact s d l d, same_under s d l h d, same_under s d l r d, ← over_mirrored s m)
      (record { at_most = near.0; at_least = near.1 })

-- E7, second law: half-ellipsoid heads filled to H, and filled to D - H, hold together what full ones do, before rounding
pub half_ellipsoids_mirrored : (d l h : ℕ) → h ≤ d
    → exact_heads HalfEllipsoid d l h ⊕ exact_heads HalfEllipsoid d l (d - h) ≃ exact_heads HalfEllipsoid d l d
half_ellipsoids_mirrored d l h high = exact_mirrored d l h (d - h) (omega arith) (head_pair HalfEllipsoid) refl
