-- The slabs of a pair of heads against each other: fitting slabs total no more than covering slabs of the same cut, the two totals close
-- in on each other as their number grows, up to the difference of their two values of pi, and cut finer the slabs fit no less. Assumes
-- nothing.
use Rattle.std.specs.Prelude.{ℕ, ◌+◌, ◌*◌, ◌≤◌, ◌<◌}
use Rattle.std.proofs.Common.{sym, le_refl, le_of_eq, mul_comm}
use Rattle.std.proofs.Math.Nat.{mul-le-mul_left, mul_assoc, mul-pos}
use native.Mathlib.Omega.{arith}
use Rattle.laws.specs.Sum.{sum}
use Rattle.laws.specs.SumLaws.{sum_at_most}
use Rattle.circle.specs.Circle.{chord_square}
use Rattle.circle.proofs.ChordLaws.{rises, falls, widest, square_between, square_at_middle, chord_square_scale}
use Rattle.slabs.specs.Fraction.{Fraction, whole, ◌⊕◌, ◌⊑◌}
use Rattle.slabs.specs.Slab.{Cut, Some, smaller_face}
use Rattle.slabs.specs.FaceLaws.{smaller_le_lower}
use Rattle.slabs.specs.CutLaws.{Measures}
use Rattle.slabs.proofs.CutLaws.{faces_fit_under, faces_close, faces_refine}
use Rattle.domes.specs.Dome.{cut_fitting, cut_covering}
use Rattle.domes.proofs.TotalLaws.{cut_fits_under}
use Rattle.domes.proofs.CutLaws.{cut_refines, cut_closes}
use Rattle.heads.specs.declared.kind.HeadKind.{HeadKind}
use Rattle.heads.specs.declared.kind.HeadKind.TheVariants.{Flat, HalfEllipsoid, SphericalCap}
use Rattle.heads.specs.LengthLaws.{HeadLimits, cap_limits}
use Rattle.heads.specs.Slabs.{pi_unit, pi_covering, slabs_of, heads_fitting, heads_covering}

-- sections are not rounded
sections : (d n : ℕ) → Measures d n 0 (n * d * (n * d)) (chord_square (n * d)) (chord_square (n * d))
sections d n = record {
  no_less = λ k. le_refl _;
  near = λ k. omega arith;
  rising = λ a b l m. rises (n * d) a b l (omega arith);
  falling = λ a b l m. falls (n * d) a b l (omega arith);
  widest = widest (n * d);
  at_middle = λ k e. le_of_eq (sym (square_at_middle (n * d) k e));
}

module _ (d h n : ℕ) where
  fitting : ℕ
  fitting = sum n (smaller_face (chord_square (n * d)) h)

  fitting_at_most : fitting ≤ n * (n * d * (n * d))
  unfolding fitting
  fitting_at_most =
      sum_at_most n (n * d * (n * d)) (smaller_face (chord_square (n * d)) h)
      (λ i inside. omega (arith, smaller_le_lower (chord_square (n * d)) h i, widest (n * d) (h * i)))

module _ (d l h : ℕ) (cut : Cut) where
  pub heads_fit_under : (kind : HeadKind) → HeadLimits kind d l → Some cut → heads_fitting kind d l h cut ⊑ heads_covering kind d l h cut
  unfolding heads_fitting heads_covering slabs_of
  heads_fit_under Flat limits some = omega arith
  heads_fit_under HalfEllipsoid limits some =
      let n = cut.levels in
      omega (arith, mul-le-mul_left (l * h * d * (n * n * n)) (faces_fit_under d h n 0 (n * d * (n * d)) _ _ (sections d n)))
  heads_fit_under SphericalCap limits some =
      omega (arith, cut_fits_under d l h cut.lengths cut.levels (cap_limits d l limits) limits.low some.1 some.0)

  -- by how much covering slabs may total more: half-ellipsoids L·H·D·(1 + 3·pi_covering / N) / (2·pi_unit), where the 1 is that of the two values
  -- of pi; spherical caps 2·L·H·(D/M + 1 + 3D/N), where the 1 is the rounding of each width
  abbrev closeness : HeadKind → Fraction
  closeness Flat = whole 0
  closeness HalfEllipsoid = let n = cut.levels in record { over = l * h * d * (n + 3 * pi_covering); under = 2 * pi_unit * n }
  closeness SphericalCap =
      let n = cut.levels in
      let m = cut.lengths in
      record { over = 2 * (h * (l * (n * d + m * (n + 3 * d)))); under = n * m }

  pub heads_close : (kind : HeadKind) → HeadLimits kind d l → Some cut → heads_covering kind d l h cut ⊑ heads_fitting kind d l h cut ⊕ closeness kind
  unfolding heads_fitting heads_covering slabs_of fitting
  heads_close Flat limits some = omega arith
  heads_close HalfEllipsoid limits some =
      let n = cut.levels in
      omega (
        arith,
        mul-le-mul_left (l * h * d * (n * n * n) * n) (faces_close d h n 0 (n * d * (n * d)) _ _ (sections d n)),
        mul-le-mul_left (l * h * d * (n * n * n) * n) (fitting_at_most d h n),
      )
  heads_close SphericalCap limits some =
      omega (arith, cut_closes d l h cut.levels cut.lengths (cap_limits d l limits) limits.low some.1 some.0)

  -- cut into a times as many levels and b times as many lengths
  abbrev finer : (a b : ℕ) → Cut
  finer a b = record { levels = cut.levels * a; lengths = cut.lengths * b }

  pub heads_refine : (kind : HeadKind) (a b : ℕ) → HeadLimits kind d l → Some (finer a b)
      → heads_fitting kind d l h cut ⊑ heads_fitting kind d l h (finer a b)
  unfolding heads_fitting slabs_of
  heads_refine Flat a b limits some = omega arith
  heads_refine HalfEllipsoid a b limits some =
      let n = cut.levels in
      omega (
        arith,
        mul-le-mul_left (l * h * d * (n * n * n))
            (faces_refine h n a (a * a) (chord_square (n * d)) (chord_square (n * a * d))
            (λ x. rw (mul_comm n a, mul_assoc a n d) (le_of_eq (sym (chord_square_scale a (n * d) x))))
            (square_between (n * a * d))),
      )
  heads_refine SphericalCap a b limits some =
      omega (arith, cut_refines d l h cut.levels cut.lengths a b (cap_limits d l limits) limits.low some.1 some.0)

  pub heads_under : (kind : HeadKind) → 0 < d → Some cut → (0 < (heads_fitting kind d l h cut).under) × (0 < (heads_covering kind d l h cut).under)
  unfolding heads_fitting heads_covering slabs_of cut_fitting cut_covering
  heads_under Flat some-d some = (omega arith, omega arith)
  heads_under HalfEllipsoid some-d some =
      let n = cut.levels in
      let under : 0 < 2 * pi_unit * d * (n * n * n) = mul-pos (omega arith) (mul-pos (mul-pos some.0 some.0) some.0) in
      (under, under)
  heads_under SphericalCap some-d some = (mul-pos some.0 some.1, mul-pos some.0 some.1)
