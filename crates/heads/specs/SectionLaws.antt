-- The slabs of a pair of heads against the polynomial of its volume: the fitting sections, added up, stay below it and the
-- covering ones above it. No film is needed, since each slab bounds the polynomial's growth over its own height. Assumes
-- nothing.
use Rattle.std.specs.Prelude.{ℕ, suc, ◌+◌, ◌*◌, ◌≤◌, ◌<◌, ◌≡◌}
use Rattle.std.proofs.Math.Nat.{le_dest}
use Rattle.std.proofs.Common.{mul-le-mul, mul-le-mul_left, mul_comm, add-one, arith}
use Rattle.laws.specs.Sum.{sum}
use Rattle.laws.specs.SumLaws.{sum_below, sum_above, sum_scale}
use Rattle.circle.specs.Circle.{chord_square}
use Rattle.slabs.specs.Slab.{smaller_face, larger_face}
use Rattle.slabs.specs.FaceLaws.{smaller_le_lower, smaller_le_upper, larger_face_law}
use Rattle.heads.specs.PolynomialLaws.{polynomial, polynomial_empty, polynomial_scale, polynomial_step, below_middle, above_middle, at_middle}

abbrev fitting : (d h n i : ℕ) → ℕ
fitting d h n = smaller_face (chord_square (n * d)) h

abbrev covering : (d h n i : ℕ) → ℕ
covering d h n = larger_face (chord_square (n * d)) (n * d * (n * d)) d h n

module _ (d h n : ℕ) (h_high : h ≤ d) where
  -- the circle above slab i
  above : (i : ℕ) → i < n → (r : ℕ) × (h * (i + 1) + r ≡ n * d)
  above i l = le_dest (rw (mul_comm n d) (mul-le-mul h_high (rw add-one l)))

  fitting_step : (i : ℕ) → i < n → 4 * polynomial (n * d) (h * i) + 6 * h * fitting d h n i ≤ 4 * polynomial (n * d) (h * suc i)
  fitting_step i l =
      let (r, top) = above i l in
      let s = chord_square (n * d) in
      rw (← add-one i) (omega (
        arith,
        polynomial_step (n * d) (h * i) (h * (i + 1)) h r (omega arith) top,
        mul-le-mul_left h (smaller_le_lower s h i),
        mul-le-mul_left h (smaller_le_upper s h i),
      ))

  covering_step : (i : ℕ) → i < n → 4 * polynomial (n * d) (h * suc i) ≤ 4 * polynomial (n * d) (h * i) + 6 * h * covering d h n i
  covering_step i l =
      let (r, top) = above i l in
      let m = n * d in
      let a = h * i in
      let b = h * (i + 1) in
      let s = chord_square m in
      let up : a + h ≡ b = omega arith in
      let sections = larger_face_law (λ z. 3 * s a + 3 * s b + 4 * (h * h) ≤ 6 * z) s (m * m) d h n i
      (λ low high. at_middle m a b h r up top)
      (λ low. omega (arith, below_middle m a b h r up top low))
      (λ high. omega (arith, above_middle m a b h r up top high)) in
      rw (← add-one i) (omega (arith, polynomial_step m a b h r up top, mul-le-mul_left h sections))

  pub heads_fit : 3 * (h * sum n (fitting d h n)) ≤ 2 * (n * n * n * polynomial d h)
  heads_fit =
      omega (
        arith,
        rw (sum_scale n (6 * h) (fitting d h n), polynomial_scale n d h) at
            (sum_below n (λ i. 6 * h * fitting d h n i) (λ i. 4 * polynomial (n * d) (h * i)) fitting_step),
      )

  pub heads_cover : 2 * (n * n * n * polynomial d h) ≤ 3 * (h * sum n (covering d h n))
  heads_cover =
      omega (
        arith,
        polynomial_empty (n * d) h,
        rw (sum_scale n (6 * h) (covering d h n), polynomial_scale n d h) at
            (sum_above n (λ i. 6 * h * covering d h n i) (λ i. 4 * polynomial (n * d) (h * i)) covering_step),
      )
