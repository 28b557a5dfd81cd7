-- The polynomial x²(3m - 2x) in the volume of half-ellipsoid heads of diameter m: the chord's square at two levels tells how it
-- grows from one to the other, so that it never falls up to level m, it scales with the diameter, and it never exceeds m³. Assumes
-- nothing.
use Rattle.std.specs.Prelude.{ℕ, ◌+◌, ◌*◌, ◌-◌, ◌≤◌, ◌<◌, ◌≡◌}
use Rattle.std.proofs.Math.Path.{refl}
use Rattle.std.proofs.Math.Nat.{le_dest, mul-sub}
use Rattle.std.proofs.Common.{mul-le-mul_left, mul-zero, zero-mul}
use native.Mathlib.Omega.{arith}
use Rattle.circle.specs.Circle.{chord_square}
use Rattle.circle.proofs.ChordLaws.{four_products}

unfoldable pub polynomial : ℕ → ℕ → ℕ
polynomial m x = x * x * (3 * m - 2 * x)

pub polynomial_empty : (m h : ℕ) → polynomial m (h * 0) ≡ 0
unfolding polynomial
polynomial_empty m h = rw (mul-zero h) (zero-mul (3 * m - 0))

pub polynomial_scale : (n d h : ℕ) → polynomial (n * d) (h * n) ≡ n * n * n * polynomial d h
unfolding polynomial
polynomial_scale n d h =
    let factor : 3 * (n * d) - 2 * (h * n) ≡ n * (3 * d) - n * (2 * h) = omega arith in
    rw (factor, ← mul-sub) (scale (3 * d - 2 * h))
  where
    scale : (u : ℕ) → h * n * (h * n) * (n * u) ≡ n * n * n * (h * h * u)
    scale u = omega arith

pub polynomial_at_most : (d h : ℕ) → h ≤ d → polynomial d h ≤ d * d * d
unfolding polynomial
polynomial_at_most d h l = go (le_dest l)
  where
    go : (t : ℕ) × (h + t ≡ d) → h * h * (3 * d - 2 * h) ≤ d * d * d
    go (t, p) =
        let factor : 3 * d - 2 * h ≡ h + 3 * t = omega arith in
        rw (factor, ← p) (omega arith)

-- levels a and b, t apart, in a circle that goes on for r above b
module _ (m a b t r : ℕ) (up : a + t ≡ b) (top : b + r ≡ m) where
  lower : chord_square m a ≡ 4 * (a * (t + r))
  unfolding chord_square
  lower = let rest : m - a ≡ t + r = omega arith in rw rest refl

  upper : chord_square m b ≡ 4 * ((a + t) * r)
  unfolding chord_square
  upper = let rest : m - b ≡ r = omega arith in rw (rest, up) refl

  pub polynomial_step : 4 * polynomial m b ≡ 4 * polynomial m a + t * (3 * chord_square m a + 3 * chord_square m b + 4 * (t * t))
  unfolding polynomial
  polynomial_step =
      let factor-a : 3 * m - 2 * a ≡ a + 3 * t + 3 * r = omega arith in
      let factor-b : 3 * m - 2 * b ≡ a + t + 3 * r = omega arith in
      rw (lower, upper, factor-a, factor-b, ← up) (omega arith)

  -- the larger section, or that of the middle, makes up for the growth between
  pub below_middle : 2 * b < m → chord_square m a + 4 * (t * t) ≤ chord_square m b
  below_middle l = rw (lower, upper) (omega (arith, mul-le-mul_left t below))
    where
      below : a + t ≤ r
      below = omega arith

  pub above_middle : m < 2 * a → chord_square m b + 4 * (t * t) ≤ chord_square m a
  above_middle l = rw (lower, upper) (omega (arith, mul-le-mul_left t above))
    where
      above : t + r ≤ a
      above = omega arith

  pub at_middle : 3 * chord_square m a + 3 * chord_square m b + 4 * (t * t) ≤ 6 * (m * m)
  at_middle = rw (lower, upper, ← top, ← up) (omega (arith, four_products a r))

pub polynomial_mono : (m a b : ℕ) → a ≤ b → b ≤ m → polynomial m a ≤ polynomial m b
polynomial_mono m a b l top =
    let (t, up) = le_dest l in
    let (r, rest) = le_dest top in
    omega (arith, polynomial_step m a b t r up rest)
