-- Sums over levels of a circle, s apart, that follow a quantity c up to the middle and down after it: where a term p exceeds its q by
-- no more than c gains below the middle, or loses above it, the sum of p exceeds that of q by no more than k, the bound of the one
-- term at the middle. Assumes nothing.
use Prim.Native.Nat.{ℕ, zero, suc, ◌+◌, ◌*◌, ◌≤◌, ◌<◌}
use Rattle.std.proofs.Math.Numerals.{add-one}
use native.Mathlib.Omega.{arith}
use Rattle.laws.specs.OrderLaws.{by_order}
use Rattle.laws.specs.Sum.{sum}

module _ (d s k : ℕ) (c p q : ℕ → ℕ)
    (rise : (y : ℕ) → 2 * (s * (y + 1)) ≤ d → p y + c y ≤ q y + c (y + 1))
    (turn : (y : ℕ) → 2 * (s * y) ≤ d → d < 2 * (s * (y + 1)) → p y + (c y + c (y + 1)) ≤ q y + k)
    (fall : (y : ℕ) → d < 2 * (s * y) → p y + c (y + 1) ≤ q y + c y) where
  before : (h : ℕ) → 2 * (s * h) ≤ d → sum h p ≤ sum h q + c h
  unfolding sum
  before zero l = omega arith
  before (suc h) l =
      let step = rw add-one at (rise h (omega arith)) in
      let so_far = before h (omega arith) in
      omega arith

  after : (h : ℕ) → d < 2 * (s * h) → sum h p + c h ≤ sum h q + k
  unfolding sum
  after zero l = absurd (omega arith)
  after (suc h) l =
      by_order (2 * (s * h)) d
      (λ low. omega (arith, before h low, rw add-one at (turn h low (omega arith))))
      (λ high. omega (arith, after h high, rw add-one at (fall h high)))

  pub sum_le_by_turn : (h : ℕ) → c h ≤ k → sum h p ≤ sum h q + k
  sum_le_by_turn h top = by_order (2 * (s * h)) d (λ low. omega (arith, before h low)) (λ high. omega (arith, after h high))
