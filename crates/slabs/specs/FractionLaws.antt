-- The order and the sum of fractions are those of what the fractions stand for: a fraction that is at most another and at least it is
-- the same, whole numbers keep their order and their sum, and sums keep the order. Assumes nothing.
use Rattle.std.specs.Prelude.{ℕ, ◌+◌, ◌*◌, ◌≤◌, ◌<◌}
use Rattle.std.proofs.Common.{le_antisymm, mul-le-mul_left, mul-pos, arith}
use Rattle.slabs.specs.Fraction.{Fraction, whole, ◌⊕◌, ◌⊑◌, ◌≃◌}

pub whole_order : (m n : ℕ) → whole m ⊑ whole n → m ≤ n
whole_order m n l = omega arith

pub same_both_ways : (a b : Fraction) → a ⊑ b → b ⊑ a → a ≃ b
same_both_ways a b l m = le_antisymm l m

pub sums_keep_order : (a b a' b' : Fraction) → a ⊑ b → a' ⊑ b' → a ⊕ a' ⊑ b ⊕ b'
sums_keep_order a b a' b' l m =
    omega (arith, mul-le-mul_left (a'.under * b'.under) l, mul-le-mul_left (a.under * b.under) m)

-- over one denominator the sum is that of what stands over it
pub sum_over_one : (m n under : ℕ) → record { over = m; under = under } ⊕ record { over = n; under = under } ≃ record { over = m + n; under = under }
sum_over_one m n under = omega arith

-- fractions with a denominator above 0, which alone stand for numbers
pub under_of_sum : (a b : Fraction) → 0 < a.under → 0 < b.under → 0 < (a ⊕ b).under
under_of_sum a b p q = mul-pos p q
