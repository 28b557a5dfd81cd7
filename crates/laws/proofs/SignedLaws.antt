-- Laws of signed numbers: the sizes by which a sum, a difference or a floor half is seen to fit its type, finite sums, and what a test
-- for a sign tells. `mag` is the size of a number, less 1 below zero. Assumes nothing.
use Rattle.std.specs.Prelude.{ℕ, zero, suc, ◌+◌, ◌*◌, ◌-◌, ◌≤◌, ◌<◌, ◌≡◌, refl, true, false, ℤ, pos, negsuc, neg_ℤ, nat_abs, ◌+ℤ◌, ◌-ℤ◌}
use Rattle.std.proofs.Common.{sym, ◌∙◌, ap, add-zero, div-le_self, le_refl, le_trans, suc-mul, arith, ltb-true}
use Rattle.std.proofs.Math.IntN.{sub_ℕ}
use Rattle.std.specs.Int.Signed.{mag, lt_z}
use Rattle.laws.specs.OrderLaws.{by_order}
use Rattle.laws.specs.BoolLaws.{true_not_false}
use Rattle.laws.specs.Half.{floor_half}
use Rattle.laws.proofs.HalfLaws.{difference_up, difference_down}
use Rattle.laws.specs.Signed.{with_sign, sumℤ}

pub minus : (a b : ℕ) → pos a -ℤ pos b ≡ sub_ℕ a b
minus a zero = ap pos (add-zero a) ∙ sym (difference_up a 0 a (omega arith))
minus a (suc b) = refl

pub difference_size : (a b : ℕ) → mag (sub_ℕ a b) ≤ a + b
difference_size a b =
    by_order b a
    (λ l. rw (difference_up a b (a - b) (omega arith)) (omega arith))
    (λ l. rw (difference_down a b (b - a - 1) (omega arith)) (omega arith))

pub half_size : (z : ℤ) → mag (floor_half z) ≤ mag z
half_size (pos n) = div-le_self n 2
half_size (negsuc n) = div-le_self n 2

pub sum_size : (y z : ℤ) → mag (y +ℤ z) ≤ mag y + mag z + 1
sum_size (pos a) (pos b) = omega arith
sum_size (pos a) (negsuc b) = le_trans (difference_size a (suc b)) (omega arith)
sum_size (negsuc a) (pos b) = le_trans (difference_size b (suc a)) (omega arith)
sum_size (negsuc a) (negsuc b) = omega arith

pub negated_size : (z : ℤ) → mag (neg_ℤ z) ≤ mag z + 1
negated_size (pos zero) = omega arith
negated_size (pos (suc n)) = omega arith
negated_size (negsuc n) = omega arith

pub mag_at_most : (z : ℤ) → mag z ≤ nat_abs z
mag_at_most (pos n) = le_refl n
mag_at_most (negsuc n) = omega arith

pub nat_abs_at_most : (z : ℤ) → nat_abs z ≤ mag z + 1
nat_abs_at_most (pos n) = omega arith
nat_abs_at_most (negsuc n) = omega arith

pub sign_size : (z : ℤ) (n : ℕ) → mag (with_sign z n) ≤ n
sign_size (pos z) n = le_refl n
sign_size (negsuc z) zero = le_refl 0
sign_size (negsuc z) (suc n) = omega arith

pub sumℤ-zero : (f : ℕ → ℤ) → sumℤ 0 f ≡ pos 0
unfolding sumℤ
sumℤ-zero f = refl

pub sumℤ-suc : (n : ℕ) (f : ℕ → ℤ) → sumℤ (suc n) f ≡ sumℤ n f +ℤ f n
unfolding sumℤ
sumℤ-suc n f = refl

-- terms of a limited size add up to a limited size
pub sumℤ-size : (n limit : ℕ) (f : ℕ → ℤ) → ((i : ℕ) → i < n → mag (f i) ≤ limit) → mag (sumℤ n f) ≤ n * (limit + 1)
unfolding sumℤ
sumℤ-size zero limit f h = omega arith
sumℤ-size (suc n) limit f h =
    omega (arith, sum_size (sumℤ n f) (f n), sumℤ-size n limit f (λ i l. h i (omega arith)), h n (omega arith), suc-mul n (limit + 1))

-- what a test for a sign tells
pub negative : (z : ℤ) → lt_z z (pos 0) ≡ true → (n : ℕ) × (z ≡ negsuc n)
negative (pos n) h = absurd (omega (arith, ltb-true n 0 h))
negative (negsuc n) h = (n, refl)

pub natural : (z : ℤ) → lt_z z (pos 0) ≡ false → (n : ℕ) × (z ≡ pos n)
natural (pos n) h = (n, refl)
natural (negsuc n) h = absurd (true_not_false h)
