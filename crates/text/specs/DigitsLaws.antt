-- Laws of decimal digits: how they go on from those of a tenth, and how many there are. Assumes nothing.
use Rattle.std.specs.Prelude.{ℕ, zero, suc, ◌+◌, ◌/◌, ◌%◌, ◌^◌, ◌≤◌, ◌<◌, ◌≡◌, refl, List, [], ◌∷◌, ◌++◌, ℤ, pos, negsuc, length}
use Rattle.std.proofs.Common.{sym, ap, le_refl, pow-suc, arith, length-append}
use Rattle.laws.specs.OrderLaws.{by_order}
use Rattle.text.specs.Digits.{digit_of, significant, digits, hundredths, minus_of}

significant_none : (k : ℕ) → significant k 0 ≡ []
unfolding significant
significant_none zero = refl
significant_none (suc k) = refl

significant_enough : (j k n : ℕ) → n ≤ j → n ≤ k → significant j n ≡ significant k n
unfolding significant
significant_enough zero k zero hj hk = sym (significant_none k)
significant_enough (suc j) k zero hj hk = sym (significant_none k)
significant_enough zero k (suc n) hj hk = absurd (omega arith)
significant_enough (suc j) zero (suc n) hj hk = absurd (omega arith)
significant_enough (suc j) (suc k) (suc n) hj hk =
    ap (λ (l : List ℕ). l ++ digit_of (suc n % 10) ∷ []) (significant_enough j k (suc n / 10) (omega arith) (omega arith))

digits_significant : (k n : ℕ) → 0 < n → n ≤ k → significant k n ≡ digits n
unfolding significant digits
digits_significant k zero p h = absurd (omega arith)
digits_significant k (suc n) p h = significant_enough k (suc n) (suc n) h (le_refl (suc n))

-- one digit ..
pub digits_one : (n : ℕ) → n < 10 → digits n ≡ digit_of (n % 10) ∷ []
unfolding significant digits
digits_one zero h = refl
digits_one (suc n) h =
    let none : suc n / 10 ≡ 0 = omega arith in
    rw (none, significant_none n)

-- .. or those of a tenth, and the last
pub digits_more : (n : ℕ) → 9 < n → digits n ≡ digits (n / 10) ++ digit_of (n % 10) ∷ []
unfolding significant digits
digits_more zero h = absurd (omega arith)
digits_more (suc n) h =
    ap (λ (l : List ℕ). l ++ digit_of (suc n % 10) ∷ []) (digits_significant n (suc n / 10) (omega arith) (omega arith))

-- what holds of one digit, and goes on from a tenth, holds
pub by_digits {ℓ} : (P : ℕ → Type ℓ) → ((n : ℕ) → n < 10 → P n) → ((n : ℕ) → 9 < n → P (n / 10) → P n) → (n : ℕ) → P n
by_digits P one more n = go n n (le_refl n)
  where
    go : (k n : ℕ) → n ≤ k → P n
    go zero n h = one n (omega arith)
    go (suc k) n h = by_order n 9 (λ l. one n (omega arith)) (λ l. more n l (go k (n / 10) (omega arith)))

pub length_digits : (k n : ℕ) → n < 10 ^ suc k → length (digits n) ≤ suc k
length_digits zero n h = rw (digits_one n h) (le_refl 1)
length_digits (suc k) n h =
    by_order n 9 (λ l. rw (digits_one n (omega arith)) (omega arith))
    (λ l. rw (digits_more n l, length-append) (omega (arith, length_digits k (n / 10) (omega (arith, pow-suc 10 (suc k))))))

pub length_hundredths : (n : ℕ) → length (hundredths n) ≡ length (digits (n / 100)) + 3
unfolding hundredths
length_hundredths n = simp length-append (omega arith)

-- of 32 bits
pub digits_at_most : (n : ℕ) → n < 2 ^ 32 → length (digits n) ≤ 10
digits_at_most n h = length_digits 9 n (omega arith)

pub hundredths_at_most : (n : ℕ) → n < 2 ^ 32 → length (hundredths n) ≤ 11
hundredths_at_most n h = rw (length_hundredths n) (omega (arith, length_digits 7 (n / 100) (omega arith)))

-- of 64 bits with a sign

pub digits_of_64 : (n : ℕ) → n ≤ 2 ^ 63 → length (digits n) ≤ 19
digits_of_64 n h = length_digits 18 n (omega arith)

pub hundredths_of_64 : (n : ℕ) → n ≤ 2 ^ 63 → length (hundredths n) ≤ 20
hundredths_of_64 n h = rw (length_hundredths n) (omega (arith, length_digits 16 (n / 100) (omega arith)))

pub minus_at_most : (z : ℤ) → length (minus_of z) ≤ 1
minus_at_most (pos n) = omega arith
minus_at_most (negsuc n) = omega arith
