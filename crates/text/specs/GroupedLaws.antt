-- Laws of digits in threes: how they go on, and how many bytes they are. Assumes nothing.
use Rattle.std.specs.Prelude.{ℕ, zero, suc, ◌+◌, ◌-◌, ◌/◌, ◌^◌, ◌≤◌, ◌<◌, ◌≡◌, refl, ◌++◌, length}
use Rattle.std.proofs.Common.{arith, le-ltb, lt-ltb, length-append}
use Rattle.laws.specs.OrderLaws.{by_order}
use Rattle.text.specs.Ascii.{ascii}
use Rattle.text.specs.Digits.{digits}
use Rattle.text.specs.DigitsLaws.{digits_more, length_digits}
use Rattle.text.specs.Grouped.{three_digits, in_threes, most_commas, grouped}

-- no comma left, none needed, and one more

pub in_threes_none : (k n : ℕ) → k ≡ 0 → in_threes k n ≡ digits n
unfolding in_threes
in_threes_none zero n h = refl
in_threes_none (suc k) n h = absurd (omega arith)

pub in_threes_below : (k n : ℕ) → n < 1000 → in_threes k n ≡ digits n
unfolding in_threes
in_threes_below zero n h = refl
in_threes_below (suc k) n h = rw (lt-ltb n 1000 h)

pub in_threes_more : (k n : ℕ) → 0 < k → 1000 ≤ n → in_threes k n ≡ in_threes (k - 1) (n / 1000) ++ ascii "," ++ three_digits n
unfolding in_threes
in_threes_more zero n h l = absurd (omega arith)
in_threes_more (suc k) n h l = let less : suc k - 1 ≡ k = omega arith in rw (le-ltb n 1000 l, less)

-- a comma for three digits
length_thousands : (n : ℕ) → 1000 ≤ n → length (digits n) ≡ length (digits (n / 1000)) + 3
length_thousands n h =
    let tens : n / 10 / 10 / 10 ≡ n / 1000 = omega arith in
    rw (digits_more n (omega arith), digits_more (n / 10) (omega arith), digits_more (n / 10 / 10) (omega arith), tens)
    (simp length-append (omega arith))

pub length_in_threes : (k n : ℕ) → length (in_threes k n) ≤ length (digits n) + k
unfolding in_threes
length_in_threes zero n = omega arith
length_in_threes (suc k) n =
    by_order 1000 n
    (λ l. rw (le-ltb n 1000 l) (simp length-append (omega (arith, length_in_threes k (n / 1000), length_thousands n l))))
    (λ l. rw (lt-ltb n 1000 l) (omega arith))

pub grouped_of_64 : (n : ℕ) → n ≤ 2 ^ 63 → length (grouped n) ≤ 26
unfolding grouped
grouped_of_64 n h =
    simp length-append (omega (arith, length_in_threes most_commas (n / 100), length_digits 16 (n / 100) (omega arith)))
