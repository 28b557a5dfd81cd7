-- Digits in threes, as a person reads them. Assumes nothing.
use Rattle.std.specs.Prelude.{ℕ, zero, suc, ◌/◌, ◌%◌, List, [], ◌∷◌, ◌++◌, ltb}
use Rattle.laws.specs.Order.{pick}
use Rattle.text.specs.Ascii.{ascii}
use Rattle.text.specs.Digits.{digit_of, digits, two_decimals}

-- the last three digits
abbrev pub three_digits : ℕ → List ℕ
three_digits n = digit_of (n / 100 % 10) ∷ [] ++ digit_of (n / 10 % 10) ∷ [] ++ digit_of (n % 10) ∷ []

-- digits in threes from the right, with a comma between, and at most k commas
unfoldable pub in_threes : (k n : ℕ) → List ℕ
in_threes zero n = digits n
in_threes (suc k) n = pick (ltb n 1000) (digits n) (in_threes k (n / 1000) ++ ascii "," ++ three_digits n)

-- of 64 bits
abbrev pub most_commas : ℕ
most_commas = 6

-- hundredths as a person reads them: 270000 are 2,700.00
unfoldable pub grouped : ℕ → List ℕ
grouped n = in_threes most_commas (n / 100) ++ two_decimals n
