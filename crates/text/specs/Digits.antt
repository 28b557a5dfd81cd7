-- A number in decimal digits, a number of hundredths with two decimals, and the sign of one below 0, as ASCII. Assumes nothing.
use Rattle.std.specs.Prelude.{ℕ, zero, suc, ◌+◌, ◌/◌, ◌%◌, List, [], ◌∷◌, ◌++◌, ℤ, pos, negsuc}
use Prim.Native.Char.{code}
use Rattle.text.specs.Ascii.{ascii}

abbrev pub digit_of : ℕ → ℕ
digit_of d = code "0" + d

-- the digits of n from the first that is not 0, and at most k of them; n has no more than n
unfoldable pub significant : (k n : ℕ) → List ℕ
significant zero n = []
significant (suc k) zero = []
significant (suc k) (suc n) = significant k (suc n / 10) ++ digit_of (suc n % 10) ∷ []

unfoldable pub digits : ℕ → List ℕ
unfolding significant
digits zero = digit_of 0 ∷ []
digits (suc n) = significant (suc n) (suc n)

-- a point and the last two digits
abbrev pub two_decimals : ℕ → List ℕ
two_decimals n = ascii "." ++ digit_of (n / 10 % 10) ∷ [] ++ digit_of (n % 10) ∷ []

-- 2796 hundredths are 27.96
unfoldable pub hundredths : ℕ → List ℕ
hundredths n = digits (n / 100) ++ two_decimals n

-- a sign, where there is one
abbrev pub minus_of : ℤ → List ℕ
minus_of (pos n) = []
minus_of (negsuc n) = ascii "-"
