-- Little-endian 32-bit numbers in a file's bytes, unsigned and signed, and the bytes that such numbers have. Assumes nothing.
use Rattle.std.specs.Prelude.{ℕ, ◌+◌, ◌*◌, ◌-◌, ◌/◌, ◌%◌, ◌^◌, List, [], ◌∷◌, ◌++◌, leb, ℤ, pos, negsuc, get_or}
use Rattle.laws.specs.Order.{pick}

unfoldable pub word : List ℕ → ℕ → ℕ
word s at = get_or s at 0 + 256 * get_or s (at + 1) 0 + 65536 * get_or s (at + 2) 0 + 16777216 * get_or s (at + 3) 0

-- the same bits, read with a sign
unfoldable pub signed_word : List ℕ → ℕ → ℤ
signed_word s at = pick (leb (2 ^ 31) (word s at)) (negsuc (2 ^ 32 - 1 - word s at)) (pos (word s at))

-- the four bytes of a number, the lowest first
abbrev pub word_bytes : ℕ → List ℕ
word_bytes n = n % 256 ∷ n / 256 % 256 ∷ n / 65536 % 256 ∷ n / 16777216 % 256 ∷ []

-- .. and of several, one after the other
abbrev pub bytes_of : List ℕ → List ℕ
bytes_of [] = []
bytes_of (n ∷ ns) = word_bytes n ++ bytes_of ns
