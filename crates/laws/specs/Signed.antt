-- Signed numbers: a size with a sign put on, and finite sums. Assumes nothing.
use Rattle.std.specs.Prelude.{ℕ, zero, suc, ℤ, pos, negsuc, neg_ℤ, ◌+ℤ◌}

-- a size with the sign of z
abbrev pub with_sign : ℤ → ℕ → ℤ
with_sign (pos z) n = pos n
with_sign (negsuc z) n = neg_ℤ (pos n)

-- f 0 + f 1 + .. + f (n - 1)
unfoldable pub sumℤ : ℕ → (ℕ → ℤ) → ℤ
sumℤ zero f = pos 0
sumℤ (suc n) f = sumℤ n f +ℤ f n
