-- A difference of two naturals and its floor half, by which of them is larger. Assumes nothing.
use Rattle.std.specs.Prelude.{ℕ, suc, ◌+◌, ◌-◌, ◌/◌, ◌≡◌, pos, negsuc}
use Rattle.std.proofs.Common.{ap, arith, lt-ltb, le-ltb}
use Rattle.std.proofs.Math.IntN.{sub_ℕ}
use Rattle.laws.specs.Half.{floor_half, half_difference}

-- a - b is t ..
pub difference_up : (a b t : ℕ) → b + t ≡ a → sub_ℕ a b ≡ pos t
difference_up a b t e = rw (le-ltb a b (omega arith)) (ap pos {x = a - b} {y = t} (omega arith))

-- .. or -(t + 1)
pub difference_down : (a b t : ℕ) → a + t + 1 ≡ b → sub_ℕ a b ≡ negsuc t
difference_down a b t e = rw (lt-ltb a b (omega arith)) (ap negsuc {x = b - suc a} {y = t} (omega arith))

pub half_up : (a b t : ℕ) → b + t ≡ a → half_difference a b ≡ pos (t / 2)
half_up a b t e = ap floor_half (difference_up a b t e)

pub half_down : (a b t : ℕ) → a + t + 1 ≡ b → half_difference a b ≡ negsuc (t / 2)
half_down a b t e = ap floor_half (difference_down a b t e)
