-- Tests over the numbers below a bound: whether all pass (`every`), and the least that passes (`least`). Assumes nothing.
use Rattle.std.specs.Prelude.{ℕ, zero, suc, Bool, true, ◌&&◌}
use Rattle.laws.specs.Order.{pick}

-- p holds of 0, 1, .., n - 1
unfoldable pub every : ℕ → (ℕ → Bool) → Bool
every zero p = true
every (suc n) p = every n p && p n

-- the least of 0, 1, .., n of which p holds; n where it holds of none
unfoldable pub least : ℕ → (ℕ → Bool) → ℕ
least zero p = 0
least (suc n) p = pick (p (least n p)) (least n p) (suc n)
