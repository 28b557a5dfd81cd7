-- The fitting and the covering faces of one cut, against each other: no fitting face exceeds its covering face, the sums of the two
-- close in on each other as the slabs grow in number, and slabs that are cut finer fit no less. So no total can be made easier to
-- claim something of without one of these failing. Assumes nothing.
use Prim.Native.Nat.{ℕ, ◌+◌, ◌*◌, ◌≤◌}
use Rattle.std.specs.Prelude.{◌≡◌}

-- what is measured at a level for a fitting slab, f, and for a covering one, g: never less, and by no more than `unit` more; f rises up
-- to the middle and falls after it, and is widest there
pub record Measures (d n unit middle : ℕ) (f g : ℕ → ℕ) : Type 0 where
  pub no_less : (k : ℕ) → f k ≤ g k
  pub near : (k : ℕ) → g k ≤ f k + unit
  pub rising : (a b : ℕ) → a ≤ b → 2 * b ≤ n * d → f a ≤ f b
  pub falling : (a b : ℕ) → a ≤ b → n * d ≤ 2 * a → f b ≤ f a
  pub widest : (k : ℕ) → f k ≤ middle
  pub at_middle : (k : ℕ) → 2 * k ≡ n * d → middle ≤ f k
