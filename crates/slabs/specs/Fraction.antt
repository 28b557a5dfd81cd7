-- Fractions of whole numbers, with their sum, order and equality: what the totals of slabs are counted in. A denominator is above zero
-- wherever one is made here. Assumes nothing.
use Rattle.std.specs.Prelude.{ℕ, ◌+◌, ◌*◌, ◌≤◌, ◌≡◌}

pub record Fraction : Type 0 where
  pub over : ℕ
  pub under : ℕ

abbrev pub whole : ℕ → Fraction
whole n = record { over = n; under = 1 }

infixl 60 ◌⊕◌
abbrev pub ◌⊕◌ : Fraction → Fraction → Fraction
a ⊕ b = record { over = a.over * b.under + b.over * a.under; under = a.under * b.under }

-- at most
infix 40 ◌⊑◌
abbrev pub ◌⊑◌ : Fraction → Fraction → Type 0
a ⊑ b = a.over * b.under ≤ b.over * a.under

-- the same number
infix 40 ◌≃◌
abbrev pub ◌≃◌ : Fraction → Fraction → Type 0
a ≃ b = a.over * b.under ≡ b.over * a.under
