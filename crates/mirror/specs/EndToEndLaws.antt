-- Two cylinders of one diameter laid end to end hold, before rounding, the sum. Assumes nothing.
use Rattle.std.specs.Prelude.{ℕ, ◌+◌}
use Rattle.std.proofs.Common.{arith}
use Rattle.slabs.specs.Fraction.{◌⊕◌, ◌≃◌}
use Rattle.mirror.specs.Exact.{exact_cylinder}

-- E7, fourth law: two shells of one diameter laid end to end hold, before rounding, the sum: doubled area · (L + L')
pub end_to_end : (d l l' h : ℕ) → exact_cylinder d (l + l') h ≃ exact_cylinder d l h ⊕ exact_cylinder d l' h
end_to_end d l l' h = omega arith
