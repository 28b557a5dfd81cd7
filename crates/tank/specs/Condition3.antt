-- Condition 3 (document 01, 'Slabs'): fitting slabs of all parts never total more than the gross row plus the tolerance, and
-- covering slabs never less than the gross row minus the tolerance. One claim about the added totals, of the parts as they are
-- filled, the gross row g in v, and how each part is cut. Assumes nothing.
use Rattle.std.specs.Prelude.{ℕ, ◌+◌, ◌*◌, List}
use Rattle.measure.specs.Quantity.{cubic_per_v}
use Rattle.slabs.specs.Fraction.{whole, ◌⊕◌, ◌⊑◌}
use Rattle.slabs.specs.Slab.{Cut}
use Rattle.tank.specs.Part.{Filled}
use Rattle.tank.specs.Slabs.{fitting_total, covering_total, tolerance}

pub record Condition3 (parts : List Filled) (g : ℕ) (cuts : ℕ → Cut) : Type 0 where
  pub fits : fitting_total parts cuts ⊑ whole (g * cubic_per_v + tolerance parts)
  pub covers : whole (g * cubic_per_v) ⊑ covering_total parts cuts ⊕ whole (tolerance parts)
