-- A finer cut, the tolerance as the paper's formula, and condition 3 of a tank in the paper's own words; the laws of the totals stand in proofs/.
-- Assumes nothing.
use Rattle.std.specs.Prelude.{ℕ, ◌+◌, ◌*◌}
use Rattle.measure.specs.Quantity.{diameter_units, cubic_per_v}
use Rattle.slabs.specs.Fraction.{whole, ◌⊕◌, ◌⊑◌}
use Rattle.slabs.specs.Slab.{Cut}
use Rattle.heads.specs.Slabs.{heads_fitting, heads_covering, heads_tolerance}
use Rattle.tank.specs.declared.tank.Tank.{Tank}
use Rattle.tank.specs.Slabs.{cylinder_fitting, cylinder_covering}
use Rattle.tank.specs.TankLaws.{shell_at, heads_at}

-- with `times` as many levels and lengths
abbrev pub finer : (cut times : Cut) → Cut
finer cut times = record { levels = cut.levels * times.levels; lengths = cut.lengths * times.lengths }

-- 3·(D1-as-L1 + 2·D2·L2) cubic u plus 3 v, and what the heads add
abbrev pub tolerance_in_words : (t : Tank) (h : ℕ) → ℕ
tolerance_in_words t h =
    3 * (diameter_units t.d1 * t.l1 + 2 * diameter_units t.d2 * t.l2) + 3 * cubic_per_v
    + heads_tolerance t.kind (diameter_units t.d2) t.l3 (heads_at t h)

-- condition 3 of a tank at dip height H and of the gross row g, with N1 slabs of the shell, N2 of the flanges, N3 of the heads and,
-- where those are spherical caps, M lengths of them
pub record InWords (t : Tank) (h g n1 n2 n3 m : ℕ) : Type 0 where
  pub fits :
      cylinder_fitting (diameter_units t.d1) t.l1 (shell_at t h) n1
      ⊕ (cylinder_fitting (diameter_units t.d2) (2 * t.l2) (heads_at t h) n2
      ⊕ (heads_fitting t.kind (diameter_units t.d2) t.l3 (heads_at t h) (record { levels = n3; lengths = m }) ⊕ whole 0))
      ⊑ whole (g * cubic_per_v + tolerance_in_words t h)
  pub covers :
      whole (g * cubic_per_v)
      ⊑ cylinder_covering (diameter_units t.d1) t.l1 (shell_at t h) n1
      ⊕ (cylinder_covering (diameter_units t.d2) (2 * t.l2) (heads_at t h) n2
      ⊕ (heads_covering t.kind (diameter_units t.d2) t.l3 (heads_at t h) (record { levels = n3; lengths = m }) ⊕ whole 0))
      ⊕ whole (tolerance_in_words t h)
