-- A tank's parts, each filled to its own corrected height, and the gross volume at a dip height (document 01, 'Dimensions' and
-- 'Volume'). Assumes nothing.
use Rattle.std.specs.Prelude.{ℕ, ◌*◌, List, [], ◌∷◌, map}
use Rattle.measure.specs.Quantity.{diameter_units}
use Rattle.correction.specs.Correction.{corrected_height}
use Rattle.tank.specs.declared.tank.Tank.{Tank}
use Rattle.tank.specs.declared.tank.Tank.TheInside.{Inside}
use Rattle.tank.specs.Part.{Part, cylinder, head_pair, Filled, gross}

-- what is said of a tank: the sizes that its fields have
abbrev pub sizes : Inside → Tank
sizes t = record { kind = t.kind; dh = t.dh; d1 = t.d1; d2 = t.d2; l1 = t.l1; l2 = t.l2; l3 = t.l3 }

-- shell (D1, L1), flanges (D2, twice L2), heads (D2, L3)
unfoldable pub parts_of : Tank → List Part
parts_of t =
    record { shape = cylinder; d = diameter_units t.d1; l = t.l1 }
    ∷ record { shape = cylinder; d = diameter_units t.d2; l = 2 * t.l2 }
    ∷ record { shape = head_pair t.kind; d = diameter_units t.d2; l = t.l3 }
    ∷ []

-- at dip height H a part is filled to the corrected height of its own diameter
abbrev pub filled_to : (dh h : ℕ) → Part → Filled
filled_to dh h p = record { part = p; height = corrected_height p.d dh h }

unfoldable pub filled_at : Tank → ℕ → List Filled
filled_at t h = map (filled_to (diameter_units t.dh) h) (parts_of t)

unfoldable pub gross_at : Tank → ℕ → ℕ
gross_at t h = gross (filled_at t h)
