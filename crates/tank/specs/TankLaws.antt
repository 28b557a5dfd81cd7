-- A tank within the limits: each of its parts is sound at every dip height, and its gross volume stays small. Assumes nothing.
use Rattle.std.specs.Prelude.{ℕ, ◌+◌, ◌*◌, ◌≤◌, ◌≡◌}
use Rattle.std.proofs.Common.{arith}
use Rattle.measure.specs.Diameter.{smallest, largest}
use Rattle.measure.specs.Quantity.{diameter_units}
use Rattle.correction.specs.Correction.{corrected_height}
use Rattle.correction.proofs.CorrectionLaws.{corrected_at_most}
use Rattle.heads.specs.LengthLaws.{HeadLimits}
use Rattle.heads.specs.Volume.{heads_volume}
use Rattle.heads.specs.VolumeLaws.{most_heads}
use Rattle.tank.specs.declared.tank.Tank.{Tank}
use Rattle.tank.specs.Limits.{longest_shell, longest_flange}
use Rattle.tank.specs.Part.{Part, cylinder_volume, volume_of, gross}
use Rattle.tank.specs.Tank.{parts_of, filled_to, filled_at, gross_at}
use Rattle.tank.specs.CylinderLaws.{most_cylinder}
use Rattle.tank.specs.PartLaws.{LengthLimits, PartLimits, EachWithinLimits, none, more, gross_at_most}

pub record TankLimits (t : Tank) : Type 0 where
  pub dh_low : smallest ≤ diameter_units t.dh
  pub dh_high : diameter_units t.dh ≤ largest
  pub d1_low : smallest ≤ diameter_units t.d1
  pub d1_high : diameter_units t.d1 ≤ largest
  pub d2_low : smallest ≤ diameter_units t.d2
  pub d2_high : diameter_units t.d2 ≤ largest
  pub l1_high : t.l1 ≤ longest_shell
  pub l2_high : t.l2 ≤ longest_flange
  pub heads : HeadLimits t.kind (diameter_units t.d2) t.l3

-- H1 and H2 at dip height H
abbrev pub shell_at : Tank → ℕ → ℕ
shell_at t h = corrected_height (diameter_units t.d1) (diameter_units t.dh) h

abbrev pub heads_at : Tank → ℕ → ℕ
heads_at t h = corrected_height (diameter_units t.d2) (diameter_units t.dh) h

pub gross_by_parts : (t : Tank) (h : ℕ)
    → gross_at t h
    ≡ cylinder_volume (diameter_units t.d1) t.l1 (shell_at t h)
    + cylinder_volume (diameter_units t.d2) (2 * t.l2) (heads_at t h)
    + heads_volume t.kind (diameter_units t.d2) t.l3 (heads_at t h)
unfolding gross_at gross volume_of filled_at parts_of
gross_by_parts t h = omega arith

-- a part within its limits is sound at its corrected height
part_sound : (dh h : ℕ) (p : Part) → smallest ≤ p.d → p.d ≤ largest → LengthLimits p.shape p.d p.l → PartLimits (filled_to dh h p)
part_sound dh h p d_low d_high length =
    record { h_high = corrected_at_most p.d dh h; d_low = omega arith; d_high = d_high; length = length }

pub parts_within_limits : (t : Tank) (h : ℕ) → TankLimits t → EachWithinLimits (filled_at t h)
unfolding filled_at parts_of
parts_within_limits t h limits =
    let flanges : 2 * t.l2 ≤ longest_shell = omega arith in
    more (part_sound _ h _ limits.d1_low limits.d1_high limits.l1_high)
    (more (part_sound _ h _ limits.d2_low limits.d2_high flanges)
    (more (part_sound _ h _ limits.d2_low limits.d2_high limits.heads) none))

abbrev pub most_gross : ℕ
most_gross = 2 * most_cylinder + most_heads

pub gross_small : (t : Tank) (h : ℕ) → TankLimits t → gross_at t h ≤ most_gross
unfolding gross_at filled_at parts_of
gross_small t h limits = gross_at_most (filled_at t h) (parts_within_limits t h limits)
