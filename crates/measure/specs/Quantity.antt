-- Each quantity and the number of units that it holds: u for dip heights and diameters, v for a volume. Assumes nothing.
use Rattle.std.specs.Prelude.{ℕ, ◌^◌}
use Rattle.measure.specs.declared.dip_height.DipHeight.{DipHeight}
use Rattle.measure.specs.declared.volume.Volume.{Volume}
use Rattle.measure.specs.declared.diameter.Diameter.{Diameter}

abbrev pub dip_height : ℕ → DipHeight
dip_height n = record { 0 = n }

abbrev pub dip_units : DipHeight → ℕ
dip_units h = h.0

abbrev pub volume : ℕ → Volume
volume n = record { 0 = n }

abbrev pub volume_units : Volume → ℕ
volume_units v = v.0

abbrev pub diameter : ℕ → Diameter
diameter n = record { units = n }

abbrev pub diameter_units : Diameter → ℕ
diameter_units d = d.units

-- one v in cubic u
abbrev pub cubic_per_v : ℕ
cubic_per_v = 10 ^ 10
