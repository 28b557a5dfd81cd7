-- The gross volume of a tank never falls as the dip height grows: no part's volume falls as the part is filled, and no corrected
-- height falls. Assumes nothing.
use Rattle.std.specs.Prelude.{ℕ, ◌*◌, ◌≤◌, ◌<◌, List, [], ◌∷◌, map}
use Rattle.std.proofs.Common.{le_refl, add-le-add, mul-le-mul_right, arith}
use Rattle.laws.proofs.NearestLaws.{nearest_mono}
use Rattle.measure.specs.Quantity.{diameter_units, cubic_per_v}
use Rattle.correction.proofs.CorrectionLaws.{corrected_mono}
use Rattle.circle.proofs.AreaLaws.{area_mono}
use Rattle.heads.proofs.VolumeLaws.{heads_mono}
use Rattle.tank.specs.declared.tank.Tank.{Tank}
use Rattle.tank.specs.Part.{Shape, cylinder, head_pair, Part, cylinder_volume, shape_volume, volume_of, gross}
use Rattle.tank.specs.Tank.{parts_of, filled_to, filled_at, gross_at}
use Rattle.tank.specs.PartLaws.{EachWithinLimits, none, more}
use Rattle.tank.specs.TankLaws.{TankLimits, parts_within_limits}

cylinder_mono : (d l h h' : ℕ) → h ≤ h' → cylinder_volume d l h ≤ cylinder_volume d l h'
unfolding cylinder_volume
cylinder_mono d l h h' up = nearest_mono _ _ (2 * cubic_per_v) (omega arith) (mul-le-mul_right l (area_mono d h h' up))

shape_mono : (s : Shape) (d l h h' : ℕ) → 0 < d → h ≤ h' → h' ≤ d → shape_volume s d l h ≤ shape_volume s d l h'
shape_mono cylinder d l h h' d_low up h_high = cylinder_mono d l h h' up
shape_mono (head_pair kind) d l h h' d_low up h_high = heads_mono kind d l h h' d_low up h_high

-- parts of any number, each filled to the corrected height of its own diameter
parts_mono : (dh h h' : ℕ) (ps : List Part) → h ≤ h' → EachWithinLimits (map (filled_to dh h') ps)
    → gross (map (filled_to dh h) ps) ≤ gross (map (filled_to dh h') ps)
unfolding gross volume_of
parts_mono dh h h' [] up none = le_refl 0
parts_mono dh h h' (p ∷ ps) up (more s ss) =
    add-le-add
    (shape_mono p.shape p.d p.l _ _ s.d_low (corrected_mono p.d dh h h' up) s.h_high)
    (parts_mono dh h h' ps up ss)

pub gross_mono : (t : Tank) → TankLimits t → (h h' : ℕ) → h ≤ h' → gross_at t h ≤ gross_at t h'
unfolding gross_at filled_at
gross_mono t limits h h' up = parts_mono (diameter_units t.dh) h h' (parts_of t) up (parts_within_limits t h' limits)
