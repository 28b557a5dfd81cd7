-- Condition 3 holds of every tank within the limits, at every dip height and for all cuts: each part keeps within a
-- slack of its own, the slacks add up over a list of parts, and those of a tank stay within the tolerance. Assumes nothing.
use Rattle.std.specs.Prelude.{ℕ, suc, ◌+◌, ◌*◌, ◌≤◌, ◌<◌, List, [], ◌∷◌}
use Rattle.std.proofs.Common.{add-mul, arith}
use Rattle.measure.specs.Diameter.{largest}
use Rattle.measure.specs.Quantity.{diameter_units, cubic_per_v}
use Rattle.slabs.specs.Slab.{Cut, Some}
use Rattle.slabs.specs.WithinLaws.{Within, within_add, within_more}
use Rattle.heads.specs.SlabsLaws.{heads_slack}
use Rattle.heads.proofs.SlabsLaws.{heads_within, heads_slack_law}
use Rattle.tank.specs.declared.tank.Tank.{Tank}
use Rattle.tank.specs.Part.{Shape, cylinder, head_pair, Filled, shape_volume, volume_of, gross}
use Rattle.tank.specs.Tank.{parts_of, filled_at, gross_at}
use Rattle.tank.specs.Slabs.{shape_fitting, fitting_of, fitting_total, shape_covering, covering_of, covering_total, film_of, film, tolerance_of, added, tolerance}
use Rattle.tank.specs.Condition3.{Condition3}
use Rattle.tank.specs.PartLaws.{LengthLimits, PartLimits, EachWithinLimits, none, more}
use Rattle.tank.specs.TankLaws.{TankLimits, heads_at, parts_within_limits}
use Rattle.tank.specs.CylinderSlabsLaws.{cylinder_slack, cylinder_within}

-- what each part's slabs may be off, in cubic u
abbrev shape_slack : Shape → (d l h : ℕ) → ℕ
shape_slack cylinder d l h = cylinder_slack d l
shape_slack (head_pair kind) d l h = heads_slack kind d l h

shape_within : (s : Shape) (d l h : ℕ) (cut : Cut) → h ≤ d → 0 < d → d ≤ largest → LengthLimits s d l → Some cut
    → Within (shape_fitting s d l h cut) (shape_covering s d l h cut) (shape_volume s d l h * cubic_per_v) (shape_slack s d l h)
shape_within cylinder d l h cut h_high d_low d_high length some = cylinder_within d l h cut.levels h_high some.0
shape_within (head_pair kind) d l h cut h_high d_low d_high length some = heads_within kind d l h cut some d_low d_high length h_high

unfoldable slack_of : Filled → ℕ
slack_of f = shape_slack f.part.shape f.part.d f.part.l f.height

part_within : (f : Filled) (cut : Cut) → PartLimits f → Some cut
    → Within (fitting_of f cut) (covering_of f cut) (volume_of f * cubic_per_v) (slack_of f)
unfolding fitting_of covering_of volume_of slack_of
part_within f cut s some =
    shape_within f.part.shape f.part.d f.part.l f.height cut s.h_high s.d_low s.d_high s.length some

unfoldable slack : List Filled → ℕ
slack [] = 0
slack (f ∷ fs) = slack_of f + slack fs

parts_within : (fs : List Filled) (cuts : ℕ → Cut) → EachWithinLimits fs → ((k : ℕ) → Some (cuts k))
    → Within (fitting_total fs cuts) (covering_total fs cuts) (gross fs * cubic_per_v) (slack fs)
unfolding fitting_total covering_total gross slack
parts_within [] cuts none some = record { fits = omega arith; covers = omega arith }
parts_within (f ∷ fs) cuts (more s ss) some =
    rw (add-mul (volume_of f) (gross fs) cubic_per_v)
    (within_add (part_within f (cuts 0) s (some 0)) (parts_within fs (λ k. cuts (suc k)) ss (λ k. some (suc k))))

tank_slack : (t : Tank) (h : ℕ) → slack (filled_at t h) ≤ tolerance (filled_at t h)
unfolding slack slack_of film film_of tolerance_of added tolerance filled_at parts_of
tank_slack t h = omega (arith, heads_slack_law t.kind (diameter_units t.d2) t.l3 (heads_at t h))

pub condition3 : (t : Tank) → TankLimits t → (h : ℕ) (cuts : ℕ → Cut) → ((k : ℕ) → Some (cuts k))
    → Condition3 (filled_at t h) (gross_at t h) cuts
unfolding gross_at
condition3 t limits h cuts some =
    let total = within_more (tank_slack t h) (parts_within (filled_at t h) cuts (parts_within_limits t h limits) some) in
    record { fits = total.fits; covers = total.covers }
