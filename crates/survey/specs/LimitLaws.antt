-- What a survey that is not refused promises, in the numbers of document 01. Assumes nothing.
use Rattle.std.specs.Prelude.{ℕ, ◌*◌, ◌≤◌, ◌<◌, ◌≡◌, nat_abs, length}
use Rattle.measure.specs.Quantity.{diameter_units, dip_units}
use Rattle.deadwood.specs.Item.{item_at}
use Rattle.heads.specs.declared.kind.HeadKind.TheVariants.{SphericalCap}
use Rattle.heads.specs.LengthLaws.{cap_limits}
use Rattle.survey.specs.declared.decode.Survey.{Survey}
use Rattle.survey.specs.SurveyLaws.{SurveyLimits}

module _ (v : Survey) (limits : SurveyLimits v) where
  -- 500.00 mm to 5,000.00 mm
  abbrev InDiameter : ℕ → Type 0
  InDiameter d = (50000 ≤ d) × (d ≤ 500000)

  pub diameters_in_numbers : InDiameter (diameter_units v.tank.dh) × (InDiameter (diameter_units v.tank.d1) × InDiameter (diameter_units v.tank.d2))
  diameters_in_numbers =
      let t = limits.tank in
      ((t.dh_low, t.dh_high), ((t.d1_low, t.d1_high), (t.d2_low, t.d2_high)))

  pub lengths_in_numbers : (v.tank.l1 ≤ 3000000) × ((v.tank.l2 ≤ 20000) × (v.tank.l3 ≤ 260000))
  lengths_in_numbers = (limits.tank.l1_high, (limits.tank.l2_high, limits.tank.heads.high))

  pub caps_in_numbers : v.tank.kind ≡ SphericalCap → 2 * v.tank.l3 ≤ diameter_units v.tank.d2
  caps_in_numbers cap = cap_limits (diameter_units v.tank.d2) v.tank.l3 (rw cap at limits.tank.heads)

  pub step_in_numbers : (100 ≤ v.step) × (v.step ≤ 10000)
  step_in_numbers = (limits.step_low, limits.step_high)

  pub items_in_numbers : (length v.deadwood ≤ 64)
      × ((i : ℕ) → i < length v.deadwood
      → (dip_units (item_at v.deadwood i).low < dip_units (item_at v.deadwood i).high) × (nat_abs (item_at v.deadwood i).volume ≤ 10000000))
  items_in_numbers = (limits.items.few, λ i l. (limits.items.rises i l, limits.items.volume_size i l))
