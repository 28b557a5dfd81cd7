-- What the tests of a deadwood item say of its numbers. Assumes nothing.
use Rattle.std.specs.Prelude.{ℕ, ◌≤◌, ◌<◌, ◌≡◌, true, leb, ltb, nat_abs}
use Rattle.std.proofs.Common.{leb-true, ltb-true}
use Rattle.laws.specs.BoolLaws.{both_pass}
use Rattle.measure.specs.Quantity.{dip_units}
use Rattle.deadwood.specs.declared.item.Deadwood.{Deadwood}
use Rattle.deadwood.specs.Item.{largest_volume, heights_fit, volume_fits}

pub item_fits : (d : Deadwood) (dh : ℕ) → heights_fit d dh ≡ true → volume_fits d ≡ true
    → (dip_units d.low < dip_units d.high) × (dip_units d.high ≤ dh) × (nat_abs d.volume ≤ largest_volume)
item_fits d dh heights volume =
    let low = dip_units d.low in
    let high = dip_units d.high in
    let both = both_pass (ltb low high) (leb high dh) heights in
    (ltb-true low high both.0, leb-true high dh both.1, leb-true (nat_abs d.volume) largest_volume volume)
