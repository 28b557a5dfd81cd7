-- The share of a deadwood item at a dip height (document 01, 'Volume'): nothing at or below its low height, all of it at or above
-- its high height, and between them in proportion, to the nearest v of the size, the sign put on afterwards. Assumes nothing.
use Rattle.std.specs.Prelude.{ℕ, ◌*◌, ◌-◌, List, leb, ℤ, nat_abs, length}
use Rattle.laws.specs.Order.{pick}
use Rattle.laws.specs.Signed.{with_sign, sumℤ}
use Rattle.laws.specs.Nearest.{nearest}
use Rattle.measure.specs.Quantity.{dip_units}
use Rattle.deadwood.specs.declared.item.Deadwood.{Deadwood}
use Rattle.deadwood.specs.Item.{item_at}

unfoldable pub share_size : (low high size h : ℕ) → ℕ
share_size low high size h = pick (leb h low) 0 (pick (leb high h) size (nearest (size * (h - low)) (high - low)))

unfoldable pub share : Deadwood → ℕ → ℤ
share d h = with_sign d.volume (share_size (dip_units d.low) (dip_units d.high) (nat_abs d.volume) h)

-- of item i of a list
abbrev pub share_in : List Deadwood → ℕ → ℕ → ℤ
share_in items h i = share (item_at items i) h

-- of all items of a list
unfoldable pub shares_of : List Deadwood → ℕ → ℤ
shares_of items h = sumℤ (length items) (share_in items h)
