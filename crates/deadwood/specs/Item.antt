-- A deadwood item's limits (document 01, 'Survey file'): low < high ≤ DH, and a volume of either sign. Assumes nothing.
use Rattle.std.specs.Prelude.{ℕ, Bool, ◌&&◌, List, leb, ltb, ℤ, pos, nat_abs, get_or}
use Rattle.measure.specs.Quantity.{dip_height, dip_units}
use Rattle.deadwood.specs.declared.item.Deadwood.{Deadwood}

abbrev pub deadwood : (low high : ℕ) (volume : ℤ) → Deadwood
deadwood low high volume = record { low = dip_height low; high = dip_height high; volume = volume }

-- of one survey
abbrev pub most_items : ℕ
most_items = 64

-- in v, of either sign
abbrev pub largest_volume : ℕ
largest_volume = 10000000

abbrev pub heights_fit : Deadwood → ℕ → Bool
heights_fit d dh = ltb (dip_units d.low) (dip_units d.high) && leb (dip_units d.high) dh

abbrev pub volume_fits : Deadwood → Bool
volume_fits d = leb (nat_abs d.volume) largest_volume

-- an item that takes nothing
abbrev pub no_item : Deadwood
no_item = deadwood 0 1 (pos 0)

-- item i of a list; past its end, an item that takes nothing
abbrev pub item_at : List Deadwood → ℕ → Deadwood
item_at items i = get_or items i no_item
