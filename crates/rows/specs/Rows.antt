-- The rows of a survey's table (document 01, 'Volume'): all deadwood shares at a dip height, the net volume there, and the rows: how many,
-- where, and what each holds. Assumes nothing.
use Rattle.std.specs.Prelude.{ℕ, List, ℤ, pos, nat_abs, ◌-ℤ◌}
use Rattle.laws.specs.Fill.{rows_of}
use Rattle.measure.specs.Quantity.{diameter_units}
use Rattle.schedule.specs.Rows.{row_count, row_height}
use Rattle.tank.specs.Tank.{gross_at}
use Rattle.deadwood.specs.Share.{shares_of}
use Rattle.survey.specs.declared.decode.Survey.{Survey}

-- all deadwood shares at dip height H
abbrev pub shares_at : Survey → ℕ → ℤ
shares_at v h = shares_of v.deadwood h

-- net = gross minus all shares
unfoldable pub net_at : Survey → ℕ → ℤ
net_at v h = pos (gross_at v.tank h) -ℤ shares_at v h

abbrev pub rows_in : Survey → ℕ
rows_in v = row_count (diameter_units v.tank.dh) v.step

abbrev pub height_of : Survey → ℕ → ℕ
height_of v i = row_height (diameter_units v.tank.dh) v.step i

-- the gross row: the gross volume at the row's height
abbrev pub gross_row : Survey → ℕ → ℕ
gross_row v i = gross_at v.tank (height_of v i)

abbrev pub net_row : Survey → ℕ → ℤ
net_row v i = net_at v (height_of v i)

-- the cell that holds a net row, which in a table that is made is not below zero
abbrev pub cell_of : Survey → ℕ → ℕ
cell_of v i = nat_abs (net_row v i)

-- all of them
abbrev pub table_of : Survey → List ℕ
table_of v = rows_of (cell_of v) (rows_in v)
