-- `row_tests::copy::copy_rows` meets its contract. The loop's invariant: the table holds the rows passed and is, from there on, as it was.
-- Assumes nothing.
use Rattle.laws.specs.FillLaws.{Filled}
use Rattle.rows.specs.RowLaws.{cell_in}
use Rattle.row_tests.proofs.copy.copy_rows.Given as goal

abbrev pub invariant-loop-i : goal.invariant-loop-i
invariant-loop-i l = Filled l.initial.table (cell_in l.net) l.i l.table
