-- `report::capacity_table::table_said` meets its contract: a table that is not refused is whole, and its rows are those at the front of its
-- memory. Assumes nothing.
use Rattle.std.proofs.Common.{arith, length-take-le}
use Rattle.said.specs.SaidLaws.{whole_taken}
use Rattle.survey_lookup.specs.TabledLaws.{ready_file}
use Rattle.report.proofs.capacity_table.table_said.Goals as goal

pub invariant_of-rows : goal.invariant_of-rows
invariant_of-rows c =
    let t = ready_file _ c.in-Ok.ensures in
    rw (c.own_rows.ensures, length-take-le _ _ t.inside) (record { all_there = (t.step_low, t.rows_are, t.few, omega arith) })

pub returns-in-Ok : goal.returns-in-Ok
returns-in-Ok c =
    let t = ready_file _ c.in-Ok.ensures in
    let rows = rw (c.own_rows.ensures, whole_taken _ _ _ _ t.inside) at c.rows_said.ensures in
    rw (← c.in-Ok.ensures) rows
