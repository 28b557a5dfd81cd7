-- `table::make::fill` meets its contract: the rows in memory are the survey's net rows, so the verdict on them and the cells made of them are the definition's. Assumes nothing.
use Rattle.std.proofs.Common.{◌∙◌, length}
use Rattle.row_tests.specs.RowTestLaws.{held_tests, held_left}
use Rattle.table.proofs.make.fill.Goals as goal

pub returns-clause-value : goal.returns-clause-value
returns-clause-value c =
    let a = c.args in
    let schedule = c.schedule_of-schedule.ensures in
    c.test_and_copy.ensures.value ∙ held_tests a.v _ c.net_rows.ensures.rows schedule.0 schedule.1 (length a.table.now)

pub returns-clause-table_after : goal.returns-clause-table_after
returns-clause-table_after c =
    let a = c.args in
    let schedule = c.schedule_of-schedule.ensures in
    c.test_and_copy.ensures.table_after ∙ held_left a.v _ c.net_rows.ensures.rows schedule.0 schedule.1 c.test_and_copy.result a.table.now
