-- `table::judge::rows_judged` meets its contract: the rows in memory are the survey's net rows. Assumes nothing.
use Rattle.std.proofs.Common.{◌∙◌}
use Rattle.row_tests.specs.RowTestLaws.{held_tests}
use Rattle.table.proofs.judge.rows_judged.Goals as goal

pub returns : goal.returns
returns c =
    let schedule = c.schedule_of-schedule.ensures in
    c.rows_tested.ensures ∙ held_tests c.args.v _ c.net_rows.ensures.rows schedule.0 schedule.1 c.args.cells
