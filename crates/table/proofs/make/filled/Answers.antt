-- `table::make::filled` meets its contract: by the verdict on the file. Assumes nothing.
use Rattle.std.proofs.Common.{◌∙◌, ap}
use Rattle.rows.specs.Rows.{rows_in, cell_of}
use Rattle.row_tests.specs.Left.{left_by}
use Rattle.table.specs.Answer.{table_left}
use Rattle.table.proofs.make.filled.Goals as goal

pub returns-in_err-file-clause-table_after : goal.returns-in_err-file-clause-table_after
unfolding table_left
returns-in_err-file-clause-table_after c = rw c.in_err-file.was

pub returns-clause-table_after : goal.returns-clause-table_after
unfolding table_left
returns-clause-table_after c =
    let v = c.in_ok-file.field-0 in
    let filled = c.fill.ensures in
    rw c.in_ok-file.was (filled.table_after ∙ ap (λ w. left_by w (cell_of v) (rows_in v) c.args.table.now) filled.value)
