-- `row_tests::tests::rows_tested` meets its contract: behind rows that do not fall, a row's refusal is the verdict. Assumes nothing.
use Rattle.std.proofs.Common.{arith, rules, sym, ◌∙◌, ◌≤◌}
use Rattle.std.proofs.lemmas.Result.{err_from_is_err_and}
use Rattle.refusal.specs.TestLaws.{refused_next}
use Rattle.schedule.specs.Rows.{row_count, row_height}
use Rattle.rows.specs.RowLaws.{net_of}
use Rattle.row_tests.specs.Tests.{fall_test}
use Rattle.row_tests.specs.RowTestLaws.{room_enough}
use Rattle.row_tests.proofs.tests.rows_tested.Goals as goal

pub returns-in_err-fall_tested : goal.returns-in_err-fall_tested
returns-in_err-fall_tested c =
    let a = c.args in
    let l = c.loop-i in
    let rows = row_count a.schedule.dh a.schedule.step in
    let room : rows ≤ a.cells = rw (← c.rows-rows.ensures.value) (search rules) in
    let p = err_from_is_err_and c.from_residual-in_err-fall_tested.result c.from_residual-in_err-fall_tested.ensures.1 in
    rw (p.1, p.2)
    (sym (room_enough (net_of a.net.now) (row_height a.schedule.dh a.schedule.step) rows a.cells room
    ∙ refused_next l.i rows (fall_test (net_of a.net.now) (row_height a.schedule.dh a.schedule.step)) _ (omega arith) l.invariant (sym c.in_err-fall_tested.ensures)))
