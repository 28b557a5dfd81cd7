-- `row_tests::copy::copy_rows` meets its contract: what is stored is the cell of the row. Assumes nothing.
use Rattle.std.proofs.Common.{◌≡◌, rules, arith}
use Rattle.laws.specs.FillLaws.{filled_more}
use Rattle.rows.specs.RowLaws.{cell_in}
use Rattle.row_tests.proofs.copy.copy_rows.Goals as goal

pub loop-i-preserved : goal.loop-i-preserved
loop-i-preserved c =
    let cell : c.unsigned_abs.result ≡ cell_in c.args.net.now c.loop-i.i = search rules in
    rw cell (filled_more (omega (arith, c.loop-i.invariant.size)) c.loop-i.invariant)
