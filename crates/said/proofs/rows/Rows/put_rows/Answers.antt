-- `said::rows::Rows::put_rows` meets its contract: a turn puts the line of one row more. Assumes nothing.
use Rattle.std.proofs.Common.{arith, add-one, length-append}
use Rattle.text.specs.WroteLaws.{wrote_both}
use Rattle.said.specs.Said.{rows_text}
use Rattle.said.proofs.rows.Rows.put_rows.Goals as goal

pub loop-i-preserved : goal.loop-i-preserved
unfolding rows_text
loop-i-preserved c =
    let line = rw (c.units.ensures, c.height.ensures) at c.row_line.ensures.put in
    let short = rw (c.units.ensures, c.height.ensures) at c.row_line.ensures.short in
    let l = c.loop-i.invariant in
    (rw add-one (wrote_both l.0 line), rw (add-one, length-append) (omega (arith, short)))
