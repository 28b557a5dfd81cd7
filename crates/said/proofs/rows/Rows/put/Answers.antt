-- `said::rows::Rows::put` meets its contract: the rows stand behind the line of their count. Assumes nothing.
use Rattle.std.proofs.Common.{arith, rules, length-append}
use Rattle.text.specs.PutLaws.{says}
use Rattle.text.specs.WroteLaws.{wrote_both, wrote_left}
use Rattle.said.proofs.rows.Rows.put.Goals as goal

pub returns-clause-says : goal.returns-clause-says
returns-clause-says c =
    let count = c.rows_line.ensures in
    let rows = c.put_rows.ensures in
    says (rw length-append (omega (arith, count.short, rows.short))) (wrote_left (wrote_both count.put rows.put) (search rules))
