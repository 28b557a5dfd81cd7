-- `lines::rows_line` meets its contract: its pieces are put one after another. Assumes nothing.
use Rattle.lines.specs.Lines.{rows_line}
use Rattle.text.specs.WroteLaws.{wrote_both}
use Rattle.lines.proofs.rows_line.Goals as goal

pub returns-clause-put : goal.returns-clause-put
unfolding rows_line
returns-clause-put c = wrote_both (wrote_both c.bytes.ensures c.digits.ensures) c.byte.ensures
