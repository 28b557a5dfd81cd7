-- `lines::row_line` meets its contract: its pieces are put one after another. Assumes nothing.
use Rattle.lines.specs.Lines.{row_line}
use Rattle.text.specs.WroteLaws.{wrote_both}
use Rattle.lines.proofs.row_line.Goals as goal

pub returns-clause-put : goal.returns-clause-put
unfolding row_line
returns-clause-put c = wrote_both (wrote_both (wrote_both c.hundredths.ensures c.byte.ensures) c.hundredths-2.ensures) c.byte-2.ensures
