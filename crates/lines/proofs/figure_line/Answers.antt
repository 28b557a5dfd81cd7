-- `lines::figure_line` meets its contract: its pieces are put one after another. Assumes nothing.
use Rattle.lines.specs.Lines.{figure_line}
use Rattle.text.specs.WroteLaws.{wrote_both}
use Rattle.lines.proofs.figure_line.Goals as goal

pub returns-clause-put : goal.returns-clause-put
unfolding figure_line
returns-clause-put c = wrote_both c.hundredths.ensures c.byte.ensures
