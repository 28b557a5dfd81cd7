-- `lines::refused_line` meets its contract: its pieces are put one after another. Assumes nothing.
use Rattle.lines.specs.Lines.{refused_line}
use Rattle.text.specs.WroteLaws.{wrote_both}
use Rattle.lines.proofs.refused_line.Goals as goal

pub returns-clause-put : goal.returns-clause-put
unfolding refused_line
returns-clause-put c = wrote_both (wrote_both (wrote_both (wrote_both c.bytes.ensures c.digits.ensures) c.byte.ensures) c.digits-2.ensures) c.byte-2.ensures
