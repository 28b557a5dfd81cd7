-- `text::put::Writer::two_decimals` meets its contract: the point and the two digits, one after another. Assumes nothing.
use Rattle.text.specs.WroteLaws.{wrote_both}
use Rattle.text.proofs.put.Writer.two_decimals.Goals as goal

pub returns : goal.returns
returns c = wrote_both (wrote_both c.byte.ensures c.digit.ensures) c.digit-2.ensures
