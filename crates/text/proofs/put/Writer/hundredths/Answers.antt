-- `text::put::Writer::hundredths` meets its contract: the whole part, then the decimals. Assumes nothing.
use Rattle.text.specs.Digits.{hundredths}
use Rattle.text.specs.WroteLaws.{wrote_both}
use Rattle.text.proofs.put.Writer.hundredths.Goals as goal

pub returns : goal.returns
unfolding hundredths
returns c = wrote_both c.digits.ensures c.two_decimals.ensures
