-- `text::put::Writer::three_digits` meets its contract: one digit after another. Assumes nothing.
use Rattle.text.specs.WroteLaws.{wrote_both}
use Rattle.text.proofs.put.Writer.three_digits.Goals as goal

pub returns : goal.returns
returns c = wrote_both (wrote_both c.digit.ensures c.digit-2.ensures) c.digit-3.ensures
