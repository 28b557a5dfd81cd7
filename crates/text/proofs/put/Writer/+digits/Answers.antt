-- `text::put::Writer::digits` meets its contract: the digits of a tenth, and then the last. Assumes nothing.
use Rattle.std.proofs.Common.{arith}
use Rattle.text.specs.DigitsLaws.{digits_more}
use Rattle.text.specs.WroteLaws.{wrote_both}
use Rattle.text.proofs.put.Writer.+digits.Goals as goal

pub returns : goal.returns
returns t c = rw (digits_more c.args.n (omega arith)) (wrote_both c.digits.ensures c.digit-2.ensures)
