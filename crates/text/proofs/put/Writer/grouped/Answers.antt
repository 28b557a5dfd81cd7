-- `text::put::Writer::grouped` meets its contract: the whole part in threes, then the decimals. Assumes nothing.
use Rattle.text.specs.Grouped.{grouped}
use Rattle.text.specs.WroteLaws.{wrote_both}
use Rattle.text.proofs.put.Writer.grouped.Goals as goal

pub returns : goal.returns
unfolding grouped
returns c = wrote_both c.in_threes.ensures c.two_decimals.ensures
