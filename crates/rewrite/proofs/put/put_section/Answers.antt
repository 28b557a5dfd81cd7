-- `rewrite::put::put_section` meets its contract: one number after the other. Assumes nothing.
use Rattle.text.specs.WroteLaws.{wrote_both}
use Rattle.rewrite.proofs.put.put_section.Goals as goal

pub returns : goal.returns
returns c = wrote_both c.put_word.ensures c.put_word-2.ensures
