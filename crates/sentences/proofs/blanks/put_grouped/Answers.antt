-- `sentences::blanks::put_grouped` meets its contract: its pieces are put one after another. Assumes nothing.
use Rattle.std.proofs.Common.{to_z-of_z}
use Rattle.text.specs.WroteLaws.{wrote_both}
use Rattle.sentences.proofs.blanks.put_grouped.Goals as goal

pub returns : goal.returns
returns c =
    let plain = to_z-of_z c.ranges.z in
    wrote_both (rw plain at c.minus.ensures) (rw (c.unsigned_abs.ensures.value, plain) at c.grouped.ensures)
