-- `lines::signed_line` meets its contract: its pieces are put one after another. Assumes nothing.
use Rattle.std.proofs.Common.{to_z-of_z}
use Rattle.lines.specs.Lines.{signed_line}
use Rattle.text.specs.WroteLaws.{wrote_both}
use Rattle.lines.proofs.signed_line.Goals as goal

pub returns-clause-put : goal.returns-clause-put
unfolding signed_line
returns-clause-put c =
    let plain = to_z-of_z c.ranges.z in
    wrote_both (wrote_both (rw plain at c.put_sign.ensures) (rw (c.unsigned_abs.ensures.value, plain) at c.hundredths.ensures)) c.byte.ensures
