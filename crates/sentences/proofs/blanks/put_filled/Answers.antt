-- Nothing is put at first, and a turn puts a byte more, filled in.
use Rattle.std.proofs.Common.{arith, ◌<◌, add-one, length, take-suc}
use Rattle.text.specs.WroteLaws.{wrote_nothing, wrote_both}
use Rattle.sentences.proofs.Lines.{filled_none, filled_next}
use Rattle.sentences.proofs.blanks.put_filled.Goals as goal

pub loop-b-init : goal.loop-b-init
loop-b-init c = rw filled_none (wrote_nothing _)

pub loop-b-preserved : goal.loop-b-preserved
loop-b-preserved c =
    let s = c.args.sentence.now in
    let i = c.loop-b.b-index in
    let read : i < length s = omega arith in
    rw (add-one i, take-suc s i 0 read, filled_next) (wrote_both c.loop-b.invariant c.put_filled_in.ensures)
