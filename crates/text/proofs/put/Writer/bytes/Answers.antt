-- One more byte is put: the bytes up to it, and it behind them.
use Rattle.std.proofs.Common.{arith, ◌<◌, add-one, length, take-suc}
use Rattle.text.specs.WroteLaws.{wrote_both}
use Rattle.text.proofs.put.Writer.bytes.Goals as goal

pub loop-b-preserved : goal.loop-b-preserved
loop-b-preserved c =
    let s = c.args.s.now in
    let i = c.loop-b.b-index in
    let read : i < length s = omega arith in
    rw (add-one i, take-suc s i 0 read) (wrote_both c.loop-b.invariant c.byte.ensures)
