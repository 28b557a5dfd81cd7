-- `lookup::height::lowest` meets its contract: with too few litres at the middle, the lowest height is above it. Assumes nothing.
use Rattle.std.proofs.Common.{arith, ◌+◌, ◌-◌, ◌/◌}
use Rattle.lookup.specs.TableLaws.{sound}
use Rattle.lookup.proofs.HeightLaws.{among_upper}
use Rattle.lookup.proofs.height.lowest.Goals as goal

pub loop-low-preserved-then-litres-w : goal.loop-low-preserved-then-litres-w
loop-low-preserved-then-litres-w c =
    let l = c.loop-low in
    among_upper l.low (l.low + (l.high - l.low) / 2) l.high (sound _ _ _ c.args.table.now.sound) (omega arith) (omega arith) l.invariant
