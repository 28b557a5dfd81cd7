-- `lookup::height::lowest` halves the interval in which the lowest height is: its length is the measure. Assumes nothing.
use Rattle.std.proofs.Common.{◌-◌}
use Rattle.lookup.specs.HeightLaws.{Among}
use Rattle.lookup.proofs.height.lowest.Given as goal

abbrev pub invariant-loop-low : goal.invariant-loop-low
invariant-loop-low l = Among l.table.schedule.dh l.table.schedule.step l.table.rows.now l.w l.low l.high

abbrev pub decreases-loop-low : goal.decreases-loop-low
decreases-loop-low l = l.high - l.low
