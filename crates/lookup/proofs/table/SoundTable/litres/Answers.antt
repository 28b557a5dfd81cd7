-- `lookup::table::SoundTable::litres` meets its contract: at DH the last row, below it the line from the row below to the row above.
-- Assumes nothing.
use Rattle.std.proofs.Common.{arith, sym, ◌∙◌, ap, ap₂, ◌+◌, ◌-◌, ◌/◌}
use Rattle.measure.specs.Quantity.{dip_units}
use Rattle.lookup.specs.Line.{line_value}
use Rattle.lookup.specs.Table.{row}
use Rattle.lookup.specs.TableLaws.{sound}
use Rattle.lookup.proofs.LitresLaws.{litres_at_top, litres_inside}
use Rattle.lookup.proofs.table.SoundTable.litres.Goals as goal

pub returns-then-h-self : goal.returns-then-h-self
returns-then-h-self c =
    let t = c.args.self.now in
    rw c.if-h-self.true (c.last.ensures ∙ sym (litres_at_top t.schedule.dh t.schedule.step t.rows.now (sound _ _ _ t.sound)))

pub returns : goal.returns
returns c =
    let t = c.args.self.now in
    let h = c.args.h in
    let low = c.units-low.ensures ∙ ap dip_units c.height.ensures in
    let high = c.units-high.ensures ∙ ap dip_units c.height-2.ensures in
    c.on_line.ensures
    ∙ ap₂ (λ x y. line_value (row t.rows.now (h / t.schedule.step)) (row t.rows.now (h / t.schedule.step + 1)) (h - x) (y - x)) low high
    ∙ sym (litres_inside t.schedule.dh t.schedule.step t.rows.now (sound _ _ _ t.sound) h (omega arith))
