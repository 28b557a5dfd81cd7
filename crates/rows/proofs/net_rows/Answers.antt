-- `rows::net_rows` meets its contract: each row's filling has not passed the next row's height, and what is stored is the net row. Assumes nothing.
use Rattle.std.proofs.Common.{arith, rules, ◌≡◌, ◌∙◌, ap, w64, to_z, of_z}
use Rattle.laws.specs.FillLaws.{filled_more, filled_all}
use Rattle.measure.specs.Quantity.{dip_units, diameter_units}
use Rattle.schedule.specs.RowsLaws.{height_next, count_pos}
use Rattle.tank.specs.FillingLaws.{not_past}
use Rattle.survey.specs.SurveyLaws.{SurveyLimits}
use Rattle.rows.specs.Rows.{net_at, rows_in, height_of, net_row}
use Rattle.rows.specs.RowLaws.{net_small, front_row}
use Rattle.rows.proofs.net_rows.Goals as goal

pub loop-i-preserved : goal.loop-i-preserved
unfolding net_at
loop-i-preserved c =
    let v = c.args.survey in
    let is = c.survey.view_is in
    let i = c.loop-i.i in
    let schedule = c.schedule_of-schedule.ensures in
    let height : dip_units c.height-h.result ≡ height_of v i = rw (← schedule.0, ← schedule.1) (ap dip_units c.height-h.ensures) in
    let plain : to_z w64 (of_z w64 c.net_at.result) ≡ c.net_at.result = search rules in (
      rw (c.on_to-filling.ensures, height, ap (λ w. w.tank) is) (not_past v.tank _ _ (height_next (diameter_units v.tank.dh) v.step (omega (arith, c.survey.invariant.limits.step_low, ap (λ w. w.step) is)) i)),
      rw (plain ∙ c.net_at.ensures ∙ ap (net_at v) height) (filled_more (omega (arith, c.rows_in-rows.ensures.0, c.loop-i.invariant.1.size)) c.loop-i.invariant.1),
    )

-- there is a row, so that a loop that begins at row 1 ends where this one does: what is wrong with it is row 0
pub returns-clause-rows : goal.returns-clause-rows
returns-clause-rows c =
    let v = c.args.survey in
    let l = c.loop-i in
    let some = count_pos (diameter_units v.tank.dh) v.step (omega (arith, c.survey.invariant.limits.step_low, ap (λ w. w.step) c.survey.view_is)) in
    let all : l.i ≡ rows_in v = omega (arith, c.rows_in-rows.ensures.0, some) in
    rw (← all) (filled_all l.invariant.1)

pub returns-clause-fit_cells : goal.returns-clause-fit_cells
returns-clause-fit_cells c =
    let v = c.args.survey in
    let l = c.loop-i in
    let limits : SurveyLimits v = rw (← c.survey.view_is) c.survey.invariant.limits in
    λ i inside. rw (filled_all l.invariant.1, front_row (net_row v) l.i _ i (omega (arith, inside, c.rows_in-rows.ensures.0, c.loop-i-test.false))) (net_small v (height_of v i) limits)
