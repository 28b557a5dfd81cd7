-- `survey_lookup::table_of` meets its contract: what it hands out is of the survey that was decoded. Assumes nothing.
use Rattle.survey_lookup.specs.Tabled.{tabled, no_rows}
use Rattle.survey_lookup.proofs.table_of.Goals as goal

pub returns : goal.returns
unfolding tabled no_rows
returns c =
    let schedule = c.schedule_of-schedule.ensures in
    let filled = c.in_ok-filled.ensures in
    rw (← c.in_ok-v.ensures.value, schedule.0, schedule.1, c.rows_in.ensures.0, filled.table_after, ← filled.value)
