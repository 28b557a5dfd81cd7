-- A survey file's own table with what a lookup takes beside it: DH, the step and the row count; or the refusal. Assumes nothing.
use Rattle.refusal.specs.declared.Refusal.{Refusal}
use Rattle.survey.specs.Survey.{survey_in, Decoded}
use Rattle.refusal.specs.Test.{Verdict}
use Rattle.std.specs.Prelude.{ℕ, List, take, replicate, Result, Ok, Err}
use Rattle.measure.specs.Quantity.{diameter_units}
use Rattle.schedule.specs.Rows.{most_rows}
use Rattle.survey.specs.declared.decode.Survey.{Survey}
use Rattle.rows.specs.Rows.{rows_in}
use Rattle.table.specs.Answer.{verdict_on, table_left}
use Rattle.survey_lookup.specs.declared.Tabled.{Tabled}

-- the memory that the rows are written to, with room for the most rows
unfoldable pub no_rows : List ℕ
no_rows = replicate most_rows 0

abbrev pub tabled_by : Verdict → Survey → List ℕ → Result Tabled Refusal
tabled_by (Ok tt) v table = Ok (record { dh = diameter_units v.tank.dh; step = v.step; rows = rows_in v; table = table })
tabled_by (Err r) v table = Err r

unfoldable pub tabled : Decoded → Result Tabled Refusal
tabled file = tabled_by (verdict_on file most_rows) (survey_in file) (table_left file no_rows)

-- the rows of a table in hand: as many as it counts, from the front of its memory
abbrev pub own_rows : Tabled → List ℕ
own_rows t = take t.rows t.table
