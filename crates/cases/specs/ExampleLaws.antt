-- What document 01's example survey comes to: no test of the file refuses it, it has six rows, and it is answered with a table of its two
-- diameters and those rows. A program that refuses everything, or gives another row count, answers it falsely. Its table can be turned over.
-- Assumes nothing.
use Rattle.refusal.specs.Test.{verdict_in}
use Rattle.std.specs.Prelude.{ℕ, ◌+◌, ◌%◌, ◌≤◌, ◌≡◌, refl, List, length, get_or, Ok}
use Rattle.std.proofs.Common.{ap, arith}
use Rattle.measure.specs.Quantity.{diameter, diameter_units}
use Rattle.schedule.specs.Rows.{row_count}
use Rattle.survey.specs.Survey.{decoded_by, decoded, survey_in}
use Rattle.survey.proofs.SurveyLaws.{decoded_fits}
use Rattle.survey.specs.ExampleLaws.{six_rows, six_rows_survey}
use Rattle.survey.proofs.ExampleLaws.{six_rows_decoded}
use Rattle.table.specs.Answer.{made, table_left}
use Rattle.table.specs.NoDeadwoodLaws.{no_deadwood_answered}
use Rattle.mirror.specs.Mirrored.{MirroredSurvey, Around}
use Rattle.mirror.proofs.TableLaws.{table_mirrored}

pub example_accepted : verdict_in (decoded six_rows) ≡ Ok tt
example_accepted = ap (λ file. (verdict_in file)) six_rows_decoded

pub example_rows : row_count (diameter_units (survey_in (decoded six_rows)).tank.dh) (survey_in (decoded six_rows)).step ≡ 6
unfolding row_count
example_rows = ap (λ file. row_count (diameter_units (survey_in file).tank.dh) (survey_in file).step) six_rows_decoded

pub example_made : (cells : ℕ) → 6 ≤ cells → made (decoded six_rows) cells ≡ Ok (record { d1 = diameter 50000; d2 = diameter 50000; rows = 6 })
unfolding row_count
example_made cells room =
    rw six_rows_decoded
    (no_deadwood_answered (decoded_by (Ok tt) six_rows_survey) cells (rw six_rows_decoded at (decoded_fits six_rows)) refl refl room)

-- what a table must be to be turned over (document 02, E7) it is: so rows 0 and 5, 1 and 4, 2 and 3 together are row 5 within 3 v
pub example_mirrors : MirroredSurvey (survey_in (decoded six_rows))
example_mirrors = rw six_rows_decoded (record { tank = record { shell = refl; heads = refl; kind = refl }; no_deadwood = refl })

pub example_mirrored : (table : List ℕ) → 6 ≤ length table → (i j : ℕ) → i + j ≡ 5
    → let left = table_left (decoded six_rows) table in Around 3 (get_or left i 0) (get_or left j 0) (get_or left 5 0)
example_mirrored table room i j e =
    table_mirrored six_rows table (example_made (length table) room) example_mirrors whole i j (omega arith)
  where
    whole : diameter_units (survey_in (decoded six_rows)).tank.dh % (survey_in (decoded six_rows)).step ≡ 0
    whole = ap (λ file. diameter_units (survey_in file).tank.dh % (survey_in file).step) six_rows_decoded
