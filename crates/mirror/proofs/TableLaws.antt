-- A survey and its table turned over, in the paper's words. Assumes nothing.
use Rattle.std.specs.Prelude.{ℕ, ◌+◌, ◌-◌, ◌%◌, ◌≤◌, ◌<◌, ◌≡◌, List, nat_abs, length, get_or, Ok}
use Rattle.std.proofs.Common.{◌∙◌, ap, subst, arith}
use Rattle.measure.specs.Quantity.{diameter_units}
use Rattle.schedule.specs.RowsLaws.{height_at_last, heights_mirrored}
use Rattle.refusal.specs.Test.{verdict, verdict_in}
use Rattle.refusal.specs.TestLaws.{passed_both}
use Rattle.tank.specs.Tank.{gross_at}
use Rattle.survey.specs.declared.decode.Survey.{Survey}
use Rattle.survey.specs.Survey.{decoded, survey_in}
use Rattle.survey.specs.SurveyLaws.{SurveyLimits}
use Rattle.survey.proofs.SurveyLaws.{decoded_fits}
use Rattle.rows.specs.Rows.{rows_in, height_of, gross_row}
use Rattle.rows.specs.RowLaws.{net_is_gross}
use Rattle.row_tests.specs.Tests.{table_tests}
use Rattle.table.specs.declared.make.Made.{Made}
use Rattle.table.specs.Answer.{made, table_left}
use Rattle.table.specs.AnswerLaws.{made_table}
use Rattle.table.specs.Condition3.{NetRowAt, EveryRow}
use Rattle.table.proofs.Condition3Laws.{net_rows_left}
use Rattle.mirror.specs.Mirrored.{MirroredTank, MirroredSurvey, mirror_tolerance, Around}
use Rattle.mirror.proofs.GrossLaws.{gross_mirrored}

-- E7, third law, of a survey that is accepted, with D1 = D2 = DH and heads of kind 0 or 1: at every dip height H from 0 to DH, a row's or not,
-- gross at H and gross at DH - H together are the full gross within 3 v. What deadwood takes is not in the gross
pub survey_mirrored : (s : List ℕ) → verdict_in (decoded s) ≡ Ok tt → let t = (survey_in (decoded s)).tank in let dh = diameter_units t.dh in
    MirroredTank t → (h : ℕ) → h ≤ dh → Around mirror_tolerance (gross_at t h) (gross_at t (dh - h)) (gross_at t dh)
survey_mirrored s accepted mirrors h high =
    let limits = decoded_fits s accepted in
    gross_mirrored (survey_in (decoded s)).tank (omega (arith, limits.tank.dh_low)) mirrors h _ (omega arith)

-- .. and of a table that is made of such a survey, without deadwood; `left` is the lent memory as the call leaves it
module _ (s table : List ℕ) {answered : Made} (answer : made (decoded s) (length table) ≡ Ok answered) (mirrors : MirroredSurvey (survey_in (decoded s))) where
  abbrev rows : ℕ
  rows = answered.rows

  abbrev v : Survey
  v = survey_in (decoded s)

  abbrev dh : ℕ
  dh = diameter_units v.tank.dh

  abbrev left : List ℕ
  left = table_left (decoded s) table

  counted : rows ≡ rows_in v
  counted = (made_table (decoded s) (length table) answer).1

  limits : SurveyLimits v
  limits =
      decoded_fits s
      (passed_both (verdict_in (decoded s)) (verdict (table_tests v (length table))) (made_table (decoded s) (length table) answer).0).0

  some_step : 0 < v.step
  some_step = omega (arith, limits.step_low)

  -- each cell is the gross row
  cell_is_gross : (i : ℕ) → i < rows → get_or left i 0 ≡ gross_row v i
  cell_is_gross i inside =
      let every = subst (λ a. EveryRow NetRowAt v a left) answer (net_rows_left (decoded s) table) in
      ap nat_abs (every i inside ∙ net_is_gross v mirrors.no_deadwood (height_of v i))

  -- two rows at heights that add up to DH together are the last row within 3 v
  pub rows_mirrored : (i j : ℕ) → i < rows → j < rows → height_of v i + height_of v j ≡ dh
      → Around mirror_tolerance (get_or left i 0) (get_or left j 0) (get_or left (rows - 1) 0)
  rows_mirrored i j i-inside j-inside e =
      let last : height_of v (rows - 1) ≡ dh = height_at_last dh v.step some_step (rows - 1) (omega (arith, counted)) in
      rw (cell_is_gross i i-inside, cell_is_gross j j-inside, cell_is_gross (rows - 1) (omega arith), last)
      (gross_mirrored v.tank (omega (arith, limits.tank.dh_low)) mirrors.tank (height_of v i) (height_of v j) e)

  -- where DH is a number of whole steps the whole table can be turned over: row i, and the row that is as far from the last
  pub table_mirrored : dh % v.step ≡ 0 → (i j : ℕ) → i + j + 1 ≡ rows
      → Around mirror_tolerance (get_or left i 0) (get_or left j 0) (get_or left (rows - 1) 0)
  table_mirrored whole i j all =
      rows_mirrored i j (omega arith) (omega arith) (heights_mirrored dh v.step some_step whole i j (omega (arith, counted)))
