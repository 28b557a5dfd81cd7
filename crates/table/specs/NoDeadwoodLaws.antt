-- A survey without deadwood: its net rows are its gross rows, so none falls below the row before. Where it passes
-- refusals 1 to 8 and 14 it is therefore answered with a table. Assumes nothing.
use Rattle.survey.specs.Survey.{survey_in, Decoded}
use Rattle.std.specs.Prelude.{ℕ, zero, suc, ◌≤◌, ◌≡◌, refl, true, [], Ok}
use Rattle.std.proofs.Common.{◌∙◌, add-one, arith, le-leb}
use Rattle.measure.specs.Quantity.{diameter_units}
use Rattle.refusal.specs.Test.{verdict, items, verdict_in}
use Rattle.refusal.specs.TestLaws.{all_passed}
use Rattle.schedule.specs.RowsLaws.{height_next}
use Rattle.tank.specs.RiseLaws.{gross_mono}
use Rattle.survey.specs.declared.decode.Survey.{Survey}
use Rattle.survey.specs.SurveyLaws.{SurveyLimits, WithinLimits}
use Rattle.rows.specs.Rows.{rows_in, height_of, net_row}
use Rattle.rows.specs.RowLaws.{net_is_gross}
use Rattle.row_tests.specs.Tests.{keeps_up, fall_test, table_tests}
use Rattle.row_tests.specs.RowTestLaws.{room_enough}
use Rattle.table.specs.Answer.{made}

module _ (v : Survey) (limits : SurveyLimits v) (no_items : v.deadwood ≡ []) where
  keeps_up_law : (i : ℕ) → keeps_up (net_row v) i ≡ true
  keeps_up_law zero = refl
  keeps_up_law (suc i) =
      let up = rw add-one at (height_next (diameter_units v.tank.dh) v.step (omega arith) i) in
      rw (net_is_gross v no_items (height_of v i), net_is_gross v no_items (height_of v (suc i)))
      (le-leb _ _ (gross_mono v.tank limits.tank (height_of v i) (height_of v (suc i)) up))

  none_fall : verdict (items (rows_in v) (fall_test (net_row v) (height_of v))) ≡ Ok tt
  none_fall = all_passed (rows_in v) (fall_test (net_row v) (height_of v)) (λ i l. rw (keeps_up_law i))

  pub no_deadwood_passed : (cells : ℕ) → rows_in v ≤ cells → verdict (table_tests v cells) ≡ Ok tt
  no_deadwood_passed cells room = room_enough (net_row v) (height_of v) (rows_in v) cells room ∙ none_fall

pub no_deadwood_answered : (file : Decoded) (cells : ℕ) → WithinLimits file → verdict_in file ≡ Ok tt → (survey_in file).deadwood ≡ []
    → rows_in (survey_in file) ≤ cells
    → made file cells ≡ Ok (record { d1 = (survey_in file).tank.d1; d2 = (survey_in file).tank.d2; rows = rows_in (survey_in file) })
unfolding made
no_deadwood_answered file cells within e no_items room =
    rw (e, no_deadwood_passed (survey_in file) (within e) no_items cells room)
