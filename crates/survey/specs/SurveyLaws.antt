-- What a file that is not refused promises of its survey, as plain facts. Assumes nothing.
use Rattle.refusal.specs.Test.{verdict_in}
use Rattle.std.specs.Prelude.{◌≤◌, ◌≡◌, Ok}
use Rattle.deadwood.specs.ListLaws.{DeadwoodLimits}
use Rattle.schedule.specs.Rows.{smallest_step, largest_step}
use Rattle.tank.specs.TankLaws.{TankLimits}
use Rattle.survey.specs.declared.decode.Survey.{Survey}
use Rattle.survey.specs.Survey.{survey_in, Decoded}

-- what a survey that is not refused promises to whoever reads it
pub record SurveyLimits (v : Survey) : Type 0 where
  pub tank : TankLimits v.tank
  pub step_low : smallest_step ≤ v.step
  pub step_high : v.step ≤ largest_step
  pub items : DeadwoodLimits v.deadwood

abbrev pub WithinLimits : Decoded → Type 0
WithinLimits d = verdict_in d ≡ Ok tt → SurveyLimits (survey_in d)
