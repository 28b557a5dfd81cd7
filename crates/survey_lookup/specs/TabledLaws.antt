-- What a survey file's own table tells: the verdict on the file, and where that refuses nothing the numbers and rows of its survey.
-- Assumes nothing.
use Rattle.std.specs.Prelude.{ℕ, ◌≤◌, ◌≡◌, refl, List, length, take, Result, Ok, Err}
use Rattle.std.proofs.Common.{sym, ◌∙◌, ap, arith, length-take}
use Rattle.std.proofs.lemmas.List.{length-replicate}
use Rattle.laws.specs.FillLaws.{length_rows_of}
use Rattle.measure.specs.Quantity.{diameter_units}
use Rattle.refusal.specs.declared.Refusal.{Refusal}
use Rattle.refusal.specs.Test.{verdict, Verdict, verdict_in}
use Rattle.refusal.specs.TestLaws.{passed_both}
use Rattle.schedule.specs.Rows.{smallest_step, row_count, most_rows}
use Rattle.schedule.specs.RowsLaws.{few_rows}
use Rattle.survey.specs.declared.decode.Survey.{Survey}
use Rattle.survey.specs.Survey.{decoded, survey_in, Decoded}
use Rattle.survey.specs.SurveyLaws.{WithinLimits}
use Rattle.survey.proofs.SurveyLaws.{decoded_fits}
use Rattle.rows.specs.Rows.{rows_in, cell_of, table_of}
use Rattle.row_tests.specs.Tests.{table_tests}
use Rattle.table.specs.Answer.{verdict_on, table_left}
use Rattle.table.specs.AnswerLaws.{front_is_table}
use Rattle.survey_lookup.specs.declared.Tabled.{Tabled}
use Rattle.survey_lookup.specs.Tabled.{no_rows, tabled_by, tabled}
use Rattle.survey_lookup.specs.Answer.{answer_by, answer_in, answer_from}

pub no_rows_room : length no_rows ≡ most_rows
unfolding no_rows
no_rows_room = length-replicate {A = ℕ} most_rows 0

pub tabled_verdict : (file : Decoded) → verdict_in (tabled file) ≡ verdict_on file most_rows
unfolding tabled
tabled_verdict file = go (verdict_on file most_rows) (survey_in file) (table_left file no_rows)
  where
    go : (w : Verdict) (v : Survey) (table : List ℕ) → verdict_in (tabled_by w v table) ≡ w
    go (Ok tt) v table = refl
    go (Err r) v table = refl

-- the table of a survey that is not refused
abbrev table-with : Survey → List ℕ → Tabled
table-with v table = record { dh = diameter_units v.tank.dh; step = v.step; rows = rows_in v; table = table }

pub record Ready (v : Survey) (t : Tabled) : Type 0 where
  pub step_low : smallest_step ≤ t.step
  pub rows_are : t.rows ≡ row_count t.dh t.step
  pub few : t.rows ≤ most_rows
  pub inside : t.rows ≤ length t.table
  pub front : take t.rows t.table ≡ table_of v

ready : (file : Decoded) {t : Tabled} → WithinLimits file → tabled file ≡ Ok t → Ready (survey_in file) t
unfolding tabled
ready file {t} within is =
    let v = (survey_in file) in
    let passed = sym (tabled_verdict file) ∙ ap verdict_in is in
    let limits = within (passed_both (verdict_in file) (verdict (table_tests v most_rows)) passed).0 in
    let few = few_rows (diameter_units v.tank.dh) v.step limits.tank.dh_high limits.step_low in
    let front = front_is_table file no_rows (rw no_rows_room passed) in
    let both : ◌≡◌ {A = Result Tabled Refusal} (Ok t) (tabled_by (Ok tt) v (table_left file no_rows)) = sym is ∙ ap (λ w. tabled_by w v (table_left file no_rows)) passed in
    let t-is : t ≡ table-with v (table_left file no_rows) = grind arith in
    rw t-is (record {
      step_low = limits.step_low;
      rows_are = refl;
      few = few;
      inside = omega (arith, length-take (rows_in v) (table_left file no_rows), ap length front, length_rows_of (cell_of v) (rows_in v));
      front = front;
    })

-- of a file of any bytes
pub ready_file : (s : List ℕ) {t : Tabled} → Ok t ≡ tabled (decoded s) → Ready (survey_in (decoded s)) t
ready_file s is = ready (decoded s) (decoded_fits s) (sym is)

-- any lookup on a file's own table is the answer from the file
pub answer_in_file : {A : Type 0} (refused : Refusal → A) (look : ℕ → ℕ → List ℕ → A) (file : Decoded)
    → answer_in refused look (tabled file) ≡ answer_from refused look file
unfolding tabled
answer_in_file {A} refused look file = go (verdict_on file most_rows) refl
  where
    go : (w : Verdict) → verdict_on file most_rows ≡ w
        → answer_in refused look (tabled_by w (survey_in file) (table_left file no_rows))
        ≡ answer_by refused look w (diameter_units (survey_in file).tank.dh) (survey_in file).step (table_of (survey_in file))
    go (Ok tt) e = ap (look _ _) (front_is_table file no_rows (rw no_rows_room e))
    go (Err r) e = refl
