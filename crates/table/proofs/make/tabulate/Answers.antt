-- `table::make::tabulate` meets its contract: the answer of the verdict, and what holds of every row of it. Assumes nothing.
use Rattle.std.specs.Prelude.{Result}
use Rattle.std.proofs.Common.{◌≡◌, ◌∙◌, ap, length, List, ℕ}
use Rattle.std.proofs.lemmas.Result.{err_from_is_err_and}
use Rattle.survey.specs.declared.decode.Survey.{Survey}
use Rattle.survey.specs.Survey.{Decoded, survey_in}
use Rattle.survey.specs.SurveyLaws.{SurveyLimits, WithinLimits}
use Rattle.rows.specs.Rows.{rows_in, cell_of}
use Rattle.row_tests.specs.Left.{left_by}
use Rattle.table.specs.declared.make.Made.{Made}
use Rattle.table.specs.declared.make.NumberedRefusal.{NumberedRefusal}
use Rattle.table.specs.Answer.{made, table_left}
use Rattle.table.specs.Condition3.{NetRowAt, Condition3At, EveryRow}
use Rattle.table.proofs.Condition3Laws.{net_rows_left, condition3_left}
use Rattle.table.proofs.make.tabulate.Goals as goal

pub returns-in_err-v-clause-value : goal.returns-in_err-v-clause-value
unfolding made
returns-in_err-v-clause-value c =
    let p = err_from_is_err_and c.from_residual.result c.from_residual.ensures.1 in
    rw (p.1, p.2, c.in_err-v.was)

pub returns-in_err-v-clause-table_after : goal.returns-in_err-v-clause-table_after
unfolding table_left
returns-in_err-v-clause-table_after c = rw c.in_err-v.was

pub returns-in_err-fill-clause-value : goal.returns-in_err-fill-clause-value
unfolding made
returns-in_err-fill-clause-value c =
    let p = err_from_is_err_and c.from_residual-in_err-fill.result c.from_residual-in_err-fill.ensures.1 in
    rw (p.1, p.2, c.in_ok-v.was, ← c.in_err-fill.ensures.value)

pub returns-in_err-fill-clause-table_after : goal.returns-in_err-fill-clause-table_after
unfolding table_left
returns-in_err-fill-clause-table_after c =
    let v = c.in_ok-v.v in
    let filled = c.in_err-fill.ensures in
    rw c.in_ok-v.was (filled.table_after ∙ ap (λ w. left_by w (cell_of v) (rows_in v) c.args.table.now) filled.value)

pub returns-clause-value : goal.returns-clause-value
unfolding made
returns-clause-value c =
    let tank = c.v-inside.view_is in
    let survey = c.v.view_is in
    rw (c.in_ok-v.was, ← c.in_ok-fill.ensures.value, c.rows_in-rows.ensures.0, ap (λ v. v.tank.d1) tank, ap (λ v. v.tank.d2) tank, ap (λ v. v.tank.d1) survey, ap (λ v. v.tank.d2) survey)

pub returns-clause-table_after : goal.returns-clause-table_after
unfolding table_left
returns-clause-table_after c =
    let v = c.in_ok-v.v in
    let filled = c.in_ok-fill.ensures in
    rw c.in_ok-v.was (filled.table_after ∙ ap (λ w. left_by w (cell_of v) (rows_in v) c.args.table.now) filled.value)

-- a claim of every row that the definition has, of the answer and the table that are the definition's
told : (claim : Survey → List ℕ → ℕ → Type 0) (file : Decoded) (table : List ℕ) {answer : Result Made NumberedRefusal} {left : List ℕ}
    → answer ≡ made file (length table) → left ≡ table_left file table
    → EveryRow claim (survey_in file) (made file (length table)) (table_left file table) → EveryRow claim (survey_in file) answer left
told claim file table p q every = rw (p, q) every

pub returns-clause-net_rows : goal.returns-clause-net_rows
returns-clause-net_rows c =
    let a = c.args in
    told NetRowAt a.file a.table.now (returns-clause-value c) (returns-clause-table_after c) (net_rows_left a.file a.table.now)

pub returns-clause-condition3 : goal.returns-clause-condition3
returns-clause-condition3 c =
    let a = c.args in
    let limits : SurveyLimits c.in_ok-v.v = rw (← c.v.view_is) c.v.invariant.limits in
    let within : WithinLimits a.file = rw c.in_ok-v.was (λ e. limits) in
    told Condition3At a.file a.table.now (returns-clause-value c) (returns-clause-table_after c) (condition3_left a.file a.table.now within)
