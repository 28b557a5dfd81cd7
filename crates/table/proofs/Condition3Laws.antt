-- Every cell that the call writes is the net row, and condition 3 holds of it. Assumes nothing.
use Rattle.survey.specs.Survey.{survey_in, Decoded}
use Rattle.std.specs.Prelude.{ℕ, ◌<◌, ◌≡◌, refl, true, List, ◌++◌, pos, negsuc, nat_abs, ◌+ℤ◌, length, drop, Ok, Err}
use Rattle.std.proofs.Common.{sym, ◌∙◌, ap, arith}
use Rattle.std.proofs.Math.IntN.{ℤ, -ℤ-+ℤ_cancel}
use Rattle.std.proofs.Math.ListN.{get_or-append}
use Rattle.std.specs.Int.Signed.{non_neg}
use Rattle.laws.specs.BoolLaws.{true_not_false}
use Rattle.laws.specs.Fill.{rows_of}
use Rattle.laws.specs.FillLaws.{length_rows_of, get_or_rows_of}
use Rattle.refusal.specs.Test.{verdict, Verdict, verdict_in}
use Rattle.refusal.specs.TestLaws.{passed_both}
use Rattle.tank.proofs.Condition3Laws.{condition3}
use Rattle.survey.specs.declared.decode.Survey.{Survey}
use Rattle.survey.specs.SurveyLaws.{SurveyLimits, WithinLimits}
use Rattle.rows.specs.Rows.{shares_at, net_at, rows_in, height_of, gross_row, net_row, cell_of}
use Rattle.row_tests.specs.Tests.{table_tests}
use Rattle.row_tests.specs.RowTestLaws.{none_below_zero}
use Rattle.row_tests.specs.Left.{left_by}
use Rattle.table.specs.Answer.{verdict_on, answer_by, made, table_left}
use Rattle.table.specs.Condition3.{NetRowAt, Condition3At, EveryRow}

natural_size : (z : ℤ) → non_neg z ≡ true → pos (nat_abs z) ≡ z
natural_size (pos n) e = refl
natural_size (negsuc n) e = absurd (true_not_false (sym e))

-- a row whose cell is the net row: the gross row is recovered from it
row_holds : (v : Survey) (table : List ℕ) (i : ℕ) → SurveyLimits v → NetRowAt v table i → Condition3At v table i
unfolding net_at
row_holds v table i l e =
    let h = height_of v i in
    record {
      restored = sym (ap (λ z. z +ℤ shares_at v h) e ∙ -ℤ-+ℤ_cancel (pos (gross_row v i)) (shares_at v h));
      slabs = λ cuts some. condition3 v.tank l.tank h cuts (λ part. (omega (arith, (some part).0), omega (arith, (some part).1)));
    }

-- what follows from a cell that is the net row holds of every row of the table that a call leaves ..
every_row_left : (claim : Survey → List ℕ → ℕ → Type 0) (file : Decoded) (table : List ℕ)
    → ((left : List ℕ) (i : ℕ) → verdict_in file ≡ Ok tt → NetRowAt (survey_in file) left i → claim (survey_in file) left i)
    → EveryRow claim (survey_in file) (made file (length table)) (table_left file table)
unfolding made table_left
every_row_left claim file table follows = by_verdict (verdict_on file (length table)) refl
  where
    v : Survey
    v = survey_in file

    by_verdict : (w : Verdict) → verdict_on file (length table) ≡ w
        → EveryRow claim v (answer_by w v) (left_by w (cell_of v) (rows_in v) table)
    by_verdict (Ok tt) e = λ i l.
        let both = passed_both (verdict_in file) (verdict (table_tests v (length table))) e in
        let cells = rows_of (cell_of v) (rows_in v) in
        let inside : i < rows_in v = omega arith in
        follows (cells ++ drop (rows_in v) table) i both.0
        (ap pos (get_or-append cells (drop (rows_in v) table) 0 i (omega (arith, length_rows_of (cell_of v) (rows_in v))) ∙ get_or_rows_of (cell_of v) 0 (rows_in v) i inside)
        ∙ natural_size (net_row v i) (none_below_zero v (length table) both.1 i inside))
    by_verdict (Err r) e = tt

-- .. that it is, and condition 3
pub net_rows_left : (file : Decoded) (table : List ℕ) → EveryRow NetRowAt (survey_in file) (made file (length table)) (table_left file table)
net_rows_left file table = every_row_left NetRowAt file table (λ left i passed net. net)

pub condition3_left : (file : Decoded) (table : List ℕ) → WithinLimits file
    → EveryRow Condition3At (survey_in file) (made file (length table)) (table_left file table)
condition3_left file table within =
    every_row_left Condition3At file table (λ left i passed net. row_holds (survey_in file) left i (within passed) net)
