-- Refusal 10, a net row below zero, is retired (document 02, E6): in every table that is made no row is below zero, so with the tests that
-- refusal 10 had every file gets the verdict that it gets without them. Assumes nothing.
use Rattle.survey.specs.Survey.{survey_in, Decoded}
use Rattle.std.specs.Prelude.{ℕ, ◌<◌, ◌≡◌, refl, true, Ok, Err}
use Rattle.std.proofs.Common.{◌∙◌, ap, arith}
use Rattle.std.specs.Int.Signed.{non_neg}
use Rattle.refusal.specs.Test.{verdict, items, first_refusal, Verdict, verdict_in}
use Rattle.refusal.specs.TestLaws.{verdict_append, passed_both, all_passed}
use Rattle.survey.specs.declared.decode.Survey.{Survey}
use Rattle.rows.specs.Rows.{rows_in, net_row}
use Rattle.row_tests.specs.Tests.{table_tests}
use Rattle.row_tests.specs.RowTestLaws.{none_below_zero}
use Rattle.table.specs.declared.make.Made.{Made}
use Rattle.table.specs.Answer.{verdict_on, made}
use Rattle.table.specs.AnswerLaws.{made_table}
use Rattle.table.specs.RetiredLaws.{below_zero_test, tests_before}

pub no_row_below_zero : (file : Decoded) (cells : ℕ) {m : Made} → made file cells ≡ Ok m
    → (i : ℕ) → i < m.rows → non_neg (net_row (survey_in file) i) ≡ true
no_row_below_zero file cells e i l =
    let table = made_table file cells e in
    let rows = (passed_both (verdict_in file) (verdict (table_tests (survey_in file) cells)) table.0).1 in
    none_below_zero (survey_in file) cells rows i (omega (arith, table.1))

same_verdict : (v : Survey) (cells : ℕ) → verdict (tests_before v cells) ≡ verdict (table_tests v cells)
same_verdict v cells =
    verdict_append (table_tests v cells) (items (rows_in v) (below_zero_test (net_row v))) ∙ by_verdict (verdict (table_tests v cells)) refl
  where
    by_verdict : (w : Verdict) → verdict (table_tests v cells) ≡ w → first_refusal w (verdict (items (rows_in v) (below_zero_test (net_row v)))) ≡ w
    by_verdict (Ok tt) e = all_passed (rows_in v) (below_zero_test (net_row v)) (λ i l. rw (none_below_zero v cells e i l))
    by_verdict (Err r) e = refl

-- the verdict before, on any file and for a lent table of any length, is the verdict
pub same_verdict_on : (file : Decoded) (cells : ℕ) → first_refusal (verdict_in file) (verdict (tests_before (survey_in file) cells)) ≡ verdict_on file cells
same_verdict_on file cells = ap (first_refusal (verdict_in file)) (same_verdict (survey_in file) cells)
