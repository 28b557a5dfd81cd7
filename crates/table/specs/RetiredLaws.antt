-- The tests that refusal 10, a net row below zero, had before it was retired (document 02, E6). Assumes nothing.
use Rattle.std.specs.Prelude.{ℕ, List, [], ◌∷◌, ◌++◌, ℤ}
use Rattle.std.specs.Int.Signed.{non_neg}
use Rattle.refusal.specs.Test.{Test, about, test, items}
use Rattle.survey.specs.declared.decode.Survey.{Survey}
use Rattle.rows.specs.Rows.{rows_in, net_row}
use Rattle.row_tests.specs.Tests.{table_tests}

-- 10 was looked for once 9 had been in the whole table

abbrev pub below_zero_test : (ℕ → ℤ) → ℕ → List Test
below_zero_test row i = test 10 i (non_neg (row i)) (about 0 0 0 0 0) ∷ []

abbrev pub tests_before : Survey → ℕ → List Test
tests_before v cells =
    table_tests v cells ++ items (rows_in v) (below_zero_test (net_row v))
