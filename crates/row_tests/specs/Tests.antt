-- The tests of a table (document 01, refusals 8 and 9): the lent table has a cell for each row, and no net row is below the row before,
-- with the index of the first such row; each with what it is about. 10 is retired (document 02, E6). Assumes nothing.
use Rattle.std.specs.Prelude.{ℕ, zero, suc, Bool, true, List, [], ◌∷◌, leb, ℤ}
use Rattle.std.specs.Int.Signed.{le_z}
use Rattle.refusal.specs.Test.{Test, about, test, items}
use Rattle.sentences.specs.Sentences.{of_lent_table, of_falling_row}
use Rattle.survey.specs.declared.decode.Survey.{Survey}
use Rattle.rows.specs.Rows.{rows_in, height_of, net_row}

-- row i is not below the row before; the row at height 0 has none before it
abbrev pub keeps_up : (ℕ → ℤ) → ℕ → Bool
keeps_up row zero = true
keeps_up row (suc i) = le_z (row i) (row (suc i))

abbrev pub fall_test : (row : ℕ → ℤ) (height : ℕ → ℕ) → ℕ → List Test
fall_test row height i = test 9 i (keeps_up row i) (about of_falling_row i (height i) 0 0) ∷ []

-- of so many rows at these heights, for a lent table of so many cells
unfoldable pub row_tests : (row : ℕ → ℤ) (height : ℕ → ℕ) (rows cells : ℕ) → List Test
row_tests row height rows cells = test 8 0 (leb rows cells) (about of_lent_table 0 0 0 0) ∷ items rows (fall_test row height)

-- of a survey's net rows
abbrev pub table_tests : Survey → ℕ → List Test
table_tests v cells = row_tests (net_row v) (height_of v) (rows_in v) cells
