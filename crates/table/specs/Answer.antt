-- The call's whole answer and the table that it leaves: the refusal of the file, then those of its rows, in the paper's order.
-- Assumes nothing.
use Rattle.survey.specs.Survey.{survey_in, Decoded}
use Rattle.std.specs.Prelude.{ℕ, List, length, Result, Ok, Err}
use Rattle.refusal.specs.declared.Refusal.{Refusal}
use Rattle.refusal.specs.Test.{verdict, first_refusal, Verdict, verdict_in}
use Rattle.survey.specs.declared.decode.Survey.{Survey}
use Rattle.rows.specs.Rows.{rows_in, cell_of}
use Rattle.row_tests.specs.Tests.{table_tests}
use Rattle.row_tests.specs.Left.{left_by}
use Rattle.table.specs.declared.make.Made.{Made}
use Rattle.table.specs.declared.make.NumberedRefusal.{NumberedRefusal}

-- refusals 1 to 9 and 14, for a lent table of so many cells
abbrev pub verdict_on : Decoded → ℕ → Verdict
verdict_on file cells = first_refusal (verdict_in file) (verdict (table_tests (survey_in file) cells))

-- a refusal's number and place, which is all of it that the answer keeps
abbrev pub numbered : Refusal → NumberedRefusal
numbered r = record { number = r.number; place = r.place }

-- D1, D2 and the row count; or the refusal's number and place
abbrev pub answer_by : Verdict → Survey → Result Made NumberedRefusal
answer_by (Ok tt) v = Ok (record { d1 = v.tank.d1; d2 = v.tank.d2; rows = rows_in v })
answer_by (Err r) v = Err (numbered r)

-- the answer
unfoldable pub made : Decoded → ℕ → Result Made NumberedRefusal
made file cells = answer_by (verdict_on file cells) (survey_in file)

-- the lent table as the call leaves it: the net rows and then the rest as it was, or all as it was
unfoldable pub table_left : Decoded → List ℕ → List ℕ
table_left file table = left_by (verdict_on file (length table)) (cell_of (survey_in file)) (rows_in (survey_in file)) table
