-- What converting a file with a header of 48 bytes gives (document 02, E4): the file in today's format where making its table, with room for
-- every row, meets no refusal; else the refusal. And that what was made of the old file is made of the new one. Assumes nothing.
use Rattle.refusal.specs.declared.Refusal.{Refusal}
use Rattle.refusal.specs.Test.{Verdict}
use Rattle.std.specs.Prelude.{ℕ, ◌≡◌, List, ◌++◌, length, take, drop, replicate, Result, Ok, Err}
use Rattle.schedule.specs.Rows.{most_rows}
use Rattle.file.specs.Format.{format48}
use Rattle.survey.specs.Survey.{decoded_as, decoded}
use Rattle.rewrite.specs.Rewritten.{rewritten, most_bytes}
use Rattle.table.specs.Answer.{verdict_on, made, table_left}
use Rattle.convert.specs.declared.Converted.{Converted}

-- a file at the front of the memory that goes with the answer
abbrev pub in_front : List ℕ → List ℕ
in_front file = file ++ drop (length file) (replicate most_bytes 0)

abbrev pub written : List ℕ → Converted
written s = record { length = length (rewritten s); file = in_front (rewritten s) }

abbrev pub converted_by : Verdict → List ℕ → Result Converted Refusal
converted_by (Ok tt) s = Ok (written s)
converted_by (Err r) s = Err r

unfoldable pub converted : List ℕ → Result Converted Refusal
converted s = converted_by (verdict_on (decoded_as format48 s) most_rows) s

-- the file that was written
abbrev pub file_in : Converted → List ℕ
file_in c = take c.length c.file

-- it is accepted, and whatever table is lent, the answer (D1, D2, the row count, or that the table is too short) and the table that is left are
-- those of the old file
abbrev pub Keeps : List ℕ → Result Converted Refusal → Type 0
Keeps s (Ok c) =
    (verdict_on (decoded (file_in c)) most_rows ≡ Ok tt)
    × ((table : List ℕ) → (made (decoded (file_in c)) (length table) ≡ made (decoded_as format48 s) (length table))
    × (table_left (decoded (file_in c)) table ≡ table_left (decoded_as format48 s) table))
Keeps s (Err r) = Unit {0}
