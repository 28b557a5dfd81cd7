-- What an answer in plain numbers promises, said outright: a claim about a row, of every row that it counts (a refusal counts none); of a
-- volume that was answered, that it is on the table; of a height that was answered, that it is the lowest; and of a file that was converted,
-- that its table is the old file's. Assumes nothing.
use Rattle.std.specs.Prelude.{ℕ, ◌<◌, ◌≡◌, List, length, take, Ok}
use Rattle.schedule.specs.Rows.{most_rows}
use Rattle.file.specs.Format.{format48}
use Rattle.survey.specs.Survey.{decoded_as, decoded}
use Rattle.survey.specs.declared.decode.Survey.{Survey}
use Rattle.table.specs.Answer.{verdict_on, made, table_left}
use Rattle.lookup.specs.Litres.{OnTable}
use Rattle.lookup.specs.Height.{Lowest}
use Rattle.answers.specs.declared.plain_numbers.LitresNumbers.{LitresNumbers}
use Rattle.answers.specs.declared.plain_numbers.HeightNumbers.{HeightNumbers}
use Rattle.answers.specs.declared.plain_numbers.ConvertedNumbers.{ConvertedNumbers}

abbrev pub EveryCounted : (Survey → List ℕ → ℕ → Type 0) → Survey → ℕ → List ℕ → Type 0
EveryCounted claim v rows table = (i : ℕ) → i < rows → claim v table i

abbrev pub OnTableAnswered : (dh step : ℕ) (table : List ℕ) (h : ℕ) → LitresNumbers → Type 0
OnTableAnswered dh step table h r = r.refusal ≡ 0 → OnTable dh step table h r.volume

abbrev pub LowestAnswered : (dh step : ℕ) (table : List ℕ) (w : ℕ) → HeightNumbers → Type 0
LowestAnswered dh step table w r = r.refusal ≡ 0 → Lowest dh step table w r.height

-- the file that was written
abbrev pub file_in : ConvertedNumbers → List ℕ
file_in r = take r.length r.file

-- it is accepted, and whatever table is lent, the answer (D1, D2, the row count, or that the table is too short) and the table that is left are
-- those of the old file
abbrev pub ConvertedKeeps : List ℕ → ConvertedNumbers → Type 0
ConvertedKeeps s r =
    r.refusal ≡ 0
    → (verdict_on (decoded (file_in r)) most_rows ≡ Ok tt)
    × ((table : List ℕ) → (made (decoded (file_in r)) (length table) ≡ made (decoded_as format48 s) (length table))
    × (table_left (decoded (file_in r)) table ≡ table_left (decoded_as format48 s) table))
