-- The lookups on a survey file's own table. On a table in hand: its refusal, or the lookup on its rows. From a decoded file: what the file
-- and its table are refused for comes first, then the lookup on the net rows. Assumes nothing.
use Rattle.survey.specs.Survey.{survey_in, Decoded}
use Rattle.refusal.specs.Test.{Verdict}
use Rattle.std.specs.Prelude.{ℕ, ◌≡◌, List, Result, Ok, Err}
use Rattle.measure.specs.Quantity.{diameter_units}
use Rattle.refusal.specs.declared.Refusal.{Refusal}
use Rattle.schedule.specs.Rows.{most_rows}
use Rattle.survey.specs.declared.decode.Survey.{Survey}
use Rattle.rows.specs.Rows.{table_of}
use Rattle.table.specs.Answer.{verdict_on}
use Rattle.lookup.specs.Answer.{litres_answer, ReadOff, height_answer, Reached, LitresAnswer, HeightAnswer}
use Rattle.lookup.specs.Delivered.{delivered_answer, ReadOffBoth, DeliveredAnswer}
use Rattle.survey_lookup.specs.declared.Tabled.{Tabled}
use Rattle.survey_lookup.specs.Tabled.{tabled, own_rows}

abbrev pub answer_by : {A : Type 0} → (Refusal → A) → (ℕ → ℕ → List ℕ → A) → Verdict → ℕ → ℕ → List ℕ → A
answer_by refused look (Ok tt) dh step rows = look dh step rows
answer_by refused look (Err r) dh step rows = refused r

abbrev pub answer_in : {A : Type 0} → (Refusal → A) → (ℕ → ℕ → List ℕ → A) → Result Tabled Refusal → A
answer_in refused look (Ok t) = look t.dh t.step (own_rows t)
answer_in refused look (Err r) = refused r

-- the table lent has room for the most rows
abbrev pub answer_from : {A : Type 0} → (Refusal → A) → (ℕ → ℕ → List ℕ → A) → Decoded → A
answer_from refused look file =
    answer_by refused look (verdict_on file most_rows) (diameter_units (survey_in file).tank.dh) (survey_in file).step (table_of (survey_in file))

-- litres at a height

unfoldable pub litres_in : Result Tabled Refusal → ℕ → LitresAnswer
litres_in t h = answer_in Err (λ d s rows. litres_answer d s rows h) t

unfoldable pub litres_from : Decoded → ℕ → LitresAnswer
litres_from file h = answer_from Err (λ d s rows. litres_answer d s rows h) file

-- the lowest height for a volume

unfoldable pub height_in : Result Tabled Refusal → ℕ → HeightAnswer
height_in t w = answer_in Err (λ d s rows. height_answer d s rows w) t

unfoldable pub height_from : Decoded → ℕ → HeightAnswer
height_from file w = answer_from Err (λ d s rows. height_answer d s rows w) file

-- the litres delivered between two heights

unfoldable pub delivered_in : Result Tabled Refusal → ℕ → ℕ → DeliveredAnswer
delivered_in t before after = answer_in Err (λ d s rows. delivered_answer d s rows before after) t

unfoldable pub delivered_from : Decoded → ℕ → ℕ → DeliveredAnswer
delivered_from file before after = answer_from Err (λ d s rows. delivered_answer d s rows before after) file

-- of what is answered, what it is on the survey's own table, said outright

abbrev pub ReadOffOwn : Survey → ℕ → LitresAnswer → Type 0
ReadOffOwn v h answer = ReadOff (diameter_units v.tank.dh) v.step (table_of v) h answer

abbrev pub ReachedOwn : Survey → ℕ → HeightAnswer → Type 0
ReachedOwn v w answer = Reached (diameter_units v.tank.dh) v.step (table_of v) w answer

abbrev pub ReadOffBothOwn : Survey → ℕ → ℕ → DeliveredAnswer → Type 0
ReadOffBothOwn v before after answer = ReadOffBoth (diameter_units v.tank.dh) v.step (table_of v) before after answer

-- said of an answer on a table in hand: of every file whose table that is, it is the answer from the file, and what that is outright
abbrev pub AsFromFile : {A : Type 0} → (Decoded → A) → (Survey → A → Type 0) → Result Tabled Refusal → A → Type 0
AsFromFile from Own t answer = (file : Decoded) → t ≡ tabled file → (answer ≡ from file) × Own (survey_in file) answer
