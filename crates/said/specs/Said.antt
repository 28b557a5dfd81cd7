-- What is said of an answer in hand: on standard output a table, a lookup's answer or the line of a refusal, as document 01 has them; on
-- standard error, beside a refusal, what it means in words. Assumes nothing.
use Rattle.refusal.specs.Test.{Verdict}
use Rattle.lookup.specs.Delivered.{DeliveredAnswer}
use Rattle.lookup.specs.Answer.{LitresAnswer, HeightAnswer}
use Rattle.std.specs.Prelude.{ℕ, zero, suc, ◌≤◌, ◌≡◌, List, [], ◌++◌, length, Result, Ok, Err}
use Rattle.measure.specs.declared.dip_height.DipHeight.{DipHeight}
use Rattle.measure.specs.declared.volume.Volume.{Volume}
use Rattle.measure.specs.Quantity.{dip_units, volume_units}
use Rattle.schedule.specs.Rows.{smallest_step, row_count, row_height, most_rows}
use Rattle.refusal.specs.declared.Refusal.{Refusal}
use Rattle.lookup.specs.Table.{row}
use Rattle.text.specs.Put.{Says}
use Rattle.lines.specs.Lines.{rows_line, row_line, refused_line, figure_line, signed_line}
use Rattle.sentences.specs.Sentences.{words_line, words_size}
use Rattle.said.specs.declared.Said.{Said}

-- both texts, each in its memory
pub record Told (room : ℕ) (text words out₀ out err₀ err : List ℕ) (said : Said) : Type 0 where
  pub printed : Says room text out₀ out said.out
  pub beside : Says words_size words err₀ err said.err

-- a refusal

abbrev pub refused_text : Refusal → List ℕ
refused_text r = refused_line r.number r.place

abbrev pub refused_words : Refusal → List ℕ
refused_words r = words_line r.about

-- what is said of an answer: its text, with nothing beside it; or the line of the refusal, and what that means in words

abbrev pub answer_text : {A : Type 0} → (A → List ℕ) → Result A Refusal → List ℕ
answer_text text (Ok a) = text a
answer_text text (Err r) = refused_text r

abbrev pub answer_words : {A : Type 0} → Result A Refusal → List ℕ
answer_words (Ok a) = []
answer_words (Err r) = refused_words r

-- .. of a verdict, with the text of what it lets pass
unfoldable pub text_by : Verdict → List ℕ → List ℕ
text_by verdict text = answer_text (λ passed. text) verdict

abbrev pub verdict_words : Verdict → List ℕ
verdict_words verdict = answer_words verdict

-- a lookup's answer: its line

abbrev pub litres_line : Volume → List ℕ
litres_line v = figure_line (volume_units v)

abbrev pub litres_text : LitresAnswer → List ℕ
litres_text answer = answer_text litres_line answer

abbrev pub litres_words : LitresAnswer → List ℕ
litres_words answer = answer_words answer

abbrev pub height_line : DipHeight → List ℕ
height_line h = figure_line (dip_units h)

abbrev pub height_text : HeightAnswer → List ℕ
height_text answer = answer_text height_line answer

abbrev pub height_words : HeightAnswer → List ℕ
height_words answer = answer_words answer

abbrev pub delivered_text : DeliveredAnswer → List ℕ
delivered_text answer = answer_text signed_line answer

abbrev pub delivered_words : DeliveredAnswer → List ℕ
delivered_words answer = answer_words answer

-- a table

-- room for a line for each of the most rows, and the line before them
abbrev pub out_size : ℕ
out_size = 131072

-- its rows are all there
abbrev pub Whole : (dh step rows : ℕ) (table : List ℕ) → Type 0
Whole dh step rows table = (smallest_step ≤ step) × (rows ≡ row_count dh step) × (rows ≤ most_rows) × (rows ≤ length table)

-- a line for each of the first n rows
unfoldable pub rows_text : (dh step : ℕ) (table : List ℕ) (n : ℕ) → List ℕ
rows_text dh step table zero = []
rows_text dh step table (suc n) = rows_text dh step table n ++ row_line (row_height dh step n) (row table n)

-- .. behind the line of their count
abbrev pub whole_text : (dh step : ℕ) (table : List ℕ) (rows : ℕ) → List ℕ
whole_text dh step table rows = rows_line rows ++ rows_text dh step table rows
