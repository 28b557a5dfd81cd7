-- Each answer as plain numbers: the refusal's number and place, both 0 where nothing is refused, and the figures, all 0 in a
-- refusal; and a refusal in words. Assumes nothing.
use Rattle.lookup.specs.Answer.{LitresAnswer, HeightAnswer}
use Rattle.std.specs.Prelude.{ℕ, List, eqb, length, replicate, Result, Ok, Err}
use Rattle.laws.specs.Order.{pick}
use Rattle.refusal.specs.declared.About.{About}
use Rattle.refusal.specs.declared.Refusal.{Refusal}
use Rattle.refusal.specs.Test.{about, Verdict}
use Rattle.measure.specs.Quantity.{diameter_units, dip_units, volume_units}
use Rattle.schedule.specs.Rows.{most_rows}
use Rattle.file.specs.Format.{format48}
use Rattle.survey.specs.Survey.{decoded_as}
use Rattle.table.specs.declared.make.Made.{Made}
use Rattle.table.specs.declared.make.NumberedRefusal.{NumberedRefusal}
use Rattle.table.specs.Answer.{verdict_on}
use Rattle.rewrite.specs.Rewritten.{most_bytes}
use Rattle.convert.specs.declared.Converted.{Converted}
use Rattle.text.specs.Put.{overwritten}
use Rattle.sentences.specs.Sentences.{of_old_header, words, words_size}
use Rattle.answers.specs.declared.plain_numbers.TableNumbers.{TableNumbers}
use Rattle.answers.specs.declared.plain_numbers.LitresNumbers.{LitresNumbers}
use Rattle.answers.specs.declared.plain_numbers.HeightNumbers.{HeightNumbers}
use Rattle.answers.specs.declared.plain_numbers.ConvertedNumbers.{ConvertedNumbers}
use Rattle.answers.specs.declared.words.Words.{Words}

abbrev pub table_numbers : Result Made NumberedRefusal → TableNumbers
table_numbers (Ok made) = record { refusal = 0; place = 0; d1 = diameter_units made.d1; d2 = diameter_units made.d2; rows = made.rows }
table_numbers (Err r) = record { refusal = r.number; place = r.place; d1 = 0; d2 = 0; rows = 0 }

abbrev pub litres_numbers : LitresAnswer → LitresNumbers
litres_numbers (Ok v) = record { refusal = 0; place = 0; volume = volume_units v }
litres_numbers (Err r) = record { refusal = r.number; place = r.place; volume = 0 }

abbrev pub height_numbers : HeightAnswer → HeightNumbers
height_numbers (Ok h) = record { refusal = 0; place = 0; height = dip_units h }
height_numbers (Err r) = record { refusal = r.number; place = r.place; height = 0 }

-- a converted file: how many bytes, and the memory at whose front they stand
abbrev pub converted_numbers : Result Converted Refusal → ConvertedNumbers
converted_numbers (Ok c) = record { refusal = 0; place = 0; length = c.length; file = c.file }
converted_numbers (Err r) = record { refusal = r.number; place = r.place; length = 0; file = replicate most_bytes 0 }

-- what a test is about in words: how many bytes, and these at the front of a text that is 0 behind them
abbrev pub words_about : About → Words
words_about a = record { length = length (words a); text = overwritten (words a) (replicate words_size 0) }

-- the words of a verdict: none where nothing is refused
abbrev pub words_of : Verdict → Words
words_of (Ok tt) = record { length = 0; text = replicate words_size 0 }
words_of (Err r) = words_about r.about

-- .. of converting a file whose header has so many bytes: there is one such length, and words for any other, so that nobody takes none for a
-- file that could be converted
abbrev pub conversion_words : (header : ℕ) → List ℕ → Words
conversion_words header s = pick (eqb header format48.header) (words_of (verdict_on (decoded_as format48 s) most_rows)) (words_about (about of_old_header 0 header 0 format48.header))
