-- The library's own statements say what the plain numbers promise. Assumes nothing.
use Rattle.survey.specs.Survey.{decoded_as, decoded, survey_in, Decoded}
use Rattle.schedule.specs.Rows.{most_rows}
use Rattle.refusal.specs.declared.Refusal.{Refusal}
use Rattle.refusal.specs.Test.{Verdict, verdict_in}
use Rattle.refusal.specs.TestLaws.{refused_not_passed}
use Rattle.file.specs.Format.{format48}
use Rattle.std.specs.Prelude.{ℕ, ◌≤◌, ◌<◌, ◌≡◌, true, List, length, Result, IfOk, Ok, Err}
use Rattle.std.proofs.Math.Path.{refl}
use Rattle.std.proofs.Common.{arith}
use Rattle.laws.specs.Exactly.{Exactly}
use Rattle.survey.specs.declared.decode.Survey.{Survey}
use Rattle.rewrite.specs.Rewritten.{most_bytes}
use Rattle.table.specs.Answer.{made, answer_by, verdict_on, table_left}
use Rattle.table.specs.Condition3.{EveryRow}
use Rattle.convert.specs.declared.Converted.{Converted}
use Rattle.convert.specs.Converted.{converted, Keeps}
use Rattle.lookup.specs.Table.{sound_table}
use Rattle.lookup.specs.Litres.{litres}
use Rattle.lookup.specs.Height.{height_for}
use Rattle.lookup.specs.Answer.{litres_by, litres_answer, ReadOff, TooHigh, height_by, height_answer, Reached, TooMuch}
use Rattle.lookup.proofs.AnswerLaws.{above_limit, read_off_only, reached_only}
use Rattle.answers.specs.declared.plain_numbers.LitresNumbers.{LitresNumbers}
use Rattle.answers.specs.declared.plain_numbers.HeightNumbers.{HeightNumbers}
use Rattle.answers.specs.Numbers.{table_numbers, litres_numbers, height_numbers, converted_numbers}
use Rattle.answers.specs.Promises.{EveryCounted, OnTableAnswered, LowestAnswered, file_in, ConvertedKeeps}
use Rattle.answers.specs.RefusalLaws.{litres_answered, height_answered, convert_answered}

pub counted : (claim : Survey → List ℕ → ℕ → Type 0) (file : Decoded) (cells : ℕ) (table : List ℕ)
    → EveryRow claim (survey_in file) (made file cells) table → EveryCounted claim (survey_in file) (table_numbers (made file cells)).rows table
unfolding made
counted claim file cells table = by_verdict (verdict_on file cells)
  where
    by_verdict : (w : Verdict) → EveryRow claim (survey_in file) (answer_by w (survey_in file)) table
        → EveryCounted claim (survey_in file) (table_numbers (answer_by w (survey_in file))).rows table
    by_verdict (Ok tt) holds = holds
    by_verdict (Err r) holds = λ i l. absurd (omega arith)

module _ (dh step : ℕ) (table : List ℕ) where
  pub on_table_answered : (h : ℕ) → ReadOff dh step table h (litres_answer dh step table h)
      → OnTableAnswered dh step table h (litres_numbers (litres_answer dh step table h))
  unfolding litres_answer
  on_table_answered h told e =
      let passed = litres_answered 0 refl dh step table h e in
      rw passed (rw passed at told)

  pub lowest_answered : (w : ℕ) → Reached dh step table w (height_answer dh step table w)
      → LowestAnswered dh step table w (height_numbers (height_answer dh step table w))
  unfolding height_answer
  lowest_answered w told e =
      let passed = height_answered 0 refl dh step table w e in
      rw passed (rw passed at told)

  -- refusals 12 and 13 by their numbers alone
  pub number_12 : (h : ℕ) → Exactly ((litres_numbers (litres_answer dh step table h)).refusal ≡ 12) (TooHigh dh step table h)
  unfolding litres_answer
  number_12 h =
      above_limit dh step table (λ v. (litres_numbers (litres_by v (litres dh step table h))).refusal ≡ 12) 12 _ h dh (λ e. omega arith) (λ e. omega arith) refl

  pub number_13 : (w : ℕ) → Exactly ((height_numbers (height_answer dh step table w)).refusal ≡ 13) (TooMuch dh step table w)
  unfolding height_answer
  number_13 w =
      above_limit dh step table (λ v. (height_numbers (height_by v (height_for dh step table w))).refusal ≡ 13) 13 _ w _ (λ e. omega arith) (λ e. omega arith) refl

  -- what is promised leaves no other figure
  pub on_table_only : (h : ℕ) (r : LitresNumbers) → r.refusal ≡ 0 → sound_table dh step table ≡ true → h ≤ dh → OnTableAnswered dh step table h r
      → r.volume ≡ litres dh step table h
  on_table_only h r e s l told = read_off_only dh step table h r.volume s l (told e)

  pub lowest_only : (w : ℕ) (r : HeightNumbers) → r.refusal ≡ 0 → LowestAnswered dh step table w r → height_for dh step table w ≡ r.height
  lowest_only w r e told = reached_only dh step table w r.height (told e)

-- a converted file

pub converted_keeps : (s : List ℕ) → Keeps s (converted s) → ConvertedKeeps s (converted_numbers (converted s))
converted_keeps s told e = by_answer (converted s) (convert_answered 0 refl s e) told
  where
    by_answer : (r : Result Converted Refusal) → verdict_in r ≡ Ok tt → Keeps s r
        → (verdict_on (decoded (file_in (converted_numbers r))) most_rows ≡ Ok tt)
        × ((table : List ℕ) → (made (decoded (file_in (converted_numbers r))) (length table) ≡ made (decoded_as format48 s) (length table))
        × (table_left (decoded (file_in (converted_numbers r))) table ≡ table_left (decoded_as format48 s) table))
    by_answer (Ok c) passed told = told
    by_answer (Err r) passed told = absurd (refused_not_passed r passed)

pub numbers_short : (answer : Result Converted Refusal) → IfOk answer (λ c. c.length ≤ most_bytes) → (converted_numbers answer).length ≤ most_bytes
numbers_short (Ok c) short = short
numbers_short (Err r) short = omega arith

-- a claim about every row counted is one about each
pub each_counted : (claim : Survey → List ℕ → ℕ → Type 0) (v : Survey) (rows : ℕ) (table : List ℕ) → EveryCounted claim v rows table
    → (i : ℕ) → i < rows → claim v table i
each_counted claim v rows table every i l = every i l
