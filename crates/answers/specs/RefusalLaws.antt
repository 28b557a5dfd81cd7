-- The number of a refusal alone tells a C program whether it was answered: an answer whose number is not in use, as 0 is not, met no refusal.
-- And no answer has refusal 10, which is retired. Assumes nothing.
use Rattle.std.specs.Prelude.{ℕ, ◌≡◌, true, false, List, Ok, Err}
use Rattle.std.proofs.Math.Path.{refl, ap}
use Rattle.std.proofs.Common.{arith}
use Rattle.schedule.specs.Rows.{most_rows}
use Rattle.refusal.specs.declared.Refusal.{Refusal}
use Rattle.refusal.specs.Test.{Test, verdict, in_use, Verdict, verdict_in}
use Rattle.sentences.specs.Sentences.{told}
use Rattle.sentences.specs.KnownLaws.{all_known}
use Rattle.sentences.proofs.KnownLaws.{each_known, verdict_known, unused_is_passed}
use Rattle.file.specs.declared.format.Format.{Format}
use Rattle.survey.specs.Survey.{decoded_as, decoded, survey_in}
use Rattle.file.specs.Format.{format48, today}
use Rattle.table.specs.Answer.{verdict_on, answer_by, made}
use Rattle.table.specs.KnownLaws.{refusal_known}
use Rattle.convert.specs.Converted.{converted_by, converted}
use Rattle.lookup.specs.Litres.{litres}
use Rattle.lookup.specs.Height.{height_for}
use Rattle.lookup.specs.Answer.{litres_tests, litres_by, litres_answer, height_tests, height_by, height_answer}
use Rattle.answers.specs.Numbers.{table_numbers, litres_numbers, height_numbers, converted_numbers}

-- a number that is not in use
module _ (n : ℕ) (unused : in_use n ≡ false) where
  -- `number` is what an answer made of a verdict tells: of a refusal, its number. The verdict is on a file and its rows, or on tests with numbers
  -- in use
  module _ (number : Verdict → ℕ) (passed_on : (r : Refusal) → number (Err r) ≡ r.number) where
    rows_answered : (f : Format) (s : List ℕ) (cells : ℕ) → number (verdict_on (decoded_as f s) cells) ≡ n → verdict_on (decoded_as f s) cells ≡ Ok tt
    rows_answered f s cells = unused_is_passed number passed_on n unused (verdict_on (decoded_as f s) cells) (refusal_known f s cells)

    tests_answered : (ts : List Test) → all_known ts ≡ true → number (verdict ts) ≡ n → verdict ts ≡ Ok tt
    tests_answered ts all = unused_is_passed number passed_on n unused (verdict ts) (verdict_known ts (each_known ts all))

  pub table_answered : (s : List ℕ) (cells : ℕ) → (table_numbers (made (decoded s) cells)).refusal ≡ n → verdict_on (decoded s) cells ≡ Ok tt
  unfolding made decoded
  table_answered s cells = rows_answered (λ w. (table_numbers (answer_by w (survey_in (decoded s)))).refusal) (λ r. refl) today s cells

  pub convert_accepted : (s : List ℕ) → (converted_numbers (converted s)).refusal ≡ n → verdict_on (decoded_as format48 s) most_rows ≡ Ok tt
  unfolding converted
  convert_accepted s = rows_answered (λ w. (converted_numbers (converted_by w s)).refusal) (λ r. refl) format48 s most_rows

  pub convert_answered : (s : List ℕ) → (converted_numbers (converted s)).refusal ≡ n → verdict_in (converted s) ≡ Ok tt
  unfolding converted
  convert_answered s e = ap (λ w. (verdict_in (converted_by w s))) (convert_accepted s e)

  pub litres_answered : (dh step : ℕ) (rows : List ℕ) (h : ℕ) → (litres_numbers (litres_answer dh step rows h)).refusal ≡ n
      → verdict (litres_tests dh step rows h) ≡ Ok tt
  unfolding litres_answer told
  litres_answered dh step rows h =
      tests_answered (λ v. (litres_numbers (litres_by v (litres dh step rows h))).refusal) (λ r. refl) (litres_tests dh step rows h) refl

  pub height_answered : (dh step : ℕ) (rows : List ℕ) (w : ℕ) → (height_numbers (height_answer dh step rows w)).refusal ≡ n
      → verdict (height_tests dh step rows w) ≡ Ok tt
  unfolding height_answer told
  height_answered dh step rows w =
      tests_answered (λ v. (height_numbers (height_by v (height_for dh step rows w))).refusal) (λ r. refl) (height_tests dh step rows w) refl

-- whatever the file, the table lent and what is asked
pub never_10 :
    ((s : List ℕ) (cells : ℕ) → (table_numbers (made (decoded s) cells)).refusal ≡ 10 → ⊥)
    × ((s : List ℕ) → (converted_numbers (converted s)).refusal ≡ 10 → ⊥)
    × ((dh step : ℕ) (rows : List ℕ) (h : ℕ) → (litres_numbers (litres_answer dh step rows h)).refusal ≡ 10 → ⊥)
    × ((dh step : ℕ) (rows : List ℕ) (w : ℕ) → (height_numbers (height_answer dh step rows w)).refusal ≡ 10 → ⊥)
unfolding made converted litres_answer height_answer
never_10 = (
  λ s cells e. omega (arith, rw (table_answered 10 refl s cells e) at e),
  λ s e. omega (arith, rw (convert_accepted 10 refl s e) at e),
  λ dh step rows h e. omega (arith, rw (litres_answered 10 refl dh step rows h e) at e),
  λ dh step rows w e. omega (arith, rw (height_answered 10 refl dh step rows w e) at e),
)
