-- What the answer of the call that makes a table tells of the file and of the table that it left, and that bytes in no section change
-- neither. Assumes nothing.
use Rattle.std.specs.Prelude.{ℕ, ◌≡◌, List, length, take, drop, Ok, Err}
use Rattle.std.proofs.Math.Path.{refl, sym, ap, ap₂}
use Rattle.std.proofs.Common.{◌∙◌, arith, take_at}
use Rattle.laws.specs.FillLaws.{length_rows_of}
use Rattle.refusal.specs.Test.{verdict, first_refusal, Verdict, verdict_in}
use Rattle.refusal.specs.PlainLaws.{plain, plain_first}
use Rattle.survey.specs.declared.decode.Survey.{Survey}
use Rattle.survey.specs.Survey.{decoded, survey_in, Decoded}
use Rattle.survey.specs.IgnoredLaws.{Alike, SameSections}
use Rattle.survey.proofs.IgnoredLaws.{other_bytes_ignored}
use Rattle.rows.specs.Rows.{rows_in, cell_of, table_of}
use Rattle.row_tests.specs.Tests.{table_tests}
use Rattle.row_tests.specs.Left.{left_by}
use Rattle.table.specs.declared.make.Made.{Made}
use Rattle.table.specs.Answer.{verdict_on, answer_by, made, table_left}

pub made_table : (file : Decoded) (cells : ℕ) {m : Made} → made file cells ≡ Ok m → (verdict_on file cells ≡ Ok tt) × (m.rows ≡ rows_in (survey_in file))
unfolding made
made_table file cells {m} e = go (verdict_on file cells) e
  where
    v : Survey
    v = survey_in file

    go : (w : Verdict) → answer_by w v ≡ Ok m → (w ≡ Ok tt) × (m.rows ≡ rows_in v)
    go (Ok tt) h =
        let is : record { d1 = v.tank.d1; d2 = v.tank.d2; rows = rows_in v } ≡ m = cc in
        (refl, ap (λ x. x.rows) (sym is))
    go (Err q) h = absurd (let z : ◌≡◌ {A = ℕ} 0 1 = cc in omega arith)

-- the front of the table that was left is the survey's rows
pub front_is_table : (file : Decoded) (table : List ℕ) → verdict_on file (length table) ≡ Ok tt → take (rows_in (survey_in file)) (table_left file table) ≡ table_of (survey_in file)
unfolding table_left
front_is_table file table e =
    let v = (survey_in file) in
    rw e (take_at (table_of v) (drop (rows_in v) table) (rows_in v) (length_rows_of (cell_of v) (rows_in v)))

-- files that are decoded alike get the same answer and leave the same table: both go by a refusal's number and place alone

module _ (file file' : Decoded) (alike : Alike file file') where
  same_verdict : (cells : ℕ) → plain (verdict_on file cells) ≡ plain (verdict_on file' cells)
  same_verdict cells =
      plain_first (verdict_in file) (verdict (table_tests (survey_in file) cells))
      ∙ ap₂ (λ v survey. first_refusal v (plain (verdict (table_tests survey cells)))) alike.0 alike.1
      ∙ sym (plain_first (verdict_in file') (verdict (table_tests (survey_in file') cells)))

  alike_answer : (cells : ℕ) → made file cells ≡ made file' cells
  unfolding made
  alike_answer cells = by_plain (verdict_on file cells) (verdict_on file' cells) (same_verdict cells)
    where
      by_plain : (v v' : Verdict) → plain v ≡ plain v' → answer_by v (survey_in file) ≡ answer_by v' (survey_in file')
      by_plain v v' e = plainly v (survey_in file) ∙ ap₂ answer_by e alike.1 ∙ sym (plainly v' (survey_in file'))
        where
          plainly : (v : Verdict) (survey : Survey) → answer_by v survey ≡ answer_by (plain v) survey
          plainly (Ok tt) survey = refl
          plainly (Err r) survey = refl

  alike_table : (table : List ℕ) → table_left file table ≡ table_left file' table
  unfolding table_left
  alike_table table = by_plain (verdict_on file (length table)) (verdict_on file' (length table)) (same_verdict (length table))
    where
      by_plain : (v v' : Verdict) → plain v ≡ plain v' → left_by v (cell_of (survey_in file)) (rows_in (survey_in file)) table ≡ left_by v' (cell_of (survey_in file')) (rows_in (survey_in file')) table
      by_plain v v' e = plainly v (survey_in file) ∙ ap₂ (λ w survey. left_by w (cell_of survey) (rows_in survey) table) e alike.1 ∙ sym (plainly v' (survey_in file'))
        where
          plainly : (v : Verdict) (survey : Survey) → left_by v (cell_of survey) (rows_in survey) table ≡ left_by (plain v) (cell_of survey) (rows_in survey) table
          plainly (Ok tt) survey = refl
          plainly (Err r) survey = refl

-- so do files that differ only in bytes of no section

pub same_answer : (s s' : List ℕ) (cells : ℕ) → SameSections s s' → made (decoded s) cells ≡ made (decoded s') cells
same_answer s s' cells same = alike_answer (decoded s) (decoded s') (other_bytes_ignored s s' same) cells

pub same_table : (s s' table : List ℕ) → SameSections s s' → table_left (decoded s) table ≡ table_left (decoded s') table
same_table s s' table same = alike_table (decoded s) (decoded s') (other_bytes_ignored s s' same) table
