-- A converted file is accepted and keeps the table: both files give the same survey. Assumes nothing.
use Rattle.std.specs.Prelude.{◌≡◌, refl, List, ℕ, ◌≤◌, length, IfOk, Ok, Err}
use Rattle.std.proofs.Common.{◌∙◌, ap}
use Rattle.std.proofs.Math.Seq.{take-append_seam}
use Rattle.schedule.specs.Rows.{most_rows}
use Rattle.refusal.specs.Test.{verdict, Verdict, verdict_in}
use Rattle.refusal.specs.TestLaws.{passed_both}
use Rattle.file.specs.Format.{format48}
use Rattle.survey.specs.Survey.{decoded_as, decoded, survey_in}
use Rattle.rewrite.specs.Rewritten.{rewritten, most_bytes}
use Rattle.rewrite.proofs.RewrittenLaws.{rewritten_fits, rewritten_decoded}
use Rattle.row_tests.specs.Tests.{table_tests}
use Rattle.table.specs.Answer.{verdict_on, made, table_left}
use Rattle.convert.specs.Converted.{written, converted_by, converted, file_in, Keeps}

-- an old file that is accepted
module _ (s : List ℕ) (e : verdict_on (decoded_as format48 s) most_rows ≡ Ok tt) where
  pub old_passes : verdict_in (decoded_as format48 s) ≡ Ok tt
  old_passes = let old = decoded_as format48 s in (passed_both (verdict_in old) (verdict (table_tests (survey_in old) most_rows)) e).0

  -- the file that is written has its survey
  same_survey : decoded (file_in (written s)) ≡ decoded_as format48 s
  same_survey = ap decoded (take-append_seam (rewritten s) _) ∙ rewritten_decoded s old_passes

  accepted_keeps : Keeps s (converted_by (Ok tt) s)
  accepted_keeps = (
    ap (λ file. verdict_on file most_rows) same_survey ∙ e,
    λ table. (ap (λ file. made file (length table)) same_survey, ap (λ file. table_left file table) same_survey),
  )

pub converted_short : (s : List ℕ) → IfOk (converted s) (λ c. c.length ≤ most_bytes)
unfolding converted
converted_short s = by_verdict (verdict_on (decoded_as format48 s) most_rows) refl
  where
    by_verdict : (v : Verdict) → verdict_on (decoded_as format48 s) most_rows ≡ v → IfOk (converted_by v s) (λ c. c.length ≤ most_bytes)
    by_verdict (Ok tt) e = rewritten_fits s (old_passes s e)
    by_verdict (Err r) e = tt

pub converted_keeps : (s : List ℕ) → Keeps s (converted s)
unfolding converted
converted_keeps s = by_verdict (verdict_on (decoded_as format48 s) most_rows) refl
  where
    by_verdict : (v : Verdict) → verdict_on (decoded_as format48 s) most_rows ≡ v → Keeps s (converted_by v s)
    by_verdict (Ok tt) e = accepted_keeps s e
    by_verdict (Err r) e = tt
