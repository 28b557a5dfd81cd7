-- Every refusal of a file has a number in use and a sentence, and is that of the first test that fails. Assumes nothing.
use Rattle.std.specs.Prelude.{ℕ, ◌+◌, ◌≡◌, refl, List, [], ◌∷◌, ◌++◌, Ok, Err}
use Rattle.std.proofs.Common.{sym, ◌∙◌, ap}
use Rattle.refusal.specs.declared.Refusal.{Refusal}
use Rattle.refusal.specs.Test.{Test, verdict, first_refusal, Verdict, verdict_in}
use Rattle.refusal.specs.TestLaws.{verdict_append}
use Rattle.refusal.specs.FailedLaws.{FirstFailed, first_failed}
use Rattle.refusal.specs.EachLaws.{Each, each_append, each_item}
use Rattle.sentences.specs.Sentences.{told}
use Rattle.sentences.specs.KnownLaws.{Known, KnownIn}
use Rattle.sentences.proofs.KnownLaws.{each_known, verdict_known}
use Rattle.file.specs.declared.format.Format.{Format}
use Rattle.file.specs.declared.section.Section.{Section}
use Rattle.file.specs.declared.section.Records.{Records}
use Rattle.file.specs.declared.section.Records.TheVariants.{Courses, Deadwood, Seams}
use Rattle.file.specs.Format.{today}
use Rattle.file.specs.Section.{courses, sections, record_at}
use Rattle.form.specs.Tests.{size_tests, layout_tests}
use Rattle.readings.specs.Reading.{rise_of}
use Rattle.records.specs.Record.{first_sentence, record_of}
use Rattle.numbers.specs.Tests.{header_tests, course_tests, item_tests, seam_tests, record_tests, section_tests, sections_tests, limit_tests}
use Rattle.readings.specs.Tests.{reading_tests, corrected_tests, number_tests}
use Rattle.dimensions.specs.Tests.{dimension_tests}
use Rattle.survey.specs.declared.decode.Survey.{Survey}
use Rattle.survey.specs.Tests.{file_tests}
use Rattle.survey.specs.Survey.{survey_of, decoded_by, decoded_as, decoded}

record_known : (records : Records) (s : List ℕ) (at item : ℕ) → Each Known (record_tests records s (record { at = at; sentence = first_sentence records; item = item }))
unfolding course_tests item_tests seam_tests told
record_known Courses s at item = (refl, (refl, (refl, (refl, tt))))
record_known Deadwood s at item = (refl, (refl, tt))
record_known Seams s at item = (refl, (refl, (refl, tt)))

sections_known : (s : List ℕ) (xs : List Section) → Each Known (sections_tests s xs)
sections_known s [] = tt
sections_known s (x ∷ xs) =
    each_append Known (section_tests s x) (sections_tests s xs)
    (each_item Known x.count (λ i. record_tests x.records s (record_of x i)) (λ i l. record_known x.records s (record_at x i) (i + 1)))
    (sections_known s xs)

numbers_known : (f : Format) (s : List ℕ) → Each Known (number_tests f s)
unfolding header_tests reading_tests told
numbers_known f s =
    each_append Known (limit_tests f s) (corrected_tests f s)
    (each_append Known (header_tests s) (sections_tests s (sections f s)) (each_known (header_tests s) refl) (sections_known s (sections f s)))
    (each_item Known (courses f s).count (λ i. reading_tests s (record_of (courses f s) i) (rise_of f s i)) (λ i l. (refl, (refl, tt))))

file_known : (f : Format) (s : List ℕ) → Each Known (file_tests f s)
unfolding file_tests layout_tests dimension_tests told
file_known f s =
    each_append Known (size_tests f s) (layout_tests f s ++ (number_tests f s ++ dimension_tests f s)) (each_known (size_tests f s) refl)
    (each_append Known (layout_tests f s) (number_tests f s ++ dimension_tests f s) (each_known (layout_tests f s) refl)
    (each_append Known (number_tests f s) (dimension_tests f s) (numbers_known f s) (each_known (dimension_tests f s) refl)))

-- the verdict of decoding is that of the tests
pub decoded_as_verdict : (f : Format) (s : List ℕ) → verdict_in (decoded_as f s) ≡ verdict (file_tests f s)
decoded_as_verdict f s = go (verdict (file_tests f s)) (survey_of f s)
  where
    go : (w : Verdict) (v : Survey) → verdict_in (decoded_by w v) ≡ w
    go (Ok tt) v = refl
    go (Err r) v = refl

pub decoded_verdict : (s : List ℕ) → verdict_in (decoded s) ≡ verdict (file_tests today s)
unfolding decoded
decoded_verdict s = decoded_as_verdict today s

pub decoded_known : (f : Format) (s : List ℕ) → KnownIn (verdict_in (decoded_as f s))
decoded_known f s = rw (decoded_as_verdict f s) (verdict_known (file_tests f s) (file_known f s))

-- a refusal of a file, or of what is tested behind it, is that of the first test that fails, of all tests in their order
pub refused_by_its_test : (f : Format) (s : List ℕ) (behind : List Test) (r : Refusal) → first_refusal (verdict_in (decoded_as f s)) (verdict behind) ≡ Err r
    → FirstFailed (file_tests f s ++ behind) r
refused_by_its_test f s behind r e =
    first_failed (file_tests f s ++ behind) r
    (verdict_append (file_tests f s) behind ∙ ap (λ v. first_refusal v (verdict behind)) (sym (decoded_as_verdict f s)) ∙ e)
