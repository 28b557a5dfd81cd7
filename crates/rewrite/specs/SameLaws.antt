-- Two files, each in its format, that hold the same numbers have the same survey; and what is tested of the one's numbers passes for the
-- other's. Where a number stands in its file is not asked. Assumes nothing.
use Prim.Native.Nat.{ℕ, zero, suc, ◌+◌, ◌≤◌, ◌<◌}
use Rattle.std.specs.Prelude.{◌≡◌, List, Ok}
use Rattle.std.proofs.Math.Path.{refl, ap}
use Rattle.std.proofs.Common.{sym, ◌∙◌, le_refl, arith}
use Rattle.laws.specs.Fill.{rows_of}
use Rattle.laws.specs.FillLaws.{rows_of_agree}
use Rattle.refusal.specs.Test.{verdict}
use Rattle.refusal.specs.TestLaws.{passed_all}
use Rattle.deadwood.specs.Item.{heights_fit, volume_fits}
use Rattle.file.specs.declared.format.Format.{Format}
use Rattle.file.specs.declared.section.Section.{Section}
use Rattle.file.specs.Word.{word, signed_word}
use Rattle.file.specs.Layout.{kind_at, dh_at, l1_at, left_at, right_at, l2_at, l3_at, step_at, courses_at, first_in, second_in, length_in, thickness_in, low_in, high_in, volume_in, course_end, item_end}
use Rattle.file.specs.Section.{courses, deadwood, record_at}
use Rattle.records.specs.Item.{item_from, items_of}
use Rattle.readings.specs.Reading.{rise_of}
use Rattle.dimensions.specs.Dimensions.{sum_of, sums_over, sums_of, shell_diameter, d1, d2}
use Rattle.records.specs.Record.{record_of}
use Rattle.numbers.specs.Tests.{header_tests, course_tests, item_tests}
use Rattle.readings.specs.Tests.{reading_tests}
use Rattle.dimensions.specs.Tests.{dimension_tests}
use Rattle.survey.specs.Survey.{survey_of}

-- records of two sections have the same words, up to so many bytes
abbrev pub SameRecords : (s t : List ℕ) (x y : Section) (long : ℕ) → Type 0
SameRecords s t x y long = (i k : ℕ) → i < x.count → k + 4 ≤ long → word s (record_at x i + k) ≡ word t (record_at y i + k)

pub record SameNumbers (f : Format) (s : List ℕ) (g : Format) (t : List ℕ) : Type 0 where
  pub header : (at : ℕ) → at + 4 ≤ courses_at → word s at ≡ word t at
  pub courses_count : (courses f s).count ≡ (courses g t).count
  pub deadwood_count : (deadwood f s).count ≡ (deadwood g t).count
  pub course : SameRecords s t (courses f s) (courses g t) course_end
  pub item : SameRecords s t (deadwood f s) (deadwood g t) item_end
  pub rise : (i : ℕ) → rise_of f s i ≡ rise_of g t i

module _ (f : Format) (s : List ℕ) (g : Format) (t : List ℕ) (same : SameNumbers f s g t) where
  -- the sums, and D1 and D2

  sums_agree : (n : ℕ) → n ≤ (courses f s).count → sums_over f s n ≡ sums_over g t n
  unfolding sums_over sum_of
  sums_agree zero l = refl
  sums_agree (suc n) l =
      let word_of : (k : ℕ) → k + 4 ≤ course_end → word s (record_at (courses f s) n + k) ≡ word t (record_at (courses g t) n + k) = λ k inside. same.course n k (omega arith) inside in
      rw (
        sums_agree n (omega arith),
        word_of first_in (omega arith),
        word_of second_in (omega arith),
        word_of length_in (omega arith),
        word_of thickness_in (omega arith),
        same.rise n,
      )

  same_sums : sums_of f s ≡ sums_of g t
  same_sums = sums_agree (courses f s).count (le_refl (courses f s).count) ∙ ap (sums_over g t) same.courses_count

  same_d1 : d1 f s ≡ d1 g t
  same_d1 = ap shell_diameter same_sums

  same_d2 : d2 f s ≡ d2 g t
  same_d2 = rw (same_sums, same.header left_at (omega arith), same.header right_at (omega arith))

  -- the deadwood

  same_item : (i : ℕ) → i < (deadwood f s).count → item_from s (record_at (deadwood f s) i) ≡ item_from t (record_at (deadwood g t) i)
  unfolding signed_word
  same_item i l = rw (same.item i low_in l (omega arith), same.item i high_in l (omega arith), same.item i volume_in l (omega arith))

  same_items : items_of f s ≡ items_of g t
  same_items =
      rows_of_agree _ _ (deadwood f s).count same_item
      ∙ ap (rows_of (λ i. item_from t (record_at (deadwood g t) i))) same.deadwood_count

  pub same_survey : survey_of f s ≡ survey_of g t
  same_survey =
      rw (
        same_d1,
        same_d2,
        same_items,
        same.header kind_at (omega arith),
        same.header dh_at (omega arith),
        same.header l1_at (omega arith),
        same.header l2_at (omega arith),
        same.header l3_at (omega arith),
        same.header step_at (omega arith),
      )

  -- what is tested

  pub same_header_tests : header_tests s ≡ header_tests t
  unfolding header_tests
  same_header_tests =
      rw (
        same.header dh_at (omega arith),
        same.header l1_at (omega arith),
        same.header left_at (omega arith),
        same.header right_at (omega arith),
        same.header l2_at (omega arith),
        same.header kind_at (omega arith),
        same.header l3_at (omega arith),
        same.header step_at (omega arith),
      )

  pub same_dimension_tests : dimension_tests f s ≡ dimension_tests g t
  unfolding dimension_tests
  same_dimension_tests =
      rw (
        same_d1,
        same_d2,
        same_sums,
        same.header l1_at (omega arith),
        same.header dh_at (omega arith),
        same.header kind_at (omega arith),
        same.header l3_at (omega arith),
      )

  module _ (i : ℕ) (l : i < (courses f s).count) where
    pub course_passes_too : verdict (course_tests s (record_of (courses f s) i)) ≡ Ok tt → verdict (course_tests t (record_of (courses g t) i)) ≡ Ok tt
    unfolding course_tests
    course_passes_too e =
        let pass = passed_all (course_tests s (record_of (courses f s) i)) e in
        rw (
          ← same.course i first_in l (omega arith),
          ← same.course i second_in l (omega arith),
          ← same.course i length_in l (omega arith),
          ← same.course i thickness_in l (omega arith),
          pass.0,
          pass.1.0,
          pass.1.1.0,
          pass.1.1.1.0,
        )

    pub reading_passes_too : verdict (reading_tests s (record_of (courses f s) i) (rise_of f s i)) ≡ Ok tt
        → verdict (reading_tests t (record_of (courses g t) i) (rise_of g t i)) ≡ Ok tt
    unfolding reading_tests
    reading_passes_too e =
        let pass = passed_all (reading_tests s (record_of (courses f s) i) (rise_of f s i)) e in
        rw (← same.rise i, ← same.course i first_in l (omega arith), ← same.course i second_in l (omega arith), pass.0, pass.1.0)

  pub item_passes_too : (i : ℕ) → i < (deadwood f s).count
      → verdict (item_tests s (record_of (deadwood f s) i)) ≡ Ok tt → verdict (item_tests t (record_of (deadwood g t) i)) ≡ Ok tt
  unfolding item_tests
  item_passes_too i l e =
      let pass = passed_all (item_tests s (record_of (deadwood f s) i)) e in
      rw (← same.header dh_at (omega arith), ap (λ x. heights_fit x (word s dh_at)) (sym (same_item i l)) ∙ pass.0, ap volume_fits (sym (same_item i l)) ∙ pass.1.0)
