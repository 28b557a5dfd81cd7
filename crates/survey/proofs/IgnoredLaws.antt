-- Bytes in no section are ignored (document 01, 'The survey file'): two files that agree in the header's bytes and in those of every
-- section, and whose lengths refusals 1 and 3 find alike, decode alike. Assumes nothing.
use Prim.Native.Nat.{ℕ, zero, suc, ◌+◌, ◌≤◌, ◌<◌}
use Rattle.std.specs.Prelude.{◌≡◌, Bool, true, false, ◌&&◌, leb, ltb, Ok, Err}
use Rattle.std.proofs.Math.Path.{refl, ap, ap₂}
use Rattle.std.proofs.Common.{sym, ◌∙◌, mul-le-mul_left, arith, leb-true, ltb-true}
use mathlib.Core.List.{List, [], ◌∷◌, ◌++◌, Memᴰ}
use Rattle.std.proofs.Math.ListN.{length}
use Rattle.laws.specs.BoolLaws.{by_test}
use Rattle.laws.specs.Order.{pick}
use Rattle.laws.specs.Fill.{rows_of}
use Rattle.laws.specs.FillLaws.{rows_of_agree}
use Rattle.refusal.specs.declared.Refusal.{Refusal}
use Rattle.refusal.specs.Test.{verdict, items, within, Verdict}
use Rattle.refusal.specs.TestLaws.{items_agree, refused_not_passed}
use Rattle.refusal.specs.PlainLaws.{plain_refusal, plain, plain_append, plain_pick}
use Rattle.seams.specs.Seam.{no_seam}
use Rattle.seams.specs.Rise.{tape_rise}
use Rattle.file.specs.declared.format.Format.{Format}
use Rattle.file.specs.declared.section.Section.{Section}
use Rattle.file.specs.declared.section.Records.{Records}
use Rattle.file.specs.declared.section.Records.TheVariants.{Courses, Deadwood, Seams}
use Rattle.file.specs.Word.{word, signed_word}
use Rattle.file.specs.Layout.{header_end, kind_at, dh_at, l1_at, left_at, right_at, l2_at, l3_at, step_at, courses_at, deadwood_at, seams_at}
use Rattle.file.specs.Format.{today}
use Rattle.file.specs.Layout.{seam_header_end, course_end, item_end, seam_end, first_in, second_in, length_in, thickness_in, low_in, high_in, volume_in, seam_number_in, seam_thickness_in, seam_width_in, has_seams}
use Rattle.file.specs.Limits.{largest_file}
use Rattle.file.specs.Section.{courses, deadwood, seam_word, seams, sections, record_at, end_of, placed, record_long}
use Rattle.file.specs.SectionLaws.{Readable, today_readable}
use Rattle.form.specs.Tests.{size_tests, count_tests, apart_tests, place_tests, kind_test, layout_tests}
use Rattle.records.specs.Item.{item_from, items_of, seam_from}
use Rattle.readings.specs.Reading.{seam_of, rise_of}
use Rattle.records.specs.declared.record.Record.{Record}
use Rattle.records.specs.Record.{record_of}
use Rattle.numbers.specs.Tests.{heights_test, volume_test, header_tests, limit_tests, course_tests, item_tests, seam_tests, record_tests, section_tests}
use Rattle.readings.specs.Tests.{corrected_tests, number_tests, reading_tests}
use Rattle.dimensions.specs.Dimensions.{sum_of, added, sums_over, sums_of, shell_diameter, d1, d2}
use Rattle.dimensions.specs.Tests.{dimension_tests}
use Rattle.survey.specs.Tests.{file_tests}
use Rattle.survey.specs.Survey.{survey_of, decoded_by, decoded_as, decoded}
use Rattle.survey.specs.IgnoredLaws.{SameBytes, SameSectionsAs, SameSections, Alike}

-- bytes that agree give the same words, records, tests and sums

module _ (s s' : List ℕ) where
  word_agrees : (start end at : ℕ) → SameBytes s s' start end → start ≤ at → at + 4 ≤ end → word s at ≡ word s' at
  unfolding word
  word_agrees start end at bytes low high =
      let third = bytes (at + 2) (omega arith) (omega arith) in
      let fourth = bytes (at + 3) (omega arith) (omega arith) in
      cc (bytes at low (omega arith), bytes (at + 1) (omega arith) (omega arith), third, fourth)

  signed_agrees : (at : ℕ) → word s at ≡ word s' at → signed_word s at ≡ signed_word s' at
  unfolding signed_word
  signed_agrees at e = rw e

  word_of_record : (at long k : ℕ) → SameBytes s s' at (at + long) → k + 4 ≤ long → word s (at + k) ≡ word s' (at + k)
  word_of_record at long k bytes high = word_agrees at (at + long) (at + k) bytes (omega arith) (omega arith)

  course_agrees : (x : Record) → SameBytes s s' x.at (x.at + course_end)
      → (course_tests s x ≡ course_tests s' x)
      × ((rise : ℕ) → reading_tests s x rise ≡ reading_tests s' x rise)
      × ((rise : ℕ) → sum_of s x.at rise ≡ sum_of s' x.at rise)
  unfolding course_tests reading_tests sum_of
  course_agrees x bytes =
      let at = x.at in
      let first = word_of_record at course_end first_in bytes (omega arith) in
      let second = word_of_record at course_end second_in bytes (omega arith) in
      let length = word_of_record at course_end length_in bytes (omega arith) in
      let thickness = word_of_record at course_end thickness_in bytes (omega arith) in
      (rw (first, second, length, thickness), λ rise. rw (first, second), λ rise. rw (first, second, length, thickness))

  item_agrees : (at : ℕ) → SameBytes s s' at (at + item_end) → item_from s at ≡ item_from s' at
  item_agrees at bytes =
      let low = word_of_record at item_end low_in bytes (omega arith) in
      let high = word_of_record at item_end high_in bytes (omega arith) in
      let volume = signed_agrees (at + volume_in) (word_of_record at item_end volume_in bytes (omega arith)) in
      cc

  seam_agrees : (x : Record) → SameBytes s s' x.at (x.at + seam_end) → (seam_tests s x ≡ seam_tests s' x) × (seam_from s x.at ≡ seam_from s' x.at)
  unfolding seam_tests
  seam_agrees x bytes =
      let at = x.at in
      let number = word_of_record at seam_end seam_number_in bytes (omega arith) in
      let thickness = word_of_record at seam_end seam_thickness_in bytes (omega arith) in
      let width = word_of_record at seam_end seam_width_in bytes (omega arith) in
      (rw (number, thickness, width), rw (number, thickness, width))

  record_agrees : (records : Records) (x : Record) → word s dh_at ≡ word s' dh_at → SameBytes s s' x.at (x.at + record_long records)
      → record_tests records s x ≡ record_tests records s' x
  unfolding item_tests
  record_agrees Courses x dh bytes = (course_agrees x bytes).0
  record_agrees Deadwood x dh bytes = ap₂ (λ d n. heights_test d n x ∷ volume_test d x ∷ []) (item_agrees x.at bytes) dh
  record_agrees Seams x dh bytes = (seam_agrees x bytes).0

  -- a section whose bytes agree
  module _ (x : Section) (bytes : SameBytes s s' x.offset (end_of x)) where
    record_bytes : (long i : ℕ) → long ≤ x.size → i < x.count → SameBytes s s' (record_at x i) (record_at x i + long)
    record_bytes long i fits l k low high =
        let one_more : i + 1 ≤ x.count = omega arith in
        bytes k (omega arith) (omega (arith, mul-le-mul_left x.size one_more))

    section_agrees : record_long x.records ≤ x.size → word s dh_at ≡ word s' dh_at → section_tests s x ≡ section_tests s' x
    section_agrees fits dh =
        items_agree x.count _ _ (λ i l. record_agrees x.records (record_of x i) dh (record_bytes (record_long x.records) i fits l))

-- files that refusal 1 is given to, or not, alike
sizes_agree : (header size size' : ℕ) → within header size largest_file ≡ within header size' largest_file
    → (r r' q q' : Refusal) → plain_refusal r ≡ plain_refusal r' → plain_refusal q ≡ plain_refusal r → plain_refusal q' ≡ plain_refusal r'
    → plain (pick (leb size largest_file) (pick (within header size largest_file) (Ok tt) (Err r)) (Err q))
    ≡ plain (pick (leb size' largest_file) (pick (within header size' largest_file) (Ok tt) (Err r')) (Err q'))
sizes_agree header size size' alike r r' q q' same first first' =
    one (leb header size) (leb size largest_file) r q first
    ∙ rw (← alike) (choose (within header size largest_file)) ∙ sym (one (leb header size') (leb size' largest_file) r' q' first')
  where
    one : (a b : Bool) (r q : Refusal) → plain_refusal q ≡ plain_refusal r
        → plain (pick b (pick (a && b) (Ok tt) (Err r)) (Err q)) ≡ pick (a && b) (Ok tt) (Err (plain_refusal r))
    one true true r q e = refl
    one false true r q e = refl
    one true false r q e = ap Err e
    one false false r q e = ap Err e

    choose : (b : Bool) → ◌≡◌ {A = Verdict} (pick b (Ok tt) (Err (plain_refusal r))) (pick b (Ok tt) (Err (plain_refusal r')))
    choose true = refl
    choose false = ap Err same

-- sections that are placed alike: what is told of a bad place is the file's size too
places_agree : (header size size' : ℕ) (xs : List Section) → ((x : Section) → Memᴰ x xs → placed header size x ≡ placed header size' x)
    → plain (verdict (place_tests header size xs)) ≡ plain (verdict (place_tests header size' xs))
places_agree header size size' [] alike = refl
places_agree header size size' (x ∷ xs) alike =
    rw (alike x (Memᴰ.head refl))
    (plain_pick (placed header size' x) _ _ _ _
    (plain_append (apart_tests x xs) (place_tests header size xs) (apart_tests x xs) (place_tests header size' xs) refl
    (places_agree header size size' xs (λ y m. alike y (Memᴰ.tail m)))) refl)

module _ (f : Format) (s s' : List ℕ) (readable : Readable f) (same : SameSectionsAs f s s') where
  header_word : (at : ℕ) → at + 4 ≤ header_end → word s at ≡ word s' at
  header_word at high = word_agrees s s' 0 f.header at same.header (omega arith) (omega (arith, readable.header))

  courses_bytes : SameBytes s s' (courses f s).offset (end_of (courses f s))
  courses_bytes = same.bytes (courses f s) (Memᴰ.head refl)

  deadwood_bytes : SameBytes s s' (deadwood f s).offset (end_of (deadwood f s))
  deadwood_bytes = same.bytes (deadwood f s) (Memᴰ.tail (Memᴰ.head refl))

  seams_bytes : SameBytes s s' (seams f s).offset (end_of (seams f s))
  seams_bytes = same.bytes (seams f s) (Memᴰ.tail (Memᴰ.tail (Memᴰ.head refl)))

  same_courses : courses f s ≡ courses f s'
  same_courses = cc (header_word courses_at (omega arith), header_word (courses_at + 4) (omega arith))

  same_deadwood : deadwood f s ≡ deadwood f s'
  same_deadwood = cc (header_word deadwood_at (omega arith), header_word (deadwood_at + 4) (omega arith))

  same_seam_word : (at : ℕ) → at + 4 ≤ seam_header_end → seam_word f s at ≡ seam_word f s' at
  same_seam_word at high =
      by_test (has_seams f)
      (λ has. rw has (word_agrees s s' 0 f.header at same.header (omega arith) (omega (arith, leb-true seam_header_end f.header has))))
      (λ none. rw none)

  same_seams : seams f s ≡ seams f s'
  same_seams = rw (same_seam_word seams_at (omega arith), same_seam_word (seams_at + 4) (omega arith))

  same_counts : count_tests f s ≡ count_tests f s'
  same_counts = rw (header_word courses_at (omega arith), header_word deadwood_at (omega arith), same_seam_word seams_at (omega arith))

  same_layout : plain (verdict (layout_tests f s)) ≡ plain (verdict (layout_tests f s'))
  unfolding layout_tests
  same_layout =
      let same-sections : sections f s ≡ sections f s' = ap₂ ◌∷◌ same_courses (ap₂ ◌∷◌ same_deadwood (ap (λ (x : Section). x ∷ []) same_seams)) in
      let same-places = places_agree f.header (length s) (length s') (sections f s) same.place in
      let places = place_tests f.header (length s) (sections f s) in
      let places' = place_tests f.header (length s') (sections f s') in
      plain_append (count_tests f s ++ places) (kind_test s ∷ []) (count_tests f s' ++ places') (kind_test s' ∷ [])
      (plain_append (count_tests f s) places (count_tests f s') places'
      (ap (λ ts. plain (verdict ts)) same_counts)
      (same-places ∙ ap (λ xs. plain (verdict (place_tests f.header (length s') xs))) same-sections))
      (rw (header_word kind_at (omega arith)))

  same_header : header_tests s ≡ header_tests s'
  unfolding header_tests
  same_header =
      rw (
        header_word dh_at (omega arith),
        header_word l1_at (omega arith),
        header_word left_at (omega arith),
        header_word right_at (omega arith),
        header_word l2_at (omega arith),
        header_word kind_at (omega arith),
        header_word l3_at (omega arith),
        header_word step_at (omega arith),
      )

  same_limits : limit_tests f s ≡ limit_tests f s'
  same_limits =
      let dh = header_word dh_at (omega arith) in
      ap₂ ◌++◌ same_header
      (ap₂ ◌++◌ (section_agrees s s' (courses f s) courses_bytes readable.course dh ∙ ap (section_tests s') same_courses)
      (ap₂ (λ second third. second ++ (third ++ []))
      (section_agrees s s' (deadwood f s) deadwood_bytes readable.deadwood dh ∙ ap (section_tests s') same_deadwood)
      (section_agrees s s' (seams f s) seams_bytes readable.seam dh ∙ ap (section_tests s') same_seams)))

  -- the tape rise over each course's seams, and with it the corrected readings and the sums

  seam_bytes_agree : (i : ℕ) → seam_of f s i ≡ pick (ltb i (seams f s).count) (seam_from s' (record_at (seams f s) i)) no_seam
  seam_bytes_agree i =
      by_test (ltb i (seams f s).count)
      (λ l.
      let bytes = record_bytes s s' (seams f s) seams_bytes seam_end i readable.seam (ltb-true i (seams f s).count l) in
      rw (l, (seam_agrees s s' (record_of (seams f s) i) bytes).1))
      (λ none. rw none)

  same_rise : (i : ℕ) → rise_of f s i ≡ rise_of f s' i
  unfolding rise_of
  same_rise i =
      ap₂ tape_rise
      (seam_bytes_agree i ∙ ap (λ (x : Section). pick (ltb i x.count) (seam_from s' (record_at x i)) no_seam) same_seams)
      (header_word dh_at (omega arith))

  -- course i, where it is one
  same_course : (i : ℕ) → i < (courses f s).count
      → (reading_tests s (record_of (courses f s) i) (rise_of f s i) ≡ reading_tests s' (record_of (courses f s') i) (rise_of f s' i))
      × (sum_of s (record_at (courses f s) i) (rise_of f s i) ≡ sum_of s' (record_at (courses f s') i) (rise_of f s' i))
  same_course i l =
      let x = courses f s in
      let course = course_agrees s s' (record_of x i) (record_bytes s s' x courses_bytes course_end i readable.course l) in
      let there = ap (λ (y : Section). record_of y i) same_courses in (
        course.1 (rise_of f s i) ∙ ap₂ (reading_tests s') there (same_rise i),
        course.2 (rise_of f s i) ∙ ap₂ (sum_of s') (ap (λ y. y.at) there) (same_rise i),
      )

  same_corrected : corrected_tests f s ≡ corrected_tests f s'
  same_corrected =
      items_agree (courses f s).count _ (λ i. reading_tests s' (record_of (courses f s') i) (rise_of f s' i)) (λ i l. (same_course i l).0)
      ∙ ap (λ (n : ℕ). items n (λ i. reading_tests s' (record_of (courses f s') i) (rise_of f s' i))) (ap (λ (x : Section). x.count) same_courses)

  same_numbers : number_tests f s ≡ number_tests f s'
  same_numbers = ap₂ ◌++◌ same_limits same_corrected

  sums_agree : (n : ℕ) → n ≤ (courses f s).count → sums_over f s n ≡ sums_over f s' n
  unfolding sums_over
  sums_agree zero l = refl
  sums_agree (suc n) l = ap₂ added (sums_agree n (omega arith)) (same_course n (omega arith)).1

  same_sums : sums_of f s ≡ sums_of f s'
  same_sums = sums_agree (courses f s).count (omega arith) ∙ ap (sums_over f s') (ap (λ (x : Section). x.count) same_courses)

  same_d1 : d1 f s ≡ d1 f s'
  same_d1 = ap shell_diameter same_sums

  same_d2 : d2 f s ≡ d2 f s'
  same_d2 = cc (same_sums, header_word left_at (omega arith), header_word right_at (omega arith))

  same_dimensions : dimension_tests f s ≡ dimension_tests f s'
  unfolding dimension_tests
  same_dimensions =
      let kind = header_word kind_at (omega arith) in
      let l3 = header_word l3_at (omega arith) in
      cc (same_sums, same_d1, same_d2, header_word l1_at (omega arith), header_word dh_at (omega arith))

  -- the same refusals ..
  pub same_verdict : plain (verdict (file_tests f s)) ≡ plain (verdict (file_tests f s'))
  unfolding file_tests
  same_verdict =
      plain_append (size_tests f s) (layout_tests f s ++ (number_tests f s ++ dimension_tests f s)) (size_tests f s') (layout_tests f s' ++ (number_tests f s' ++ dimension_tests f s'))
      (sizes_agree f.header (length s) (length s') same.size _ _ _ _ refl refl refl)
      (plain_append (layout_tests f s) (number_tests f s ++ dimension_tests f s) (layout_tests f s') (number_tests f s' ++ dimension_tests f s') same_layout
      (ap (λ ts. plain (verdict ts)) (ap₂ ◌++◌ same_numbers same_dimensions)))

  same_items : items_of f s ≡ items_of f s'
  same_items =
      let x = deadwood f s in
      rows_of_agree _ _ x.count
      (λ i l. item_agrees s s' (record_at x i) (record_bytes s s' x deadwood_bytes item_end i readable.deadwood l))
      ∙ ap (λ (y : Section). rows_of (λ i. item_from s' (record_at y i)) y.count) same_deadwood

  -- .. and the same survey
  pub same_survey : survey_of f s ≡ survey_of f s'
  same_survey =
      let kind = header_word kind_at (omega arith) in
      let dh = header_word dh_at (omega arith) in
      let l1 = header_word l1_at (omega arith) in
      let l2 = header_word l2_at (omega arith) in
      let l3 = header_word l3_at (omega arith) in
      let step = header_word step_at (omega arith) in
      let count = header_word deadwood_at (omega arith) in
      cc (same_d1, same_d2, same_items)

  pub same_decoded : Alike (decoded_as f s) (decoded_as f s')
  same_decoded = by_verdict (verdict (file_tests f s)) (verdict (file_tests f s')) same_verdict
    where
      by_verdict : (v v' : Verdict) → plain v ≡ plain v' → Alike (decoded_by v (survey_of f s)) (decoded_by v' (survey_of f s'))
      by_verdict (Ok _) (Ok _) e = (refl, same_survey)
      by_verdict (Err r) (Err r') e = (e, refl)
      by_verdict (Ok tt) (Err r') e = absurd (refused_not_passed (plain_refusal r') (sym e))
      by_verdict (Err r) (Ok tt) e = absurd (refused_not_passed (plain_refusal r) e)

-- bytes in no section are ignored
pub other_bytes_ignored : (s s' : List ℕ) → SameSections s s' → Alike (decoded s) (decoded s')
unfolding decoded
other_bytes_ignored s s' same = same_decoded today s s' today_readable same

-- files of the same length need agree in nothing but the bytes of header and sections
pub same_length : (f : Format) (s s' : List ℕ) → length s ≡ length s' → SameBytes s s' 0 f.header
    → ((x : Section) → Memᴰ x (sections f s) → SameBytes s s' x.offset (end_of x))
    → SameSectionsAs f s s'
same_length f s s' size header bytes = record { size = rw size; header = header; bytes = bytes; place = λ x m. rw size }

pub changed_bytes_ignored : (s s' : List ℕ) → length s ≡ length s' → SameBytes s s' 0 seam_header_end
    → ((x : Section) → Memᴰ x (sections today s) → SameBytes s s' x.offset (end_of x))
    → Alike (decoded s) (decoded s')
changed_bytes_ignored s s' size header bytes = other_bytes_ignored s s' (same_length today s s' size header bytes)
