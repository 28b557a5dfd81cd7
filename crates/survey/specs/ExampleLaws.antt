-- Document 01's example survey, byte by byte: kind 0, DH 50,000, L1 100,000, ends 160,221, L2 0, step 10,000, one course (160,221,
-- 160,221, 100,000, 500), no deadwood, no seams. And what it is decoded to, which is a computation. Assumes nothing.
use Rattle.std.specs.Prelude.{ℕ, ◌+◌, ◌*◌, ◌≡◌, List, [], ◌∷◌, ◌++◌, length, Ok}
use Rattle.measure.specs.Quantity.{diameter}
use Rattle.heads.specs.declared.kind.HeadKind.{HeadKind}
use Rattle.heads.specs.declared.kind.HeadKind.TheVariants.{Flat, SphericalCap}
use Rattle.file.specs.Word.{bytes_of}
use Rattle.survey.specs.declared.decode.Survey.{Survey}
use Rattle.survey.specs.Survey.{decoded_by, decoded}

-- a course of this length, as round and as thick
abbrev pub course_of : ℕ → List ℕ
course_of length = 160221 ∷ 160221 ∷ length ∷ 500 ∷ []

abbrev each : (ℕ → List ℕ) → List ℕ → List ℕ
each f [] = []
each f (n ∷ ns) = f n ++ each f ns

-- with heads of this kind and length, courses of these lengths in place of its one, and no seams on them
abbrev six_rows_with : (kind l3 : ℕ) → List ℕ → List ℕ
six_rows_with kind l3 lengths =
    let count = length lengths in
    bytes_of
    (kind ∷ 50000 ∷ 100000 ∷ 160221 ∷ 160221 ∷ 0 ∷ l3 ∷ 10000 ∷ count ∷ 56 ∷ 0 ∷ 0 ∷ count ∷ (56 + 16 * count)
    ∷ (each course_of lengths ++ each (λ n. 0 ∷ 0 ∷ 0 ∷ []) lengths))

abbrev pub six_rows_of : List ℕ → List ℕ
six_rows_of lengths = six_rows_with 0 0 lengths

abbrev pub six_rows : List ℕ
six_rows = six_rows_of (100000 ∷ [])

-- a tank of 500.00 mm all over
abbrev six_rows_survey_with : HeadKind → ℕ → Survey
six_rows_survey_with kind l3 =
    record {
      tank = record { kind = kind; dh = diameter 50000; d1 = diameter 50000; d2 = diameter 50000; l1 = 100000; l2 = 0; l3 = l3 };
      step = 10000;
      deadwood = [];
    }

abbrev pub six_rows_survey : Survey
six_rows_survey = six_rows_survey_with Flat 0

-- it is the survey of a file
abbrev pub SixRows : List ℕ → Type 0
SixRows s = decoded s ≡ decoded_by (Ok tt) six_rows_survey

-- courses that miss by a hair (document 02, E1): 100 u for each of them, short and long
abbrev pub MissingCourses : Type 0
MissingCourses =
    SixRows (six_rows_of (99900 ∷ []))
    × SixRows (six_rows_of (100100 ∷ []))
    × SixRows (six_rows_of (50000 ∷ 49800 ∷ []))
    × SixRows (six_rows_of (60000 ∷ 30000 ∷ 10300 ∷ []))

-- spherical caps (document 02, E2), half as long as D2
abbrev pub longest_caps : List ℕ
longest_caps = six_rows_with 2 25000 (100000 ∷ [])

abbrev pub LongestCaps : Type 0
LongestCaps = decoded longest_caps ≡ decoded_by (Ok tt) (six_rows_survey_with SphericalCap 25000)

-- tape rise over weld seams (document 02, E4): with two seams of 2 mm by 12 mm the course's circumferences come out 86 u longer, 19 for the
-- first term and 67 for the second; those at the shell's ends do not
abbrev pub seamed_rows : List ℕ
seamed_rows =
    bytes_of
    (0 ∷ 50000 ∷ 100000 ∷ 160221 ∷ 160221 ∷ 0 ∷ 0 ∷ 10000 ∷ 1 ∷ 56 ∷ 0 ∷ 0 ∷ 1 ∷ 72
    ∷ 160307 ∷ 160307 ∷ 100000 ∷ 500
    ∷ 2 ∷ 200 ∷ 1200 ∷ [])
