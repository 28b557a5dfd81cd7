-- What a format must have to be read, and that document 01's and today's have it; and what a file that passes refusals 1 to 3 promises, as plain facts: its size, its counts, and that
-- every record of a section lies inside it. Assumes nothing.
use Rattle.std.specs.Prelude.{ℕ, ◌+◌, ◌^◌, ◌≤◌, ◌<◌, ◌≡◌, true, List, leb, length}
use Rattle.std.proofs.Common.{mul-le-mul, mul-le-mul_left, le_of_lt, arith, leb-true, ne_eqb}
use Rattle.laws.specs.BoolLaws.{both_pass}
use Rattle.file.specs.declared.format.Format.{Format}
use Rattle.file.specs.declared.section.Section.{Section}
use Rattle.file.specs.declared.section.Records.{Records}
use Rattle.file.specs.declared.section.Records.TheVariants.{Courses, Deadwood, Seams}
use Rattle.file.specs.Layout.{header_end, seam_header_end, course_end, item_end, seam_end}
use Rattle.file.specs.Format.{format_of, format48, today}
use Rattle.file.specs.Limits.{largest_file}
use Rattle.file.specs.Section.{record_at, end_of, placed, record_long}

-- a bound on the length of a record
abbrev pub longest_record : ℕ
longest_record = 64

-- the words of document 01 lie inside header and records, some file can hold the header, and records are short
pub record Readable (f : Format) : Type 0 where
  pub header : header_end ≤ f.header
  pub header_short : f.header ≤ largest_file
  pub course : course_end ≤ f.course
  pub course_short : f.course ≤ longest_record
  pub deadwood : item_end ≤ f.deadwood
  pub deadwood_short : f.deadwood ≤ longest_record
  pub seam : seam_end ≤ f.seam
  pub seam_short : f.seam ≤ longest_record

-- the format of document 01 can be read, and today's

readable : (header : ℕ) → header_end ≤ header → header ≤ largest_file → Readable (format_of header)
readable header long short = record {
  header = long;
  header_short = short;
  course = omega arith;
  course_short = omega arith;
  deadwood = omega arith;
  deadwood_short = omega arith;
  seam = omega arith;
  seam_short = omega arith;
}

pub format48_readable : Readable format48
format48_readable = readable header_end (omega arith) (omega arith)

pub today_readable : Readable today
today_readable = readable seam_header_end (omega arith) (omega arith)

-- a section of words and a short record: no sum over it wraps
pub record Small (x : Section) : Type 0 where
  pub count : x.count < 2 ^ 32
  pub offset : x.offset < 2 ^ 32
  pub size : x.size ≤ longest_record

pub small_end : (x : Section) → Small x → end_of x < 2 ^ 63
small_end x small = omega (arith, mul-le-mul small.size (le_of_lt small.count))

-- a record has words
pub record_some : (records : Records) → item_end ≤ record_long records
record_some Courses = omega arith
record_some Deadwood = omega arith
record_some Seams = omega arith

-- a section whose records lie inside a file that has its header
pub record Inside (s : List ℕ) (x : Section) : Type 0 where
  pub header : header_end ≤ length s
  pub file : length s ≤ largest_file
  pub long : record_long x.records ≤ x.size
  pub inside : (i : ℕ) → i < x.count → record_at x i + x.size ≤ length s

-- a section that is well placed starts behind the header and has each of its records inside the file
pub placed_inside : (header file_size : ℕ) (x : Section) → placed header file_size x ≡ true → (i : ℕ) → i < x.count
    → (header ≤ x.offset) × (record_at x i + x.size ≤ file_size)
unfolding placed
placed_inside header file_size x h i l =
    let one_more : i + 1 ≤ x.count = omega arith in
    let some = ne_eqb x.count 0 (λ e. omega arith) in
    let halves = both_pass (leb header x.offset) (leb (end_of x) file_size) (rw some at h) in
    (leb-true header x.offset halves.0, omega (arith, mul-le-mul_left x.size one_more, leb-true (end_of x) file_size halves.1))
