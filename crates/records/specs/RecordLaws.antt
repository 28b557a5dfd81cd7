-- What a record must have so that its words can be read and told. Assumes nothing.
use Rattle.std.specs.Prelude.{ℕ, ◌+◌, ◌^◌, ◌≤◌, ◌<◌, List, length}
use Rattle.std.proofs.Common.{le_refl, mul-le-mul, arith}
use Rattle.file.specs.declared.section.Section.{Section}
use Rattle.file.specs.declared.section.Records.{Records}
use Rattle.file.specs.declared.section.Records.TheVariants.{Courses, Deadwood, Seams}
use Rattle.file.specs.Section.{record_at, record_long}
use Rattle.file.specs.SectionLaws.{Inside, record_some}
use Rattle.records.specs.declared.record.Record.{Record}
use Rattle.records.specs.Record.{first_sentence, record_of}

-- so many bytes of it lie inside the file, and neither their places nor their sentences wrap
abbrev pub Whole : List ℕ → Record → ℕ → Type 0
Whole s x long = (x.at + long ≤ length s) × (x.at + long < 2 ^ 32) × (x.sentence + long < 2 ^ 32)

few_sentences : (records : Records) → first_sentence records + record_long records < 2 ^ 32
few_sentences Courses = omega arith
few_sentences Deadwood = omega arith
few_sentences Seams = omega arith

-- a record of a section that lies inside the file: it starts inside, and there are no more records than bytes ..
pub record_small : (s : List ℕ) (x : Section) → Inside s x → (i : ℕ) → i < x.count → (record_at x i < 2 ^ 63) × (i + 1 < 2 ^ 32)
record_small s x inside i l =
    let there = inside.inside i l in
    let long : 1 ≤ x.size = omega (arith, inside.long, record_some x.records) in
    let many = mul-le-mul long (le_refl i) in
    (omega (arith, inside.file), omega (arith, inside.file))

-- .. and it is whole
pub record_whole : (s : List ℕ) (x : Section) → Inside s x → (i : ℕ) → i < x.count → Whole s (record_of x i) (record_long x.records)
record_whole s x inside i l =
    let there = inside.inside i l in
    (omega (arith, inside.long), omega (arith, inside.long, inside.file), few_sentences x.records)
