-- A file with a header of 48 bytes in today's format (document 02, E4; document 01, 'Refusal numbers', on a request that lengthens the
-- header): the sections end to end after the header, in header order, an empty one's offset 0, bytes in no section dropped; and the new seam
-- items all 0. Assumes nothing.
use Rattle.std.specs.Prelude.{ℕ, ◌+◌, ◌*◌, List, [], ◌∷◌, ◌++◌, eqb, take, drop, replicate}
use Rattle.laws.specs.Order.{pick}
use Rattle.file.specs.declared.section.Section.{Section}
use Rattle.file.specs.Word.{bytes_of}
use Rattle.file.specs.Layout.{courses_at}
use Rattle.file.specs.Format.{format48, today}
use Rattle.file.specs.Section.{courses, deadwood}

-- where the deadwood starts behind so many courses, and where the seams start behind these and so many items
abbrev pub deadwood_from : ℕ → ℕ
deadwood_from courses = today.header + today.course * courses

abbrev pub seams_from : (courses items : ℕ) → ℕ
seams_from courses items = deadwood_from courses + today.deadwood * items

-- the offset of a section that has so many records and starts at a byte
abbrev pub offset_of : (count at : ℕ) → ℕ
offset_of count at = pick (eqb count 0) 0 at

-- the sections' words in the header: a seam item for each course
abbrev pub courses_words : ℕ → List ℕ
courses_words courses = courses ∷ offset_of courses today.header ∷ []

abbrev pub deadwood_words : (courses items : ℕ) → List ℕ
deadwood_words courses items = items ∷ offset_of items (deadwood_from courses) ∷ []

abbrev pub seams_words : (courses items : ℕ) → List ℕ
seams_words courses items = courses ∷ offset_of courses (seams_from courses items) ∷ []

-- the bytes of a section
abbrev pub section_bytes : List ℕ → Section → List ℕ
section_bytes s x = take (x.size * x.count) (drop x.offset s)

-- the header: all before the sections' words as it was
abbrev pub header_of : List ℕ → (courses items : ℕ) → List ℕ
header_of s courses items =
    take courses_at s ++ (bytes_of (courses_words courses) ++ (bytes_of (deadwood_words courses items) ++ bytes_of (seams_words courses items)))

-- as many seam items as courses, all 0
abbrev pub no_seams : ℕ → List ℕ
no_seams courses = replicate (today.seam * courses) 0

unfoldable pub rewritten : List ℕ → List ℕ
rewritten s =
    let c = courses format48 s in
    let d = deadwood format48 s in
    header_of s c.count d.count ++ (section_bytes s c ++ (section_bytes s d ++ no_seams c.count))

-- the most bytes that an accepted file has then: with 40 courses and 64 deadwood items
abbrev pub most_bytes : ℕ
most_bytes = 1944
