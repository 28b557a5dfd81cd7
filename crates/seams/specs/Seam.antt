-- The butt welds that the tape crosses on a course (document 02, E4): how many, how thick and how wide at most. Assumes nothing.
use Rattle.std.specs.Prelude.{ℕ}
use Rattle.seams.specs.declared.seam.Seam.{Seam}

abbrev pub seam : (number thickness width : ℕ) → Seam
seam number thickness width = record { number = number; thickness = thickness; width = width }

abbrev pub most_seams : ℕ
most_seams = 12

-- in u

abbrev pub thickest_seam : ℕ
thickest_seam = 1000

abbrev pub widest_seam : ℕ
widest_seam = 5000

-- the tape crosses no weld
abbrev pub no_seam : Seam
no_seam = seam 0 0 0
