-- The formats of a survey file, by the length of the header in bytes. Assumes nothing.
use Rattle.std.specs.Prelude.{ℕ}
use Rattle.file.specs.declared.format.Format.{Format}
use Rattle.file.specs.declared.format.Format.TheInside.{Inside}
use Rattle.file.specs.Layout.{header_end, seam_header_end, course_end, item_end, seam_end}

-- what is said of a format: the lengths that its fields have
abbrev pub lengths : Inside → Format
lengths f = record { header = f.header; course = f.course; deadwood = f.deadwood; seam = f.seam }

abbrev pub format_of : ℕ → Format
format_of header = record { header = header; course = course_end; deadwood = item_end; seam = seam_end }

-- document 01's, which has no seams
abbrev pub format48 : Format
format48 = format_of header_end

-- today's
abbrev pub today : Format
today = format_of seam_header_end
