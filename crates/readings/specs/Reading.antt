-- The seams of a course, the tape rise over them, and a reading that has lost it (document 02, E4). A rise larger than the reading leaves 0,
-- which is below every limit of a circumference. Assumes nothing.
use Rattle.std.specs.Prelude.{ℕ, ◌-◌, List, ltb}
use Rattle.laws.specs.Order.{pick}
use Rattle.seams.specs.declared.seam.Seam.{Seam}
use Rattle.seams.specs.Seam.{no_seam}
use Rattle.seams.specs.Rise.{tape_rise}
use Rattle.file.specs.declared.format.Format.{Format}
use Rattle.file.specs.Word.{word}
use Rattle.file.specs.Layout.{dh_at}
use Rattle.records.specs.Item.{seam_from}
use Rattle.file.specs.Section.{seams, record_at}

-- of course i: those of seam item i. A course that has no item has no seams, as none has in a format without them
abbrev pub seam_of : Format → List ℕ → ℕ → Seam
seam_of f s i = pick (ltb i (seams f s).count) (seam_from s (record_at (seams f s) i)) no_seam

-- how much longer its circumferences come out
unfoldable pub rise_of : Format → List ℕ → ℕ → ℕ
rise_of f s i = tape_rise (seam_of f s i) (word s dh_at)

-- both readings of a course lose it; those at the shell's ends are taken clear of seams
abbrev pub corrected : (reading rise : ℕ) → ℕ
corrected reading rise = reading - rise
