-- The deadwood item and the seams whose record starts at a byte, and a file's deadwood as a list of items. Assumes nothing.
use Rattle.std.specs.Prelude.{ℕ, ◌+◌, List}
use Rattle.laws.specs.Fill.{rows_of}
use Rattle.measure.specs.Quantity.{dip_height}
use Rattle.deadwood.specs.declared.item.Deadwood.{Deadwood}
use Rattle.seams.specs.declared.seam.Seam.{Seam}
use Rattle.seams.specs.Seam.{seam}
use Rattle.file.specs.declared.format.Format.{Format}
use Rattle.file.specs.Word.{word, signed_word}
use Rattle.file.specs.Layout.{low_in, high_in, volume_in, seam_number_in, seam_thickness_in, seam_width_in}
use Rattle.file.specs.Section.{deadwood, record_at}

abbrev pub item_from : List ℕ → ℕ → Deadwood
item_from s at = record { low = dip_height (word s (at + low_in)); high = dip_height (word s (at + high_in)); volume = signed_word s (at + volume_in) }

abbrev pub items_of : Format → List ℕ → List Deadwood
items_of f s = rows_of (λ i. item_from s (record_at (deadwood f s) i)) (deadwood f s).count

abbrev pub seam_from : List ℕ → ℕ → Seam
seam_from s at = seam (word s (at + seam_number_in)) (word s (at + seam_thickness_in)) (word s (at + seam_width_in))
