-- Document 01, 'Readings off the stick': the readings marked P, as one table of what a rule gives and what the paper says, and the
-- proof that each line holds, which is a computation. Assumes nothing.
use Rattle.std.specs.Prelude.{◌+◌, ◌*◌, refl, List, [], ◌∷◌, pos, negsuc}
use Rattle.laws.specs.Root.{root}
use Rattle.laws.specs.Nearest.{nearest}
use Rattle.laws.specs.Half.{half_difference}
use Rattle.schedule.specs.Rows.{row_count}
use Rattle.circle.specs.Circle.{chord, chord_square}
use Rattle.heads.specs.declared.kind.HeadKind.TheVariants.{HalfEllipsoid}
use Rattle.heads.specs.Volume.{heads_volume}
use Rattle.deadwood.specs.Item.{deadwood}
use Rattle.deadwood.specs.Share.{share_size, share}
use Rattle.dimensions.specs.Dimensions.{outer_diameter}
use Rattle.cases.specs.Reading.{Reading, ◌reads◌, ◌reads_signed◌, Holds}
use Rattle.cases.specs.HoldLaws.{all_hold}

abbrev pub readings : List Reading
readings =
    (chord 50000 0 reads 0)
    ∷ (chord 50000 1 reads 447)
    ∷ (chord 50000 25000 reads 50000)
    ∷ (half_difference 50000 50003 reads_signed negsuc 1)
    ∷ (half_difference 50003 50000 reads_signed pos 1)
    ∷ (nearest 5 2 reads 2)
    ∷ (outer_diameter ((160221 + 160221) * 100000) 100000 reads 51000)
    ∷ (outer_diameter (160221 + 160221) 1 reads 51000)
    ∷ (heads_volume HalfEllipsoid 260000 65000 130000 reads 230069)
    ∷ (heads_volume HalfEllipsoid 260000 65000 260000 reads 460139)
    ∷ (share (deadwood 0 300 (pos 100)) 151 reads_signed pos 50)
    ∷ (share (deadwood 0 300 (negsuc 0)) 150 reads_signed pos 0)
    ∷ (row_count 50000 10000 reads 6)
    ∷ (row_count 50000 9999 reads 7)
    ∷ []

pub readings_hold : Holds readings
unfolding root chord chord_square nearest outer_diameter heads_volume share_size share row_count
readings_hold = all_hold readings refl
