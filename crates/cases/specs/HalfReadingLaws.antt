-- Document 02, E5: exact halves of everything that is rounded, down to the even number and up to it, worked out by hand from the paper's formulas,
-- and the proof that each line holds, which is a computation. Those of spherical caps stand in `DomeReadingLaws`, those of the tape rise and of
-- the litres between rows in the rooms `seams` and `lookup`, in `ExampleLaws`. Assumes nothing.
use Rattle.std.specs.Prelude.{◌*◌, refl, List, [], ◌∷◌, pos, negsuc}
use Rattle.laws.specs.Sum.{sum}
use Rattle.laws.specs.Root.{root}
use Rattle.laws.specs.Nearest.{nearest}
use Rattle.circle.specs.Circle.{chord, chord_square, doubled_area}
use Rattle.heads.specs.declared.kind.HeadKind.TheVariants.{HalfEllipsoid}
use Rattle.heads.specs.Volume.{heads_volume}
use Rattle.tank.specs.Part.{cylinder_volume}
use Rattle.deadwood.specs.Item.{deadwood}
use Rattle.deadwood.specs.Share.{share_size, share}
use Rattle.dimensions.specs.Dimensions.{outer_diameter, wall}
use Rattle.cases.specs.Reading.{Reading, ◌reads◌, ◌reads_signed◌, Holds}
use Rattle.cases.specs.HoldLaws.{all_hold}

abbrev pub halves : List Reading
halves =
    (nearest 1 2 reads 0)
    ∷ (nearest 3 2 reads 2)
    ∷ (nearest 7 2 reads 4)
    -- 113·(355·1,081)/710 = 61,076.5, and with 1,083 it is 61,189.5
    ∷ (outer_diameter (355 * 1081) 1 reads 61076)
    ∷ (outer_diameter (355 * 1083) 1 reads 61190)
    -- four plates: 2·2,001/4 = 1,000.5 and 2·2,003/4 = 1,001.5
    ∷ (wall 2001 4 reads 1000)
    ∷ (wall 2003 4 reads 1002)
    -- a doubled area of 145,000 by a length of 2,000,000, halved, is 14.5 v; one of 192,000 by 156,250 is 1.5 v
    ∷ (cylinder_volume 50013 2000000 39 reads 14)
    ∷ (cylinder_volume 50077 156250 47 reads 2)
    -- full heads: 71·113·21,000/6,000 = 28,080.5 and 71·113·15,000/6,000 = 20,057.5
    ∷ (heads_volume HalfEllipsoid 113000 21000 113000 reads 28080)
    ∷ (heads_volume HalfEllipsoid 113000 15000 113000 reads 20058)
    ∷ (share (deadwood 0 300 (pos 5)) 150 reads_signed pos 2)
    ∷ (share (deadwood 0 300 (pos 7)) 150 reads_signed pos 4)
    ∷ (share (deadwood 0 300 (negsuc 4)) 150 reads_signed negsuc 1)
    ∷ (share (deadwood 0 300 (negsuc 6)) 150 reads_signed negsuc 3)
    ∷ []

pub halves_hold : Holds halves
unfolding sum root chord chord_square nearest outer_diameter wall heads_volume share_size share doubled_area cylinder_volume
halves_hold = all_hold halves refl
