-- The tape rise worked out by hand for a few seams, which is a computation: where a term is cut or rounded, and the largest rise that the
-- limits allow. Assumes nothing.
use Rattle.std.specs.Prelude.{◌≡◌, refl}
use Rattle.laws.specs.Nearest.{nearest}
use Rattle.laws.specs.Root.{root, root_of}
use Rattle.measure.specs.Diameter.{smallest}
use Rattle.seams.specs.Seam.{seam, most_seams, thickest_seam, widest_seam}
use Rattle.seams.specs.Rise.{first_term, second_term, tape_rise}
use Rattle.seams.specs.RiseLaws.{most_rise}

-- two seams, 2 mm thick and 12 mm wide, on 2,600 mm: 960,000/260,000 = 3.69.., and 2,048,000,000/2,340,000 = 875.2.., past 29² = 841
pub two_seams : (first_term (seam 2 200 1200) 260000 ≡ 4) × ((second_term (seam 2 200 1200) 260000 ≡ 29) × (tape_rise (seam 2 200 1200) 260000 ≡ 33))
unfolding nearest root root_of first_term second_term tape_rise
two_seams = (refl, (refl, refl))

-- first terms of 75,000/50,000, halfway between 1 and 2, and of 125,000/50,000, halfway between 2 and 3: 2 either way
pub half_to_even : (first_term (seam 1 100 375) 50000 ≡ 2) × (first_term (seam 1 100 625) 50000 ≡ 2)
unfolding nearest first_term
half_to_even = (refl, refl)

-- a second term whose square is exactly 64·9·1,000,000/(9·160,000) = 400; on a diameter of a u more it is a whole u less
pub exact_root : (second_term (seam 3 100 800) 160000 ≡ 20) × (second_term (seam 3 100 800) 160001 ≡ 19)
unfolding root root_of second_term
exact_root = (refl, refl)

-- the bound is reached
pub most_rise_law : tape_rise (seam most_seams thickest_seam widest_seam) smallest ≡ most_rise
unfolding nearest root root_of first_term second_term tape_rise
most_rise_law = refl
