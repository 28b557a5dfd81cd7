-- What document 01, 'Slabs', says of the slabs of any part: the fractions that they are counted in (Fraction) and their faces
-- (Slab); then the laws of both.
pub mod Fraction
pub mod FractionLaws
pub mod Slab
pub mod FaceLaws
pub mod TurnLaws
pub mod CutLaws
pub mod WithinLaws
