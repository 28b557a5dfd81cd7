-- The heads of a tank, a file for each question that the kind of head answers: its number in a survey (Kind), its length
-- (Length), its volume (Volume), how far it is walked (Walk), its slabs and the tolerance that it brings (Slabs). The other files are laws.
pub mod Kind
pub mod Length
pub mod LengthLaws
pub mod Volume
pub mod Walk
pub mod WalkLaws
pub mod PolynomialLaws
pub mod VolumeLaws
pub mod Slabs
pub mod SectionLaws
pub mod SlabsLaws
pub mod CutLaws
