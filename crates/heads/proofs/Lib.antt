pub mod VolumeLaws
pub mod SlabsLaws
