-- Readings that the prover computes: document 01's that are marked P, exact halves, those of the slabs, and its example survey.
pub mod Reading
pub mod HoldLaws
pub mod ReadingLaws
pub mod HalfReadingLaws
pub mod SlabReadingLaws
pub mod DomeReadingLaws
pub mod MirrorReadingLaws
pub mod ExampleLaws
