-- The form of a survey file as documents 01 and 02 have it: the tests of its size, its sections and the head kind; then what they promise.
pub mod Tests
pub mod PlacedLaws
