-- The dimensions of a tank as documents 01 and 02 make them of a survey file's numbers, and their tests; then how large they can be, and that no wall is
-- thicker than its tube.
pub mod CourseSums
pub mod Dimensions
pub mod Tests
pub mod TestLaws
pub mod Judged
pub mod JudgedLaws
pub mod SumLaws
pub mod WallLaws
