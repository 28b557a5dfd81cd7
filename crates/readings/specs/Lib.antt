-- The readings of a course, less the tape rise over its seams, and their tests (document 02, E4); then what the tests promise.
pub mod Reading
pub mod Tests
pub mod CourseLaws
pub mod FitLaws
