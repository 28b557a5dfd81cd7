-- The numbers of a survey file as documents 01 and 02 limit them, and their tests; then what the tests promise.
pub mod Limits
pub mod Tests
pub mod FitLaws
