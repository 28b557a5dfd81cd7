-- The survey file as documents 01 and 02 judge it: the whole ordered list of tests, and the survey that a file holds; then what the tests promise, when the
-- course lengths miss L1 by too much and caps are too long for D2, and that bytes in no section are ignored.
pub mod Contents
pub mod Tests
pub mod Survey
pub mod SurveyLaws
pub mod Held
pub mod LimitLaws
pub mod KnownLaws
pub mod IgnoredLaws
pub mod DimensionLaws
pub mod ExactlyLaws
pub mod ExampleLaws
pub mod RefusedExampleLaws
