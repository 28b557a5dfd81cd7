pub mod SurveyLaws
pub mod ExampleLaws
pub mod IgnoredLaws
