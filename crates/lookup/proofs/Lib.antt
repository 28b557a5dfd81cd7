pub mod LineLaws
pub mod LitresLaws
pub mod HeightLaws
pub mod AnswerLaws
pub mod DeliveredLaws
