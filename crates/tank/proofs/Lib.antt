pub mod Condition3Laws
pub mod TotalLaws
