-- Ordered tests, and the first that fails.
pub mod Test
pub mod TestLaws
pub mod PlainLaws
pub mod EachLaws
pub mod FailedLaws
