-- The seams under the tape and their limits with their laws, the tape rise over them and the most that it comes to, and worked
-- examples. The laws of the tape rise stand in proofs/. Assumes nothing.
pub mod Seam
pub mod SeamLaws
pub mod Rise
pub mod RiseLaws
pub mod ExampleLaws
