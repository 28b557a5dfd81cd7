-- What the proofs of this crate stand on, and that no rise is larger than its reading.
pub mod RiseLaws
