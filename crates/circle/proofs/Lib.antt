pub mod ChordLaws
pub mod WalkLaws
pub mod MirrorLaws
pub mod WholeLaws
pub mod AreaLaws
