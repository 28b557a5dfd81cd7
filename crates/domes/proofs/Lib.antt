pub mod WidthLaws
pub mod CellLaws
pub mod CutLaws
pub mod TotalLaws
