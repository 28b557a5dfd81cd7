-- A deadwood item and its limits, its share at a dip height, the sum over a list, and the laws of these. Assumes nothing.
pub mod Item
pub mod ItemLaws
pub mod Share
pub mod ShareLaws
pub mod ListLaws
