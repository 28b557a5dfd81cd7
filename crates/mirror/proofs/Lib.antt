-- The laws of parts, of a tank, and of a survey and its table, turned over.
pub mod PartLaws
pub mod GrossLaws
pub mod TableLaws
