-- The records of a survey file: deadwood and seam items, and a record as it is told, with the test of one of its numbers; then what a record must have to
-- be read.
pub mod Item
pub mod Record
pub mod RecordLaws
