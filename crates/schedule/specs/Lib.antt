-- The rows of a table (Rows), and their laws.
pub mod Rows
pub mod RowsLaws
