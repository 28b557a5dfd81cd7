-- The rows of a survey's table (Rows), and the laws of net rows, as they are and in memory.
pub mod Rows
pub mod RowLaws
