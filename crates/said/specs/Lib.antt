-- What is said of an answer in hand, on standard output and on standard error.
pub mod Said
pub mod Rows
pub mod SaidLaws
