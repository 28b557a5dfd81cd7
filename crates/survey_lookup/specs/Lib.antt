-- A survey file's own table, and the lookups on it, in hand or straight from a survey file.
pub mod Tabled
pub mod Answer
pub mod TabledLaws
pub mod AnsweredLaws
