-- The answers as plain numbers, what they promise of rows, heights and files, and that 0 is no refusal.
pub mod Numbers
pub mod Promises
pub mod RefusalLaws
pub mod PromiseLaws
pub mod WordsLaws
