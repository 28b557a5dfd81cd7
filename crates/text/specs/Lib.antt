-- Text put into lent memory, numbers in digits, and worked examples.
pub mod Ascii
pub mod Put
pub mod PutLaws
pub mod Wrote
pub mod WroteLaws
pub mod Digits
pub mod DigitsLaws
pub mod Grouped
pub mod GroupedLaws
pub mod ExampleLaws
