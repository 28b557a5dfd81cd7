-- The lines that the programs print, how long they can be, and worked examples.
pub mod Lines
pub mod SignLaws
pub mod SizeLaws
pub mod ExampleLaws
