-- The sentences by their numbers, how their blanks are filled in and how long they can be, that each refusal's is there, and worked examples.
pub mod Blanks
pub mod Text
pub mod TextLaws
pub mod Sentences
pub mod SizeLaws
pub mod KnownLaws
pub mod ExampleLaws
