-- The survey file as documents 01 and 02 lay it out: words, the places of its numbers, formats and sections; then what a format must have to be read,
-- and what a section that is well placed promises.
pub mod Word
pub mod Lengths
pub mod Layout
pub mod Format
pub mod Limits
pub mod Place
pub mod Section
pub mod SectionLaws
