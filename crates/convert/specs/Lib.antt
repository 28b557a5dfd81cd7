-- What converting an old file gives, and that what was made of the old file is made of the new one.
pub mod Converted
pub mod ConvertedLaws
