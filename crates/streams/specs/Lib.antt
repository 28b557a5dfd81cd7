-- What the contracts of reading and writing the whole cite. Assumes nothing.
pub mod Whole
