-- What the contracts of `arguments` cite. Assumes nothing.
pub mod Words
