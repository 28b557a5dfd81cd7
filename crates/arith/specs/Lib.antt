-- What the code that divides a product keeps. The definitions that the contracts cite stand in laws.
pub mod QuotientLaws
