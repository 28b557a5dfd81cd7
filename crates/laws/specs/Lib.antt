-- What every crate above cites: picking by a test (Order), one thing exactly when another (Exactly), tests over numbers (Search), finite
-- sums (Sum, and of signed numbers Signed), the integer root (Root), the nearest quotient (Nearest), the floor half of a signed difference
-- (Half), and lists by their rows (Fill). The other files are laws.
pub mod Order
pub mod OrderLaws
pub mod BoolLaws
pub mod Exactly
pub mod ExactlyLaws
pub mod Search
pub mod SearchLaws
pub mod Sum
pub mod SumLaws
pub mod Root
pub mod Nearest
pub mod NearestLaws
pub mod Half
pub mod Signed
pub mod Fill
pub mod FillLaws
