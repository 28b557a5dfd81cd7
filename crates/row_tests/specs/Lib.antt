-- The tests of a table's rows (Tests), what a verdict on them leaves of the lent table (Left), and the laws of these.
pub mod Tests
pub mod Left
pub mod RowTestLaws
