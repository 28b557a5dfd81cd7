-- Document 01, 'Lookups': what a sound table is (Table), the value on the line between two rows (Line), the litres at a height
-- (Litres), the lowest height for a volume (Height), the answers (Answer), and the litres delivered between two heights (Delivered).
-- The other files are the interval of heights that a search halves (HeightLaws), the laws of a table, and a worked example; further laws
-- stand in proofs/.
pub mod Table
pub mod TableLaws
pub mod Line
pub mod Litres
pub mod Height
pub mod HeightLaws
pub mod Answer
pub mod Delivered
pub mod ExampleLaws
