-- The height of the liquid in a part of the tank (ShellHeight), corrected from a dip height (Correction). The laws of
-- the corrected height stand in proofs/.
pub mod ShellHeight
pub mod Correction
