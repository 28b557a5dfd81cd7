-- The quantities as plain numbers (Quantity), the limits of a diameter (Diameter), and pi (Pi).
pub mod Size
pub mod Quantity
pub mod Diameter
pub mod Pi
