-- A dome, a spherical cap head (document 02, E2): its level width (Width), its cells (Cell) and their totals (Dome). The other files are laws.
pub mod Width
pub mod Cell
pub mod Dome
