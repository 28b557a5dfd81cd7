-- A tank as a list of parts: what a part is and holds (Part), a tank's sizes and its own parts (Sizes, Tank, Limits), slabs of each (Slabs), and
-- condition 3 about them (Condition3). The other files are laws.
pub mod Limits
pub mod Sizes
pub mod Part
pub mod Tank
pub mod Slabs
pub mod Condition3
pub mod CylinderLaws
pub mod PartLaws
pub mod TankLaws
pub mod RiseLaws
pub mod FillingLaws
pub mod CellLaws
pub mod LevelLaws
pub mod WidthLaws
pub mod CylinderSlabsLaws
pub mod CylinderCutLaws
pub mod TotalLaws
