-- The circle of document 01, 'Volume', and what the code holds on its way: a number kept with its root (Kept), and a walk up the circle (Walk).
-- The other files are laws, here of a number kept; those of the chords, the area below a height, a circle turned over and a level up stand in proofs/.
pub mod Circle
pub mod Kept
pub mod KeptLaws
pub mod Walk
pub mod WalkLaws
