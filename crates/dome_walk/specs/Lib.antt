-- A dome as the code walks it (Walk). The other files are laws: of the widths by a quotient, of the lengths along a level, of a level by its faces,
-- and of the levels begun.
pub mod QuotientLaws
pub mod Walk
pub mod WalkLaws
pub mod LevelLaws
pub mod BegunLaws
