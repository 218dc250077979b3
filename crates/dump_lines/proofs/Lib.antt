pub mod Raising
pub mod EntryFound
pub mod DumpBounds
pub mod LinesLeft
pub mod Tallying
