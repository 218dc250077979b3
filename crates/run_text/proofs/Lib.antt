pub mod DirtyPages
mod LinesLeft
mod PrintableRows
pub mod Prints
mod RowsLeft
pub mod RowsPushed
mod RunParts
