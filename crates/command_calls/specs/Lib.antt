pub mod Moves
pub mod CommandCall
