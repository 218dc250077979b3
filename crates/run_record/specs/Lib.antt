pub mod Tallies
pub mod RunRecord
