pub mod Tallies
pub mod Recorded
