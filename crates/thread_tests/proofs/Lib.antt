pub mod Seating
pub mod Tasks
