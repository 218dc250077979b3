pub mod Counts
pub mod FromHand
pub mod Chosen
