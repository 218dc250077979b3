pub mod Victims
pub mod SeenSlots
pub mod Looks
pub mod Runs
pub mod Cases
pub mod Swaps
