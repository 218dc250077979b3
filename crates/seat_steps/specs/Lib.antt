pub mod Leaving
pub mod Waits
pub mod Steps
pub mod Turns
