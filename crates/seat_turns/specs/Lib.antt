pub mod Steps
pub mod Begun
pub mod Rests
pub mod Worked
pub mod Stepping
