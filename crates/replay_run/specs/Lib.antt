pub mod Jobs
pub mod Replayed
pub mod Worked
pub mod Workers
