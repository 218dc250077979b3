pub mod Adding
pub mod Beginning
mod Filling
pub mod Holding
mod NextLines
pub mod Saying
