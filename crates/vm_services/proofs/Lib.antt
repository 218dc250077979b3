pub mod Searches
pub mod LowestLoose
pub mod RangeTests
pub mod Steps
pub mod OneEviction
pub mod AtOnce
