pub mod Carriers
pub mod Counting
pub mod Directions
pub mod Landed
pub mod Lefts
pub mod Standing
