pub mod Overs
pub mod Finishing
pub mod Serving
pub mod Running
pub mod Dumping
mod PartsInLine
mod Tallies
mod MakeOptions
pub mod Making
