pub mod Arrivals
pub mod ComingBack
pub mod FaultReads
pub mod OutBlocks
