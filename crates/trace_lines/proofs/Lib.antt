pub mod Calls
pub mod Blocks
pub mod Overlaps
pub mod PlainForm
