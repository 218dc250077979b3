pub mod Adds
pub mod Causes
