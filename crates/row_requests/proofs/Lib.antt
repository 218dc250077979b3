pub mod Flat
pub mod Joins
pub mod MappedRanges
pub mod Places
pub mod Roles
pub mod Slots
