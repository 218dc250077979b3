pub mod Marked
pub mod TableSet
