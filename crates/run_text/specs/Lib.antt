pub mod Parts
pub mod Printable
pub mod Reported
pub mod Rows
