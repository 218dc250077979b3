pub mod Ascending
pub mod DumpAfter
pub mod Laws
