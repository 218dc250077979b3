pub mod PageTables
pub mod Packed
