mod Added
mod ListItems
mod SectionBytes
pub mod RowsMade
