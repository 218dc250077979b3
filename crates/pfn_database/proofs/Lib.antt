pub mod KeptRows
pub mod Changes
pub mod OpeningLists
