pub mod FirstFree
pub mod Written
pub mod Changes
