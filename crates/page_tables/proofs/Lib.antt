pub mod EntryWords
pub mod Entries
pub mod Changes
