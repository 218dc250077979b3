mod Counted
mod Dropped
mod Entries
pub mod Lies
mod Marks
mod Offered
mod PageTables
mod Places
mod Swapped
mod Walks
