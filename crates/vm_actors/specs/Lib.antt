pub mod OwnEntries
pub mod Doings
pub mod Between
pub mod Requests
pub mod InTurns
pub mod Ends
