pub mod Found
pub mod Entries
pub mod Told
pub mod Changing
