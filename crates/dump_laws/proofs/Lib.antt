pub mod Numbers
pub mod Entries
pub mod Shared
pub mod Bounded
pub mod NoneWrong
