pub mod Known
pub mod Views
pub mod Rule
pub mod Plays
pub mod Passes
pub mod Values
pub mod Lent
