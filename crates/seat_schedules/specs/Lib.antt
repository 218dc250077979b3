pub mod AtWork
pub mod Played
