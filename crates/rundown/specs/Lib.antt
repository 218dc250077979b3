pub mod Cleanings
pub mod Places
pub mod Cleans
pub mod DirtyPages
