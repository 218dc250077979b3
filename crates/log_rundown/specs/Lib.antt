pub mod Chosen
pub mod NextWrite
pub mod Places
pub mod Standing
pub mod Steps
pub mod Written
