mod Asking
mod SixLetters
pub mod Obeying
mod Served
mod ShownDumps
mod ReplaysCaused
