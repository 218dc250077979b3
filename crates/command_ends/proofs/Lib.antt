pub mod Ending
pub mod Concluding
pub mod Telling
pub mod Wronging
