pub mod Same
pub mod Tables
pub mod First
pub mod Landed
pub mod Ranges
pub mod Forgotten
pub mod Whole
pub mod Answered
