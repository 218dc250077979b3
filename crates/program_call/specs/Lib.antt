pub mod Words
pub mod ProgramTells
pub mod ProgramRun
pub mod LineTold
pub mod Explained
