pub mod CheckText
pub mod Answers
pub mod CheckTells
pub mod Verdicts
