pub mod CommandLine
pub mod LeastOf
pub mod StudyText
pub mod Answered
pub mod Undeclared
