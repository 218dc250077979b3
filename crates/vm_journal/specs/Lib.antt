pub mod Journal
pub mod Line
pub mod HasLine
pub mod Own
