pub mod Growing
pub mod MadeIsWellFormed
