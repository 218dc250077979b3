mod Digits
pub mod Spelling
pub mod Splitting
pub mod Pairing
pub mod Codes
