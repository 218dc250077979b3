pub mod Gives
pub mod SoughtPage
pub mod Cases
pub mod Lifted
pub mod Reads
