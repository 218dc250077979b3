pub mod Hex
pub mod Readings
pub mod Names
pub mod Named
pub mod References
pub mod States
pub mod Services
pub mod Spaced
