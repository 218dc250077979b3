pub mod TestRows
pub mod TestConfig
