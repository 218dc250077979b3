pub mod TestConfig
