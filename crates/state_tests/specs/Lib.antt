pub mod TestStore
