pub mod AreCaused
pub mod Laws
