pub mod FirstPages
pub mod Layable
