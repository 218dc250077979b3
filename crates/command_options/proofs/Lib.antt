pub mod Rules
pub mod Looks
pub mod Turns
pub mod Walks
pub mod Orders
pub mod Apps
pub mod Values
