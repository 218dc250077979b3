pub mod Begins
pub mod Cluster
pub mod NextWrite
