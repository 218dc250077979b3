pub mod ChargedTable
pub mod Repinned
pub mod SwapTable
pub mod Victim
