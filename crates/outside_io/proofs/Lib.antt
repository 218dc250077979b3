mod Handing
mod ReadLemmas
mod WriteLemmas
pub mod WritesInTurn
pub mod Pending
pub mod Taking
pub mod Fronts
