pub mod MayBegin
pub mod ReadySeat
pub mod Lifted
pub mod OneRead
