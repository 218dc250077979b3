pub mod CarrierView
pub mod LiftsFit
pub mod Carrying
pub mod Counted
