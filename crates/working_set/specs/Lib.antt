pub mod Slots
pub mod Offers
