pub mod CarriedOn
pub mod HaveLanded
pub mod Moved
pub mod Outside
pub mod SeatFlights
