pub mod Serves
pub mod Cases
pub mod Lowest
pub mod OwnFlights
