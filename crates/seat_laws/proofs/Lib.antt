pub mod OtherSeats
pub mod ReadsFor
pub mod ReadsBegun
pub mod Refusable
pub mod UnmetReferences
pub mod FreeSeats
