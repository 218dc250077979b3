pub mod FreeSeat
pub mod Lost
pub mod Unmet
pub mod Laws
