pub mod Between
pub mod Controlled
pub mod Laws
pub mod Alone
pub mod Lost
pub mod Refused
