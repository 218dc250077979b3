pub mod AreLegal
pub mod Laws
pub mod Ready
pub mod SerialOrder
