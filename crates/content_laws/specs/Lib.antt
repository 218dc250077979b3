pub mod Begun
pub mod Carried
pub mod Moved
pub mod Laws
pub mod Opening
pub mod Put
pub mod Stability
