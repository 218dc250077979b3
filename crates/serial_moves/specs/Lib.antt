pub mod Controls
pub mod Finders
pub mod Requests
pub mod Carriers
