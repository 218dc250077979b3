pub mod Ends
pub mod Concludes
pub mod FaultText
pub mod Tells
pub mod Wrongs
