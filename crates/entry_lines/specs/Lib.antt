pub mod Front
pub mod OfKind
pub mod Printable
