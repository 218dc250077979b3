pub mod Asking
pub mod Printed
pub mod Answering
pub mod Undeclaring
