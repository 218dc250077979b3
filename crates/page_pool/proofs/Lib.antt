pub mod Pages
pub mod Tickets
pub mod Numbers
pub mod Parts
pub mod Whole
pub mod Values
