pub mod Places
pub mod Rows
pub mod Blocks
pub mod Counts
mod AllBack
mod Listed
mod Changed
mod Kept
mod Ordered
mod Sorting
mod Taking
pub mod StoreKept
