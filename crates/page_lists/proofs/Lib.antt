pub mod Counts
pub mod Following
pub mod Unlinking
pub mod Marked
pub mod Opening
pub mod Moves
pub mod TwoLists
