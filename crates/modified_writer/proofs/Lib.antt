pub mod RestStays
pub mod FreeBlocks
pub mod ListedPages
pub mod NextWrites
pub mod ClusterWrites
pub mod Beginnings
