pub mod Told
pub mod Body
pub mod DepotView
pub mod MemoryBlock
pub mod MemoryDepot
pub mod PlainBlock
