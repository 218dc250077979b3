mod Choices
mod Clusters
mod FreeBlocks
mod Leads
mod Ranges
mod SharedPlaces
