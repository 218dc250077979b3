pub mod Places
pub mod VersionOne
pub mod Versions
pub mod SectionBlocks
pub mod Bodies
